use Rattle.std.proofs.Common.{◌++◌, subst}
use Rattle.hx_pool.specs.Chain.{LiesIn}
use Rattle.hx_pool.proofs.LyingLemmas.{lies_live, relinked_live}
use Rattle.hx_sample.specs.Slots.{IsSameVariable, variable_links}
use Rattle.hx_sample.proofs.ChangeLemmas.{around, drop_turns}
use Rattle.hx_sample.proofs.slots.drop_at.Goals as goal

pub unlink-requires : goal.unlink-requires
unlink-requires g c =
    let r = c.requires in
    let a = around c.args.id r.0 r.2 in
    (a.before, a.after, subst (LiesIn variable_links c.args.slots.now c.args.chain.now) a.is r.1)

pub give-variable-requires : goal.give-variable-requires
give-variable-requires g c =
    let r = c.requires in
    relinked_live IsSameVariable c.args.slots.now c.unlink.new.pool c.args.id c.unlink.ensures.values (lies_live variable_links c.args.slots.now c.args.chain.now r.0 c.args.id r.1 r.2)

pub returns-clause-turns : goal.returns-clause-turns
returns-clause-turns g c owner xs h there =
    let p = c.args.slots.now in
    let r = c.unlink.new.pool in
    let a = around c.args.id xs there in
    let about = subst (LiesIn variable_links p c.args.chain.now) a.is h.lies in (
      a.before ++ a.after,
      drop_turns p r c.give-variable.new.self c.args.chain.now c.unlink.new.self owner xs c.args.id a h c.unlink.ensures.values c.give-variable.ensures.updates
          (c.unlink.ensures.lies a.before a.after about) (λ zs e apart lies. c.unlink.ensures.apart a.before a.after zs e about apart lies),
    )
