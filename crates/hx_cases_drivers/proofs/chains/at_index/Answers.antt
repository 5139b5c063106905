use Rattle.std.proofs.Common.{subst}
use Rattle.hx_pool.specs.Chain.{LiesIn}
use Rattle.hx_cases_drivers.specs.declared.chains.Item.{Item}
use Rattle.hx_cases_drivers.proofs.WalkLemmas.{walk_split, walk_goes_on}
use Rattle.hx_cases_drivers.proofs.chains.at_index.Goals as goal

pub next-at-requires : goal.next-at-requires
next-at-requires g c =
    let r = c.requires in
    let s = walk_split r.0 c.loop-passed.at c.in-Some.id (c.loop-passed.invariant r.0 r.1) c.in-Some.is in
    (s.0, s.1, subst (LiesIn (λ (item : Item). item.links) c.args.pool.now c.args.chain.now) s.2 r.1)

pub loop-passed-preserved : goal.loop-passed-preserved
loop-passed-preserved g c xs lies =
    let s = walk_split xs c.loop-passed.at c.in-Some.id (c.loop-passed.invariant xs lies) c.in-Some.is in
    walk_goes_on xs c.in-Some.id c.next-at.result s (c.next-at.ensures.next s.0 s.1 (subst (LiesIn (λ (item : Item). item.links) c.args.pool.now c.args.chain.now) s.2 lies))

pub returns : goal.returns
returns g c xs lies id e =
    let s = walk_split xs c.loop-passed.at id (c.loop-passed.invariant xs lies) e in
    (s.0, s.1, s.2)
