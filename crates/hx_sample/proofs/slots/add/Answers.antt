use Rattle.std.proofs.Common.{[], ◌∷◌, ◌++◌, Some, sym, subst, ◌∙◌}
use Rattle.hx_pool.proofs.LyingLemmas.{lies_same}
use Rattle.hx_sample.specs.Slots.{ChangesSlot, variable_links}
use Rattle.hx_sample.proofs.ChangeLemmas.{turned_from}
use Rattle.hx_sample.proofs.slots.add.Goals as goal

pub put_last-requires-clause-lies : goal.put_last-requires-clause-lies
put_last-requires-clause-lies g c =
    let r = c.requires in
    (r.0, lies_same variable_links c.args.slots.now c.reserve.new.self c.args.chain.now r.0 r.1 c.reserve.ensures.values)

pub returns-clause-ok : goal.returns-clause-ok
returns-clause-ok g c xs lies =
    let p = c.args.slots.now in
    let r = c.reserve.new.self in
    let same = c.reserve.ensures.values in
    let t = c.put_last.ensures xs (lies_same variable_links p r c.args.chain.now xs lies same) in (
      t.0,
      sym (same t.0) ∙ t.1,
      subst (λ name. ChangesSlot p c.put_last.new.slots c.put_last.new.chain c.args.owner xs (xs ++ t.0 ∷ []) t.0 (Some (record { owner = c.args.owner; name = name; value = c.args.value })))
          (c.in_ok-name.ensures ∙ c.as_slice.ensures)
          (turned_from p r c.put_last.new.slots c.put_last.new.chain c.args.owner xs (xs ++ t.0 ∷ []) t.0 _ same t.2),
    )
