use Rattle.std.proofs.Common.{None}
use Rattle.hx_ebtree.specs.KeyList.{without}
use Rattle.hx_ebtree.proofs.NodeLemmas.{kept_live}
use Rattle.hx_ebtree.proofs.FrameLemmas.{tree_updated, listed_live, gone_off}
use Rattle.hx_cases_drivers.proofs.trees.Entries.pop.Goals as goal

pub give-node-requires : goal.give-node-requires
give-node-requires g c =
    let s = c.self.invariant in
    let p = c.pop_any.ensures.some s.0 c.in-Some.id s.1 c.in-Some.is in
    kept_live c.self.inside.pool c.pop_any.new.pool c.in-Some.id c.pop_any.ensures.kept (listed_live c.self.inside.pool c.self.inside.tree s.0 c.in-Some.id s.1 p.0)

pub invariant_of-self : goal.invariant_of-self
invariant_of-self g c =
    let s = c.self.invariant in
    let p = c.pop_any.ensures.some s.0 c.in-Some.id s.1 c.in-Some.is in (
      without c.in-Some.id s.0,
      tree_updated c.pop_any.new.pool c.give-node.new.self c.pop_any.new.self (without c.in-Some.id s.0) c.in-Some.id None c.give-node.ensures.updates (gone_off c.in-Some.id s.0) p.1,
    )

pub invariant_of-self-in-Some-2 : goal.invariant_of-self-in-Some-2
invariant_of-self-in-Some-2 g c =
    let s = c.self.invariant in
    let p = c.pop_any.ensures.some s.0 c.in-Some.id s.1 c.in-Some.is in (
      without c.in-Some.id s.0,
      tree_updated c.pop_any.new.pool c.give-node.new.self c.pop_any.new.self (without c.in-Some.id s.0) c.in-Some.id None c.give-node.ensures.updates (gone_off c.in-Some.id s.0) p.1,
    )
