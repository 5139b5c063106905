use Rattle.std.proofs.Common.{◌++◌, ◌∷◌, []}
use Rattle.hx_ebtree.specs.Node.{key_of}
use Rattle.hx_ebtree.specs.Tree.{Stands}
use Rattle.hx_ebtree.proofs.FrameLemmas.{tree_frame, tree_updated, free_off}
use Rattle.hx_cases_drivers.proofs.trees.Entries.add.Goals as goal

pub insert-requires-clause-stands : goal.insert-requires-clause-stands
insert-requires-clause-stands g c =
    let s = c.self.invariant in
    let reserved : Stands c.reserve.new.self c.self.inside.tree s.0 = tree_frame c.self.inside.pool c.reserve.new.self c.self.inside.tree s.0 (λ k _. c.reserve.ensures.values k) s.1 in
    let off = free_off c.reserve.new.self c.self.inside.tree s.0 c.take-id.result reserved c.take-id.ensures.was_free in
    (s.0, tree_updated c.reserve.new.self c.take-id.new.self c.self.inside.tree s.0 c.take-id.result _ c.take-id.ensures.updates off reserved, off)

pub invariant_of-self-2 : goal.invariant_of-self-2
invariant_of-self-2 g c =
    let s = c.self.invariant in
    let reserved : Stands c.reserve.new.self c.self.inside.tree s.0 = tree_frame c.self.inside.pool c.reserve.new.self c.self.inside.tree s.0 (λ k _. c.reserve.ensures.values k) s.1 in
    let off = free_off c.reserve.new.self c.self.inside.tree s.0 c.take-id.result reserved c.take-id.ensures.was_free in
    let taken : Stands c.take-id.new.self c.self.inside.tree s.0 = tree_updated c.reserve.new.self c.take-id.new.self c.self.inside.tree s.0 c.take-id.result _ c.take-id.ensures.updates off reserved in
    (s.0 ++ (key_of c.new-2.result, c.take-id.result) ∷ [], c.insert.ensures.stands s.0 c.new-2.result taken off c.take-id.ensures.updates.changed)
