use Rattle.std.proofs.Common.{◌++◌, ◌∷◌, [], None}
use Rattle.hx_ebtree.specs.Node.{key_of}
use Rattle.hx_ebtree.specs.KeyList.{without}
use Rattle.hx_ebtree.specs.Tree.{Stands}
use Rattle.hx_ebtree.proofs.NodeLemmas.{kept_live}
use Rattle.hx_ebtree.proofs.FrameLemmas.{tree_frame, tree_updated, free_off, listed_live, gone_off, last_listed}
use Rattle.hx_cases_drivers.proofs.trees.Entries.add_and_take_out.Goals as goal

pub insert-requires-clause-stands : goal.insert-requires-clause-stands
insert-requires-clause-stands g c =
    let s = c.self.invariant in
    let reserved : Stands c.reserve.new.self c.self.inside.tree s.0 = tree_frame c.self.inside.pool c.reserve.new.self c.self.inside.tree s.0 (λ k _. c.reserve.ensures.values k) s.1 in
    let off = free_off c.reserve.new.self c.self.inside.tree s.0 c.take-id.result reserved c.take-id.ensures.was_free in
    (s.0, tree_updated c.reserve.new.self c.take-id.new.self c.self.inside.tree s.0 c.take-id.result _ c.take-id.ensures.updates off reserved, off)

pub remove-requires : goal.remove-requires
remove-requires g c =
    let s = c.self.invariant in
    let reserved : Stands c.reserve.new.self c.self.inside.tree s.0 = tree_frame c.self.inside.pool c.reserve.new.self c.self.inside.tree s.0 (λ k _. c.reserve.ensures.values k) s.1 in
    let off = free_off c.reserve.new.self c.self.inside.tree s.0 c.take-id.result reserved c.take-id.ensures.was_free in
    let taken : Stands c.take-id.new.self c.self.inside.tree s.0 = tree_updated c.reserve.new.self c.take-id.new.self c.self.inside.tree s.0 c.take-id.result _ c.take-id.ensures.updates off reserved in
    (s.0 ++ (key_of c.new-2.result, c.take-id.result) ∷ [], c.insert.ensures.stands s.0 c.new-2.result taken off c.take-id.ensures.updates.changed, last_listed s.0 (key_of c.new-2.result) c.take-id.result)

pub give-node-requires : goal.give-node-requires
give-node-requires g c =
    let s = c.self.invariant in
    let reserved : Stands c.reserve.new.self c.self.inside.tree s.0 = tree_frame c.self.inside.pool c.reserve.new.self c.self.inside.tree s.0 (λ k _. c.reserve.ensures.values k) s.1 in
    let off = free_off c.reserve.new.self c.self.inside.tree s.0 c.take-id.result reserved c.take-id.ensures.was_free in
    let taken : Stands c.take-id.new.self c.self.inside.tree s.0 = tree_updated c.reserve.new.self c.take-id.new.self c.self.inside.tree s.0 c.take-id.result _ c.take-id.ensures.updates off reserved in
    let put : Stands c.insert.new.pool c.insert.new.self (s.0 ++ (key_of c.new-2.result, c.take-id.result) ∷ []) = c.insert.ensures.stands s.0 c.new-2.result taken off c.take-id.ensures.updates.changed in
    kept_live c.insert.new.pool c.remove.new.pool c.take-id.result c.remove.ensures.kept
    (listed_live c.insert.new.pool c.insert.new.self (s.0 ++ (key_of c.new-2.result, c.take-id.result) ∷ []) c.take-id.result put (last_listed s.0 (key_of c.new-2.result) c.take-id.result))

pub invariant_of-self-2 : goal.invariant_of-self-2
invariant_of-self-2 g c =
    let s = c.self.invariant in
    let reserved : Stands c.reserve.new.self c.self.inside.tree s.0 = tree_frame c.self.inside.pool c.reserve.new.self c.self.inside.tree s.0 (λ k _. c.reserve.ensures.values k) s.1 in
    let off = free_off c.reserve.new.self c.self.inside.tree s.0 c.take-id.result reserved c.take-id.ensures.was_free in
    let taken : Stands c.take-id.new.self c.self.inside.tree s.0 = tree_updated c.reserve.new.self c.take-id.new.self c.self.inside.tree s.0 c.take-id.result _ c.take-id.ensures.updates off reserved in
    let all = s.0 ++ (key_of c.new-2.result, c.take-id.result) ∷ [] in
    let put : Stands c.insert.new.pool c.insert.new.self (s.0 ++ (key_of c.new-2.result, c.take-id.result) ∷ []) = c.insert.ensures.stands s.0 c.new-2.result taken off c.take-id.ensures.updates.changed in (
      without c.take-id.result all,
      tree_updated c.remove.new.pool c.give-node.new.self c.remove.new.self (without c.take-id.result all) c.take-id.result None c.give-node.ensures.updates (gone_off c.take-id.result all)
          (c.remove.ensures.stands all put (last_listed s.0 (key_of c.new-2.result) c.take-id.result)),
    )
