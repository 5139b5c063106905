use Rattle.std.proofs.Common.{◌++◌, ◌∷◌, length, refl, ap, subst, ◌∙◌, arith}
use Rattle.std.proofs.lemmas.List.{map-append}
use Rattle.std.proofs.lemmas.Option.{slice_get_read}
use Rattle.hx_index.specs.Index.{Holds, ignores_case, method_of}
use Rattle.hx_versions.specs.StoredEntries.{stored_nodes}
use Rattle.hx_versions.specs.Contents.{item_of, items_of}
use Rattle.hx_versions.proofs.KeyLemmas.{first_is, is_within, read_keeps}
use Rattle.hx_versions.proofs.PlacedLemmas.{entry_live, entry_nodes, nodes_count}
use Rattle.hx_versions.proofs.ReachLemmas.{node_here, node_is}
use Rattle.hx_versions.proofs.content.Content.next_with.Goals as goal

pub get-stored-requires : goal.get-stored-requires
get-stored-requires g c =
    let r = c.requires.content in
    entry_live c.args.entries.now c.args.nodes.now r.0 c.args.self.now r.1 r.2 r.3 c.args.slot r.4 r.5

pub get-node-requires : goal.get-node-requires
get-node-requires g c =
    let r = c.requires.content in
    let e = c.args.entries.now in
    let n = c.args.nodes.now in
    let self = c.args.self.now in
    let same = entry_nodes e n r.0 self r.1 r.2 r.3 c.args.slot r.4 r.5 c.get-stored.result.now c.get-stored.ensures.value in
    omega (arith, ap length same, nodes_count e n r.0 self r.1 r.2 r.3 c.args.slot r.4 r.5, is_within self.indexes.items c.args.at c.requires.index)

pub index-index-requires : goal.index-index-requires
index-index-requires g c =
    omega (arith, is_within c.args.self.now.indexes.items c.args.at c.requires.index, c.args.self.now.indexes.ok.0)

pub next_with-requires-clause-keeps : goal.next_with-requires-clause-keeps
next_with-requires-clause-keeps g c =
    read_keeps c.args.self.now.indexes.items c.args.at c.index-index.result.now c.index-index.ensures c.requires.index

pub next_with-requires-clause-holds : goal.next_with-requires-clause-holds
next_with-requires-clause-holds g c =
    let r = c.requires.content in
    let e = c.args.entries.now in
    let n = c.args.nodes.now in
    let self = c.args.self.now in
    let at = c.args.at in
    let indexes = self.indexes.items in
    let index = c.index-index.result.now in
    let here = slice_get_read indexes _ at index refl (is_within indexes at c.requires.index) c.index-index.ensures in
    let f = item_of at (method_of index) (ignores_case index) in
    let same = entry_nodes e n r.0 self r.1 r.2 r.3 c.args.slot r.4 r.5 c.get-stored.result.now c.get-stored.ensures.value in (
      items_of (r.1 ++ r.2 ∷ r.3) at (method_of index) (ignores_case index),
      r.5.indexes.holds at index here,
      node_here f c.get-node.result r.1 r.2 r.3 (node_is r.2 (stored_nodes c.get-stored.result.now) at c.get-node.result (length indexes) same (nodes_count e n r.0 self r.1 r.2 r.3 c.args.slot r.4 r.5) (is_within indexes at c.requires.index) c.get-node.ensures),
    )

pub returns-clause-found : goal.returns-clause-found
returns-clause-found g c v before p after here h =
    let e = c.args.entries.now in
    let n = c.args.nodes.now in
    let self = c.args.self.now in
    let at = c.args.at in
    let indexes = self.indexes.items in
    let index = c.index-index.result.now in
    let stands = slice_get_read indexes _ at index refl (is_within indexes at c.requires.index) c.index-index.ensures in
    let f = item_of at (method_of index) (ignores_case index) in
    let same = entry_nodes e n v self before p after c.args.slot here h c.get-stored.result.now c.get-stored.ensures.value in
    let holds = subst (Holds n index) (map-append f before (p ∷ after)) (h.indexes.holds at index stands) in
    c.next_with.ensures.found (items_of before at (method_of index) (ignores_case index)) (f p) (items_of after at (method_of index) (ignores_case index))
    (node_is p (stored_nodes c.get-stored.result.now) at c.get-node.result (length indexes) same (nodes_count e n v self before p after c.args.slot here h) (is_within indexes at c.requires.index) c.get-node.ensures) holds
    ∙ first_is at (method_of index) (ignores_case index) p.entry.key after
