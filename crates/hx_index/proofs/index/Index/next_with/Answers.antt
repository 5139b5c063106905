use Rattle.std.proofs.Common.{◌++◌, ◌∷◌, map, filter, subst, sym, ◌∙◌}
use Rattle.hx_pool.specs.Chain.{IsIn}
use Rattle.hx_index.specs.declared.part.Part.TheVariants.{Keyed}
use Rattle.hx_index.specs.Items.{nodes_of}
use Rattle.hx_index.specs.Parts.{text_bits}
use Rattle.hx_index.specs.Index.{Holds, has_text, in_part, key_pairs}
use Rattle.hx_index.proofs.ItemLemmas.{ids_are}
use Rattle.hx_index.proofs.FindingLemmas.{item_node, item_text}
use Rattle.hx_index.proofs.KeyLemmas.{all_keyed, next_entry, next_live, numbers_here, split_node}
use Rattle.hx_index.proofs.index.Index.next_with.Goals as goal

pub next_same-next-requires : goal.next_same-next-requires
next_same-next-requires g c =
    let r = c.requires.holds in
    let n = c.args.nodes.now in
    let self = c.args.self.now in
    let there = subst (λ xs. IsIn c.args.node (nodes_of xs)) (sym (all_keyed n self r.0 r.1 c.requires.keeps)) r.2 in
    (key_pairs (in_part Keyed r.0), r.1.parts Keyed, subst (IsIn c.args.node) (sym (ids_are (in_part Keyed r.0))) there)

pub node_entry-requires : goal.node_entry-requires
node_entry-requires g c id some =
    let r = c.requires.holds in
    let n = c.args.nodes.now in
    let self = c.args.self.now in
    let at = split_node r.0 c.args.node r.2 in
    let h = subst (Holds n self) at.3 r.1 in
    let is = c.next_same-next.ensures.next (key_pairs (in_part Keyed (at.0 ++ at.1 ∷ at.2))) (text_bits (item_text at.1))
    (map item_node (filter (has_text (item_text at.1)) at.0)) (map item_node (filter (has_text (item_text at.1)) at.2)) (h.parts Keyed)
    (numbers_here n self at.0 at.1 at.2 h c.requires.keeps c.args.node at.4) in
    next_live n self at.0 at.1 at.2 h c.requires.keeps c.next_same-next.result id is some

pub returns-clause-found : goal.returns-clause-found
returns-clause-found g c before item after here h =
    let n = c.args.nodes.now in
    let self = c.args.self.now in
    let is = c.next_same-next.ensures.next (key_pairs (in_part Keyed (before ++ item ∷ after))) (text_bits (item_text item))
    (map item_node (filter (has_text (item_text item)) before)) (map item_node (filter (has_text (item_text item)) after)) (h.parts Keyed)
    (numbers_here n self before item after h c.requires.keeps c.args.node here) in
    c.node_entry.ensures.entry ∙ next_entry n self before item after h c.requires.keeps c.next_same-next.result is
