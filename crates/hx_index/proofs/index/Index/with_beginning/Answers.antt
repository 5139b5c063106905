use Rattle.std.proofs.Common.{subst, sym, ◌∙◌}
use Rattle.hx_sample.specs.declared.sample.Value.TheVariants as value
use Rattle.hx_index.specs.declared.part.Part.TheVariants.{Keyed}
use Rattle.hx_index.specs.Index.{in_part, key_pairs}
use Rattle.hx_index.proofs.FindingLemmas.{IsBytes, bytes_cut, entry_by_node, longest_node, node_live}
use Rattle.hx_index.proofs.index.Index.with_beginning.Goals as goal

pub longest-node-requires-clause-stands : goal.longest-node-requires-clause-stands
longest-node-requires-clause-stands g c =
    let r = c.requires.holds in (key_pairs (in_part Keyed r.0), r.1.parts Keyed)

pub node_entry-requires : goal.node_entry-requires
node_entry-requires g c id some =
    let r = c.requires.holds in
    let bytes = subst IsBytes (sym c.beginning-text.ensures.part) (bytes_cut 1152921504606846976 c.args.text.now (λ k. (c.type_inv.text k).fits)) in
    let is = longest_node c.args.nodes.now c.args.self.now r.0 r.1 c.args.text.now c.beginning-text.result.now c.longest-node.result c.requires.search c.beginning-text.ensures.part bytes (c.longest-node.ensures.found (key_pairs (in_part Keyed r.0)) (r.1.parts Keyed)) in
    node_live c.args.nodes.now c.args.self.now r.0 r.1 (value.Str c.args.text.now) c.longest-node.result id is some

pub returns-clause-found : goal.returns-clause-found
returns-clause-found g c items h =
    let bytes = subst IsBytes (sym c.beginning-text.ensures.part) (bytes_cut 1152921504606846976 c.args.text.now (λ k. (c.type_inv.text k).fits)) in
    let is = longest_node c.args.nodes.now c.args.self.now items h c.args.text.now c.beginning-text.result.now c.longest-node.result c.requires.search c.beginning-text.ensures.part bytes (c.longest-node.ensures.found (key_pairs (in_part Keyed items)) (h.parts Keyed)) in
    c.node_entry.ensures.entry ∙ entry_by_node c.args.nodes.now c.args.self.now items (value.Str c.args.text.now) c.longest-node.result h is
