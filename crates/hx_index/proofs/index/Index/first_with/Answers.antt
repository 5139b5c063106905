use Rattle.std.proofs.Common.{◌∙◌, arith}
use Rattle.hx_index.specs.declared.part.Part.TheVariants.{Keyed}
use Rattle.hx_index.specs.Index.{in_part, key_pairs}
use Rattle.hx_index.proofs.KeyLemmas.{first_entry, first_live, first_node, first_none}
use Rattle.hx_index.proofs.index.Index.first_with.Goals as goal

pub exact-node-requires-clause-stands : goal.exact-node-requires-clause-stands
exact-node-requires-clause-stands g c =
    let r = c.requires.holds in (key_pairs (in_part Keyed r.0), r.1.parts Keyed)

pub node_entry-requires : goal.node_entry-requires
node_entry-requires g c id some =
    let r = c.requires.holds in
    let n = c.args.nodes.now in
    let self = c.args.self.now in
    let is = first_node n self r.0 r.1 c.requires.keeps c.args.text.now c.exact-node.result (λ k. (c.type_inv.text k).fits) (c.exact-node.ensures.found (key_pairs (in_part Keyed r.0)) (r.1.parts Keyed)) in
    first_live n self r.0 r.1 c.requires.keeps c.args.text.now c.exact-node.result id is some

pub returns-then-text-gt-LONGEST-clause-found : goal.returns-then-text-gt-LONGEST-clause-found
returns-then-text-gt-LONGEST-clause-found g c items h =
    first_none c.args.nodes.now c.args.self.now items h c.requires.keeps c.args.text.now (omega arith)

pub returns-clause-found : goal.returns-clause-found
returns-clause-found g c items h =
    let n = c.args.nodes.now in
    let self = c.args.self.now in
    let is = first_node n self items h c.requires.keeps c.args.text.now c.exact-node.result (λ k. (c.type_inv.text k).fits) (c.exact-node.ensures.found (key_pairs (in_part Keyed items)) (h.parts Keyed)) in
    c.node_entry.ensures.entry ∙ first_entry n self items h c.requires.keeps c.args.text.now c.exact-node.result is
