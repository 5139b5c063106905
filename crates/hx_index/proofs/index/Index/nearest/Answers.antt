use Rattle.std.proofs.Common.{◌≡◌, ℕ, Option, Some, option_map, refl, sym, ap, ◌∙◌}
use Rattle.hx_ebtree.specs.Node.{entry_of}
use Rattle.hx_sample.specs.Seen.{value_of}
use Rattle.hx_sample.specs.declared.sample.Value.TheVariants as value
use Rattle.hx_index.specs.declared.part.Part.TheVariants.{Listed}
use Rattle.hx_index.specs.Index.{entry_found, in_part}
use Rattle.hx_index.specs.Search.{first_hit_of}
use Rattle.hx_index.proofs.FindingLemmas.{entry_by_node, if_ok, no_address, node_live}
use Rattle.hx_index.proofs.PrefixLemmas.{nearest_other, prefix_found, prefix_none}
use Rattle.hx_index.proofs.index.Index.nearest.Goals as goal

pub get-requires : goal.get-requires
get-requires g c =
    let r = c.requires.holds in
    let is = prefix_found c.args.nodes.now c.args.self.now r.0 r.1 c.requires.search c.in-Ip.ip c.prefix_node.result c.in-Some.node c.prefix_node.ensures.fits (c.prefix_node.ensures.found r.0 r.1) c.in-Some.is in
    node_live c.args.nodes.now c.args.self.now r.0 r.1 (value.Ip c.in-Ip.ip) (Some c.in-Some.node) c.in-Some.node is refl

pub returns-in-Some-clause-found : goal.returns-in-Some-clause-found
returns-in-Some-clause-found g c items h =
    let is = prefix_found c.args.nodes.now c.args.self.now items h c.requires.search c.in-Ip.ip c.prefix_node.result c.in-Some.node c.prefix_node.ensures.fits (c.prefix_node.ensures.found items h) c.in-Some.is in
    ap Some c.entry.ensures ∙ sym (ap (option_map entry_of) c.get.ensures.value)
    ∙ entry_by_node c.args.nodes.now c.args.self.now items (value.Ip c.in-Ip.ip) (Some c.in-Some.node) h is
    ∙ ap (entry_found c.args.self.now items) (sym (ap value_of c.in-Ip.is))

pub returns-in-None-clause-found : goal.returns-in-None-clause-found
returns-in-None-clause-found g c items h =
    let shown : value_of c.args.sample.now ≡ value.Ip c.in-Ip.ip = ap value_of c.in-Ip.is in
    if_ok c.first_hit.result (λ (entry : Option ℕ). entry ≡ first_hit_of (value_of c.args.sample.now) (in_part Listed items)) (λ (entry : Option ℕ). entry ≡ entry_found c.args.self.now items (value_of c.args.sample.now))
    (λ entry is.
    prefix_none c.args.nodes.now c.args.self.now items h c.requires.search c.in-Ip.ip c.prefix_node.result entry c.prefix_node.ensures.fits (c.prefix_node.ensures.found items h) c.in-None.is
    (is ∙ ap (λ v. first_hit_of v (in_part Listed items)) shown)
    ∙ ap (entry_found c.args.self.now items) (sym shown))
    (c.first_hit.ensures.found items h)

pub returns-in_default-clause-found : goal.returns-in_default-clause-found
returns-in_default-clause-found g c items h =
    nearest_other c.args.nodes.now c.args.self.now items (value_of c.args.sample.now) h c.requires.search (no_address c.args.sample.now c.in_default.not-Ip)
