use Rattle.std.proofs.Common.{sym, ap, ◌∙◌}
use Rattle.hx_ebtree.specs.KeyList.{longest_of}
use Rattle.hx_index.specs.declared.part.Part.TheVariants.{Wide}
use Rattle.hx_index.specs.Index.{in_part, key_pairs}
use Rattle.hx_index.specs.Search.{ipv6_bits}
use Rattle.hx_index.proofs.index.Index.prefix_node.Goals as goal

pub returns-in-None-clause-found : goal.returns-in-None-clause-found
returns-in-None-clause-found g c items h =
    let wide = key_pairs (in_part Wide items) in
    let own = sym (c.ipv4_node.ensures.found items h) ∙ c.in-None.is in
    let other = c.ipv6_node.ensures.found items h ∙ ap (λ address. longest_of wide (ipv6_bits address)) c.map4to6.ensures in
    rw (c.in-V4.is, own) other
