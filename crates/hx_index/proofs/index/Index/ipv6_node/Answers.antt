use Rattle.std.proofs.Common.{ap, ◌∙◌}
use Rattle.hx_ebtree.specs.Bits.{bits_of}
use Rattle.hx_ebtree.specs.KeyList.{longest_of}
use Rattle.hx_index.specs.declared.part.Part.TheVariants.{Wide}
use Rattle.hx_index.specs.Index.{in_part, key_pairs}
use Rattle.hx_index.proofs.index.Index.ipv6_node.Goals as goal

pub longest-requires-clause-stands : goal.longest-requires-clause-stands
longest-requires-clause-stands g c = (key_pairs (in_part Wide c.requires.0), c.requires.1.parts Wide)

pub returns-clause-found : goal.returns-clause-found
returns-clause-found g c items h =
    c.longest.ensures.found (key_pairs (in_part Wide items)) (h.parts Wide)
    ∙ ap (λ bytes. longest_of (key_pairs (in_part Wide items)) (bits_of bytes 128)) (c.as_slice.ensures ∙ c.to_be_bytes.ensures)
