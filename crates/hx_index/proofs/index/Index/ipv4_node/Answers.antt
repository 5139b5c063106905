use Rattle.hx_index.specs.declared.part.Part.TheVariants.{Keyed}
use Rattle.hx_index.specs.Index.{in_part, key_pairs}
use Rattle.hx_index.proofs.index.Index.ipv4_node.Goals as goal

pub longest-requires-clause-stands : goal.longest-requires-clause-stands
longest-requires-clause-stands g c = (key_pairs (in_part Keyed c.requires.0), c.requires.1.parts Keyed)
