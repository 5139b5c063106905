use Rattle.hx_sample.specs.Seen.{value_of}
use Rattle.hx_index.proofs.FindingLemmas.{longest_other, no_text}
use Rattle.hx_index.proofs.index.Index.longest.Goals as goal

pub returns-in_default-clause-found : goal.returns-in_default-clause-found
returns-in_default-clause-found g c items h =
    longest_other c.args.nodes.now c.args.self.now items h (value_of c.args.sample.now) c.requires.search (no_text c.args.sample.now c.in_default.not-Str)
