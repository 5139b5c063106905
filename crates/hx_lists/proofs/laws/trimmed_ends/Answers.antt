use Rattle.hx_lists.proofs.TrimLemmas.{IsTrimmed-trim_blanks, IsTrimmed-only}
use Rattle.hx_lists.proofs.laws.trimmed_ends.Goals as goal

pub returns-clause-trimmed : goal.returns-clause-trimmed
returns-clause-trimmed c = IsTrimmed-trim_blanks c.args.bytes.now

pub returns-clause-only : goal.returns-clause-only
returns-clause-only c = IsTrimmed-only c.args.bytes.now
