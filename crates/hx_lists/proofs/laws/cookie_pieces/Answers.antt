use Rattle.std.proofs.Common.{◌==◌}
use Rattle.hx_lists.proofs.SplitLemmas.{IsCutAt-slice_split, IsCutAt-only}
use Rattle.hx_lists.proofs.laws.cookie_pieces.Goals as goal

pub returns-clause-cut : goal.returns-clause-cut
returns-clause-cut c = IsCutAt-slice_split (λ b. b == 59) c.args.line.now

pub returns-clause-only : goal.returns-clause-only
returns-clause-only c = λ pieces h. IsCutAt-only (λ b. b == 59) pieces c.args.line.now h
