use Rattle.hx_lists.specs.NamedValues.{separates_params}
use Rattle.hx_lists.proofs.SplitLemmas.{IsCutAt-slice_split, IsCutAt-only}
use Rattle.hx_lists.proofs.laws.param_pieces.Goals as goal

pub returns-clause-cut : goal.returns-clause-cut
returns-clause-cut c = IsCutAt-slice_split (separates_params c.args.delim) c.args.text.now

pub returns-clause-only : goal.returns-clause-only
returns-clause-only c = λ pieces h. IsCutAt-only (separates_params c.args.delim) pieces c.args.text.now h
