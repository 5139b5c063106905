use Rattle.hx_lists.proofs.CommaLemmas.{IsCutAtCommas-hdr_pieces, IsCutAtCommas-only}
use Rattle.hx_lists.proofs.laws.header_pieces.Goals as goal

pub returns-clause-cut : goal.returns-clause-cut
returns-clause-cut c = IsCutAtCommas-hdr_pieces c.args.line.now

pub returns-clause-only : goal.returns-clause-only
returns-clause-only c = λ pieces h. IsCutAtCommas-only pieces c.args.line.now h
