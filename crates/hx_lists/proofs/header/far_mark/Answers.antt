use Rattle.hx_lists.proofs.MarkLemmas.{pieces_at-found, pieces_at-unfound}
use Rattle.hx_lists.proofs.header.far_mark.Goals as goal

pub returns-in-Some-clause-same : goal.returns-in-Some-clause-same
returns-in-Some-clause-same c =
    pieces_at-found c.args.line.now c.args.start c.in-Some.ahead c.requires c.in-Some.ensures

pub returns-in-None-clause-same : goal.returns-in-None-clause-same
returns-in-None-clause-same c =
    pieces_at-unfound c.args.line.now c.args.start c.requires c.in-None.ensures
