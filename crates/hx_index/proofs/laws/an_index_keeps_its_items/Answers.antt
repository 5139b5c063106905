use Rattle.hx_index.proofs.HoldingLemmas.{holds_frame, holds_updated}
use Rattle.hx_index.proofs.laws.an_index_keeps_its_items.Goals as goal

pub returns-clause-values : goal.returns-clause-values
returns-clause-values c old new index items h same = holds_frame old new index items same h

pub returns-clause-reserved : goal.returns-clause-reserved
returns-clause-reserved c old new index items h same =
    holds_frame old new index items (λ k there. same k) h

pub returns-clause-changed : goal.returns-clause-changed
returns-clause-changed c old new index items id value h off up =
    holds_updated old new index items id value up off h
