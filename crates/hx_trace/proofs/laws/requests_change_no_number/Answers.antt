use Rattle.hx_trace.proofs.StayingNumberLemmas.{numbers_stay, told_is_explained}
use Rattle.hx_trace.proofs.laws.requests_change_no_number.Goals as goal

pub returns : goal.returns
returns c = record { numbers = numbers_stay; told = told_is_explained }
