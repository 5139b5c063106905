use Rattle.hx_http.proofs.HeadLemmas.{head_is, only_head_is}
use Rattle.hx_http.proofs.laws.one_head.Goals as goal

pub returns-clause-is : goal.returns-clause-is
returns-clause-is c = head_is

pub returns-clause-only : goal.returns-clause-only
returns-clause-only c = only_head_is
