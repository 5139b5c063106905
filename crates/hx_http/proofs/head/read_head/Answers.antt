use Rattle.std.proofs.Common.{◌≡◌, Err, ap}
use Rattle.std.proofs.lemmas.Result.{err_from_is_err_and}
use Rattle.hx_http.specs.declared.fault.HeadFault.TheVariants.{NotAHead, TooManyHeaders}
use Rattle.hx_http.proofs.head.read_head.Goals as goal

pub returns-in_err-len-clause-not_a_head : goal.returns-in_err-len-clause-not_a_head
returns-in_err-len-clause-not_a_head c is =
    let p = err_from_is_err_and c.from_residual.result c.from_residual.ensures.1 in
    let same : c.in_err-len.field-0.0 ≡ NotAHead = cc (p.1, p.2, is) in
    c.in_err-len.ensures.not_a_head (ap Err same)

pub returns-in_err-len-clause-too_many : goal.returns-in_err-len-clause-too_many
returns-in_err-len-clause-too_many c is =
    let p = err_from_is_err_and c.from_residual.result c.from_residual.ensures.1 in
    let same : c.in_err-len.field-0.0 ≡ TooManyHeaders = cc (p.1, p.2, is) in
    c.in_err-len.ensures.too_many (ap Err same)
