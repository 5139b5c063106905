use Rattle.std.proofs.Common.{◌≡◌, Err, ap}
use Rattle.std.proofs.lemmas.Result.{err_from_is_err_and}
use Rattle.hx_http.specs.declared.fault.HeadFault.TheVariants.{NotAHead, TooManyHeaders}
use Rattle.hx_http.specs.Head.{message, many, none}
use Rattle.hx_http.specs.Spans.{parts_at}
use Rattle.hx_http.proofs.HeadLemmas.{only_head_is}
use Rattle.hx_http.proofs.message.Message.read.Goals as goal

pub returns-in_err-len-clause-not_a_head : goal.returns-in_err-len-clause-not_a_head
returns-in_err-len-clause-not_a_head c is =
    let p = err_from_is_err_and c.from_residual.result c.from_residual.ensures.1 in
    let same : c.in_err-len.field-0.0 ≡ NotAHead = cc (p.1, p.2, is) in
    only_head_is c.args.bytes.now none (c.in_err-len.ensures.not_a_head (ap Err same))

pub returns-in_err-len-clause-too_many : goal.returns-in_err-len-clause-too_many
returns-in_err-len-clause-too_many c is =
    let p = err_from_is_err_and c.from_residual.result c.from_residual.ensures.1 in
    let same : c.in_err-len.field-0.0 ≡ TooManyHeaders = cc (p.1, p.2, is) in
    only_head_is c.args.bytes.now many (c.in_err-len.ensures.too_many (ap Err same))

pub returns-clause-found : goal.returns-clause-found
returns-clause-found c =
    only_head_is c.args.bytes.now (message (parts_at c.read_into.new.room.items c.read_into.new.spans) c.in_ok-len.len) c.in_ok-len.ensures.found
