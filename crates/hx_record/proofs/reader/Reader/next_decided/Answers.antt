use Rattle.std.proofs.Common.{arith, add-zero}
use Rattle.std.proofs.lemmas.Result.{err_from_is_err_and}
use Rattle.hx_record.specs.declared.events.Event.TheVariants.{Req}
use Rattle.hx_record.specs.Parts.{beginning_now}
use Rattle.hx_record.specs.PieceView.{BeginsWith}
use Rattle.hx_record.proofs.StateLemmas.{found_passes}
use Rattle.hx_record.proofs.DecisionLemmas.{lines_start, decides_event, decides_no_memory, found_event, work_found}
use Rattle.hx_record.proofs.reader.Reader.next_decided.Goals as goal

pub returns-in_err-request-clause-decides : goal.returns-in_err-request-clause-decides
returns-in_err-request-clause-decides c =
    let p = err_from_is_err_and c.from_residual.result c.from_residual.ensures.1 in
    rw (p.1, p.2, c.whole_request.ensures.same) (decides_no_memory c.args.self.now c.args.self.now (lines_start c.args.self.now))

pub returns-in_err-request-clause-memory : goal.returns-in_err-request-clause-memory
returns-in_err-request-clause-memory c out = rw c.whole_request.ensures.same (found_event c.args.self.now c.in_err-request.ensures.err)

pub advance-requires-clause-pending : goal.advance-requires-clause-pending
advance-requires-clause-pending c =
    let e : BeginsWith (beginning_now c.args.self.now) c.in-Some.request = rw c.in-Some.is at c.in_ok-request.ensures.ok in
    rw c.whole_request.ensures.same ((found_passes c.args.self.now c.in-Some.request.used (Req c.in-Some.request.id c.in-Some.request.bytes) e).1)

pub advance-requires-clause-limit : goal.advance-requires-clause-limit
advance-requires-clause-limit c =
    let e : BeginsWith (beginning_now c.args.self.now) c.in-Some.request = rw c.in-Some.is at c.in_ok-request.ensures.ok in
    rw c.whole_request.ensures.same ((found_passes c.args.self.now c.in-Some.request.used (Req c.in-Some.request.id c.in-Some.request.bytes) e).2 c.whole_request.ensures.within)

pub returns-in-Some-clause-decides : goal.returns-in-Some-clause-decides
returns-in-Some-clause-decides c =
    let e : BeginsWith (beginning_now c.args.self.now) c.in-Some.request = rw c.in-Some.is at c.in_ok-request.ensures.ok in
    rw (c.offset_past-offset.ensures, c.advance.ensures, c.whole_request.ensures.same, add-zero) (decides_event c.args.self.now c.args.self.now c.in-Some.request.used (Req c.in-Some.request.id c.in-Some.request.bytes) (lines_start c.args.self.now) e)

pub returns-in-Some-clause-moves : goal.returns-in-Some-clause-moves
returns-in-Some-clause-moves c =
    let e : BeginsWith (beginning_now c.args.self.now) c.in-Some.request = rw c.in-Some.is at c.in_ok-request.ensures.ok in
    let passes = found_passes c.args.self.now c.in-Some.request.used (Req c.in-Some.request.id c.in-Some.request.bytes) e in
    let some = passes.0 in
    let within = passes.2 c.whole_request.ensures.within in
    rw (c.advance.ensures, c.whole_request.ensures.same) (λ event. (omega arith, within))

pub returns-in-Some-clause-less : goal.returns-in-Some-clause-less
returns-in-Some-clause-less c =
    let e : BeginsWith (beginning_now c.args.self.now) c.in-Some.request = rw c.in-Some.is at c.in_ok-request.ensures.ok in
    let less = work_found c.args.self.now c.in-Some.request.used (Req c.in-Some.request.id c.in-Some.request.bytes) c.whole_request.ensures.within e in
    rw (c.advance.ensures, c.whole_request.ensures.same) (λ event. less)

pub returns-in-Some-clause-no_more : goal.returns-in-Some-clause-no_more
returns-in-Some-clause-no_more c =
    let e : BeginsWith (beginning_now c.args.self.now) c.in-Some.request = rw c.in-Some.is at c.in_ok-request.ensures.ok in
    let less = work_found c.args.self.now c.in-Some.request.used (Req c.in-Some.request.id c.in-Some.request.bytes) c.whole_request.ensures.within e in
    rw (c.advance.ensures, c.whole_request.ensures.same) (omega (arith, less))
