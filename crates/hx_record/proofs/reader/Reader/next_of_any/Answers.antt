use Rattle.std.proofs.Common.{ap, ◌∙◌, sym, arith, add-zero}
use Rattle.std.proofs.lemmas.Result.{err_from_is_err_and}
use Rattle.hx_record.specs.PieceView.{piece_beginning}
use Rattle.hx_record.proofs.StateLemmas.{skip_passes, found_passes, fault_within}
use Rattle.hx_record.proofs.DecisionLemmas.{lines_start, lines_skip, decides_event, decides_end, decides_undecided, decides_no_memory, decides_fault, decides_long, found_event, undecided_now_open, undecided_known, finish_ended, work_skip, work_found}
use Rattle.hx_record.proofs.reader.Reader.next_of_any.Goals as goal

pub lines-init : goal.lines-init
lines-init c = record { passes = lines_start c.args.self.now; work = omega arith; later = omega arith }

pub returns-in_err-judge-clause-decides : goal.returns-in_err-judge-clause-decides
returns-in_err-judge-clause-decides c =
    let p = err_from_is_err_and c.from_residual.result c.from_residual.ensures.1 in
    rw (p.1, p.2, c.judge.ensures.same) (decides_no_memory c.args.self.now c.lines.self c.lines.invariant.passes)

pub returns-in_err-judge-clause-memory : goal.returns-in_err-judge-clause-memory
returns-in_err-judge-clause-memory c out = rw c.judge.ensures.same (found_event c.lines.self c.in_err-judge.ensures.err)

pub returns-in-Undecided-clause-decides : goal.returns-in-Undecided-clause-decides
returns-in-Undecided-clause-decides c =
    rw c.judge.ensures.same (decides_undecided c.args.self.now c.lines.self c.lines.invariant.passes)

pub returns-in-Undecided-clause-undecided : goal.returns-in-Undecided-clause-undecided
returns-in-Undecided-clause-undecided c undecided =
    let e = sym c.in_ok-judge.ensures.ok ∙ ap piece_beginning c.in-Undecided.is in
    rw c.judge.ensures.same (undecided_known c.lines.self e)

pub returns-in-Undecided-clause-within : goal.returns-in-Undecided-clause-within
returns-in-Undecided-clause-within c undecided =
    let e = sym c.in_ok-judge.ensures.ok ∙ ap piece_beginning c.in-Undecided.is in
    let fits = (undecided_now_open c.lines.self e).1 in
    let within = c.judge.ensures.within in
    rw c.judge.ensures.same (omega arith)

pub advance-requires-clause-pending : goal.advance-requires-clause-pending
advance-requires-clause-pending c =
    let e = sym c.in_ok-judge.ensures.ok ∙ ap piece_beginning c.in-Skip.is in
    rw c.judge.ensures.same ((skip_passes c.lines.self c.in-Skip.used e).1)

pub advance-requires-clause-limit : goal.advance-requires-clause-limit
advance-requires-clause-limit c =
    let e = sym c.in_ok-judge.ensures.ok ∙ ap piece_beginning c.in-Skip.is in
    rw c.judge.ensures.same ((skip_passes c.lines.self c.in-Skip.used e).2 c.judge.ensures.within)

pub lines-smaller : goal.lines-smaller
lines-smaller c =
    let e = sym c.in_ok-judge.ensures.ok ∙ ap piece_beginning c.in-Skip.is in
    rw (c.advance.ensures, c.judge.ensures.same) (work_skip c.lines.self c.in-Skip.used c.judge.ensures.within e)

pub lines-preserved : goal.lines-preserved
lines-preserved c =
    let e = sym c.in_ok-judge.ensures.ok ∙ ap piece_beginning c.in-Skip.is in
    let less = work_skip c.lines.self c.in-Skip.used c.judge.ensures.within e in
    let so_far = c.lines.invariant in
    rw (c.advance.ensures, c.judge.ensures.same) (record {
      passes = lines_skip c.args.self.now c.lines.self c.in-Skip.used so_far.passes e;
      work = omega (arith, less, so_far.work);
      later = omega (arith, so_far.later);
    })

pub advance-requires-in-Found-clause-pending : goal.advance-requires-in-Found-clause-pending
advance-requires-in-Found-clause-pending c =
    let e = sym c.in_ok-judge.ensures.ok ∙ ap piece_beginning c.in-Found.is in
    rw c.judge.ensures.same ((found_passes c.lines.self c.in-Found.used c.in-Found.event e).1)

pub advance-requires-in-Found-clause-limit : goal.advance-requires-in-Found-clause-limit
advance-requires-in-Found-clause-limit c =
    let e = sym c.in_ok-judge.ensures.ok ∙ ap piece_beginning c.in-Found.is in
    rw c.judge.ensures.same ((found_passes c.lines.self c.in-Found.used c.in-Found.event e).2 c.judge.ensures.within)

pub returns-in-Found-clause-decides : goal.returns-in-Found-clause-decides
returns-in-Found-clause-decides c =
    let e = sym c.in_ok-judge.ensures.ok ∙ ap piece_beginning c.in-Found.is in
    rw (c.offset_past-offset.ensures, c.advance-in-Found.ensures, c.judge.ensures.same, add-zero) (decides_event c.args.self.now c.lines.self c.in-Found.used c.in-Found.event c.lines.invariant.passes e)

pub returns-in-Found-clause-moves : goal.returns-in-Found-clause-moves
returns-in-Found-clause-moves c =
    let e = sym c.in_ok-judge.ensures.ok ∙ ap piece_beginning c.in-Found.is in
    let passes = found_passes c.lines.self c.in-Found.used c.in-Found.event e in
    let some = passes.0 in
    let within = passes.2 c.judge.ensures.within in
    let later = c.lines.invariant.later in
    rw (c.advance-in-Found.ensures, c.judge.ensures.same) (λ event. (omega arith, within))

pub returns-in-Found-clause-less : goal.returns-in-Found-clause-less
returns-in-Found-clause-less c =
    let e = sym c.in_ok-judge.ensures.ok ∙ ap piece_beginning c.in-Found.is in
    let less = work_found c.lines.self c.in-Found.used c.in-Found.event c.judge.ensures.within e in
    let so_far = c.lines.invariant.work in
    rw (c.advance-in-Found.ensures, c.judge.ensures.same) (λ event. omega (arith, less, so_far))

pub returns-in-Found-clause-no_more : goal.returns-in-Found-clause-no_more
returns-in-Found-clause-no_more c =
    let e = sym c.in_ok-judge.ensures.ok ∙ ap piece_beginning c.in-Found.is in
    let less = work_found c.lines.self c.in-Found.used c.in-Found.event c.judge.ensures.within e in
    let so_far = c.lines.invariant.work in
    rw (c.advance-in-Found.ensures, c.judge.ensures.same) (omega (arith, less, so_far))

pub returns-in-Finish-clause-decides : goal.returns-in-Finish-clause-decides
returns-in-Finish-clause-decides c =
    let e = sym c.in_ok-judge.ensures.ok ∙ ap piece_beginning c.in-Finish.is in
    rw c.judge.ensures.same (decides_end c.args.self.now c.lines.self c.lines.invariant.passes e)

pub returns-in-Finish-clause-end : goal.returns-in-Finish-clause-end
returns-in-Finish-clause-end c end =
    let e = sym c.in_ok-judge.ensures.ok ∙ ap piece_beginning c.in-Finish.is in
    rw c.judge.ensures.same (finish_ended c.lines.self e)

pub returns-in-TooLong-clause-decides : goal.returns-in-TooLong-clause-decides
returns-in-TooLong-clause-decides c =
    let e = sym c.in_ok-judge.ensures.ok ∙ ap piece_beginning c.in-TooLong.is in
    rw (c.limit-offset.ensures, c.code.ensures, c.judge.ensures.same) (decides_long c.args.self.now c.lines.self c.lines.invariant.passes e)

pub offset_past-offset-requires-in-Fault : goal.offset_past-offset-requires-in-Fault
offset_past-offset-requires-in-Fault c =
    let e = sym c.in_ok-judge.ensures.ok ∙ ap piece_beginning c.in-Fault.is in
    rw c.judge.ensures.same (fault_within c.lines.self c.in-Fault.skip c.in-Fault.refusal e c.judge.ensures.within)

pub returns-in-Fault-clause-decides : goal.returns-in-Fault-clause-decides
returns-in-Fault-clause-decides c =
    let e = sym c.in_ok-judge.ensures.ok ∙ ap piece_beginning c.in-Fault.is in
    rw (c.offset_past-offset-in-Fault.ensures, c.code-in-Fault.ensures, c.judge.ensures.same) (decides_fault c.args.self.now c.lines.self c.in-Fault.skip c.in-Fault.refusal c.lines.invariant.passes e)
