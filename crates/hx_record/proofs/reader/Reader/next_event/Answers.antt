use Rattle.std.proofs.Common.{◌≡◌, Ok, Err, Some, None, [], refl, ap, arith}
use Rattle.std.proofs.lemmas.Result.{err_from_is_err_and}
use Rattle.hx_record.specs.declared.events.Next.TheVariants as next
use Rattle.hx_record.specs.declared.fault.RecordFault.TheVariants as faults
use Rattle.hx_record.proofs.ReadLemmas.{so_far_start, so_far_more, alone_start, alone_more, bad_stays, decided_same}
use Rattle.hx_record.proofs.AskLemmas.{asks_start, asks_more}
use Rattle.hx_record.proofs.AnswerLemmas.{reads_decided, reads_fault, refused_again, not_failed}
use Rattle.hx_record.proofs.reader.Reader.next_event.Goals as goal

pub reads-init : goal.reads-init
reads-init g c = record {
  so_far = so_far_start c.args.self.now (g.S.Source.left c.args.source.now);
  left_alone = alone_start c.args.self.now c.args.source.now;
  asked = asks_start c.args.self.now (g.S.Source.left c.args.source.now) (g.S.Source.log c.args.source.now);
  ended = c.requires;
  later = omega arith;
}

-- ---- what was decided

pub returns-in_err-placed-clause-reads : goal.returns-in_err-placed-clause-reads
returns-in_err-placed-clause-reads g c =
    let left = g.S.Source.left in
    let log = g.S.Source.log in
    let fault = c.in_err-placed.field-0.0 in
    let p = err_from_is_err_and c.from_residual.result c.from_residual.ensures.1 in
    rw (p.1, p.2) (reads_decided c.args.self.now c.reads.self c.next_decided.new.self (left c.args.source.now) (left c.reads.source) (log c.args.source.now) (log c.reads.source) (Err fault) (Err fault)
    c.reads.invariant.so_far c.reads.invariant.asked c.in_err-placed.ensures.decides refl)

pub returns-in-Event-clause-reads : goal.returns-in-Event-clause-reads
returns-in-Event-clause-reads g c =
    let left = g.S.Source.left in
    let log = g.S.Source.log in
    let decides = rw c.in-Event.is at c.in_ok-placed.ensures.decides in
    reads_decided c.args.self.now c.reads.self c.next_decided.new.self (left c.args.source.now) (left c.reads.source) (log c.args.source.now) (log c.reads.source) (Ok (next.Event c.in-Event.placed)) (Ok (Some c.in-Event.placed))
    c.reads.invariant.so_far c.reads.invariant.asked decides refl

pub returns-in-End-clause-reads : goal.returns-in-End-clause-reads
returns-in-End-clause-reads g c =
    let left = g.S.Source.left in
    let log = g.S.Source.log in
    let decides = rw c.in-End.is at c.in_ok-placed.ensures.decides in
    reads_decided c.args.self.now c.reads.self c.next_decided.new.self (left c.args.source.now) (left c.reads.source) (log c.args.source.now) (log c.reads.source) (Ok next.End) (Ok None)
    c.reads.invariant.so_far c.reads.invariant.asked decides refl

pub returns-in_err-placed-clause-failed : goal.returns-in_err-placed-clause-failed
returns-in_err-placed-clause-failed g c failed =
    let fault = c.in_err-placed.field-0.0 in
    let p = err_from_is_err_and c.from_residual.result c.from_residual.ensures.1 in
    let e : fault ≡ faults.Failed = cc (p.1, p.2, failed) in
    absurd (not_failed c.reads.self c.next_decided.new.self fault c.in_err-placed.ensures.decides e)

pub returns-in_err-placed-clause-undecided : goal.returns-in_err-placed-clause-undecided
returns-in_err-placed-clause-undecided g c failed =
    let fault = c.in_err-placed.field-0.0 in
    let p = err_from_is_err_and c.from_residual.result c.from_residual.ensures.1 in
    let e : fault ≡ faults.Failed = cc (p.1, p.2, failed) in
    absurd (not_failed c.reads.self c.next_decided.new.self fault c.in_err-placed.ensures.decides e)

-- ---- a refusal that was decided at first

pub returns-in_err-placed-clause-again : goal.returns-in_err-placed-clause-again
returns-in_err-placed-clause-again g c offset code bad =
    let fault = c.in_err-placed.field-0.0 in
    let p = err_from_is_err_and c.from_residual.result c.from_residual.ensures.1 in
    let still = bad_stays c.args.self.now c.reads.self c.args.source.now c.reads.source offset code c.reads.invariant.left_alone bad in
    let again = refused_again c.reads.self c.next_decided.new.self offset code (Err fault) still c.in_err-placed.ensures.decides (λ other. cc) c.in_err-placed.ensures.memory in
    cc (p.1, p.2, again)

pub returns-in_err-placed-clause-stuck : goal.returns-in_err-placed-clause-stuck
returns-in_err-placed-clause-stuck g c offset code same =
    let left = g.S.Source.left in
    let log = g.S.Source.log in
    let fault = c.in_err-placed.field-0.0 in
    let p = err_from_is_err_and c.from_residual.result c.from_residual.ensures.1 in
    let e : fault ≡ faults.Bad offset code = cc (p.1, p.2, same) in
    let decides = rw e at c.in_err-placed.ensures.decides in
    (decides.answers c.next_decided.new.self.ended [] (λ over. (refl, over))).1

pub returns-in-Event-clause-again : goal.returns-in-Event-clause-again
returns-in-Event-clause-again g c offset code bad =
    let still = bad_stays c.args.self.now c.reads.self c.args.source.now c.reads.source offset code c.reads.invariant.left_alone bad in
    let decides = rw c.in-Event.is at c.in_ok-placed.ensures.decides in
    let again = refused_again c.reads.self c.next_decided.new.self offset code (Ok (next.Event c.in-Event.placed)) still decides (λ other. cc) (λ other. cc) in
    cc

pub returns-in-End-clause-again : goal.returns-in-End-clause-again
returns-in-End-clause-again g c offset code bad =
    let still = bad_stays c.args.self.now c.reads.self c.args.source.now c.reads.source offset code c.reads.invariant.left_alone bad in
    let decides = rw c.in-End.is at c.in_ok-placed.ensures.decides in
    let again = refused_again c.reads.self c.next_decided.new.self offset code (Ok next.End) still decides (λ other. cc) (λ other. cc) in
    cc

-- ---- a read

pub reads-preserved : goal.reads-preserved
reads-preserved g c =
    let left = g.S.Source.left in
    let log = g.S.Source.log in
    let so_far = c.reads.invariant in
    let decides = rw c.in-Undecided.is at c.in_ok-placed.ensures.decides in
    let (going, unknown) = c.in_ok-placed.ensures.undecided (ap Ok c.in-Undecided.is) in
    let fills = c.in_ok-fill-in-Undecided.ensures.ok in
    record {
      so_far = so_far_more c.args.self.now c.reads.self c.next_decided.new.self c.fill.new.self (left c.args.source.now) (left c.reads.source) (left c.fill.new.source) (log c.reads.source) (log c.fill.new.source) so_far.so_far decides going fills;
      left_alone = alone_more c.args.self.now c.reads.self c.next_decided.new.self c.fill.new.self (left c.args.source.now) (left c.reads.source) c.args.source.now c.reads.source c.fill.new.source so_far.so_far so_far.left_alone decides going unknown;
      asked = asks_more c.args.self.now c.reads.self c.next_decided.new.self c.fill.new.self (left c.args.source.now) (left c.reads.source) (left c.fill.new.source) (log c.args.source.now) (log c.reads.source) (log c.fill.new.source) so_far.so_far decides going unknown fills so_far.asked;
      ended = λ over. (fills.ended over).1;
      later = omega (arith, so_far.later, c.in_ok-fill-in-Undecided.ensures.later);
    }

pub returns-in_err-fill-in-Undecided-clause-reads : goal.returns-in_err-fill-in-Undecided-clause-reads
returns-in_err-fill-in-Undecided-clause-reads g c =
    let left = g.S.Source.left in
    let log = g.S.Source.log in
    let fault = c.in_err-fill-in-Undecided.field-0.0 in
    let p = err_from_is_err_and c.from_residual-in_err-fill-in-Undecided.result c.from_residual-in_err-fill-in-Undecided.ensures.1 in
    let decides = rw c.in-Undecided.is at c.in_ok-placed.ensures.decides in
    let (going, unknown) = c.in_ok-placed.ensures.undecided (ap Ok c.in-Undecided.is) in
    rw (p.1, p.2, c.in_err-fill-in-Undecided.ensures.err) (reads_fault c.args.self.now c.reads.self c.next_decided.new.self (left c.args.source.now) (left c.reads.source) (left c.fill.new.source)
    (log c.args.source.now) (log c.reads.source) (log c.fill.new.source) fault c.reads.invariant.so_far c.reads.invariant.asked decides going unknown c.in_err-fill-in-Undecided.ensures.kept c.in_err-fill-in-Undecided.ensures.log)

pub returns-in_err-fill-in-Undecided-clause-unasked : goal.returns-in_err-fill-in-Undecided-clause-unasked
returns-in_err-fill-in-Undecided-clause-unasked g c known =
    let left = g.S.Source.left in
    let decides = rw c.in-Undecided.is at c.in_ok-placed.ensures.decides in
    let (going, unknown) = c.in_ok-placed.ensures.undecided (ap Ok c.in-Undecided.is) in
    ((alone_more c.args.self.now c.reads.self c.next_decided.new.self c.fill.new.self (left c.args.source.now) (left c.reads.source) c.args.source.now c.reads.source c.fill.new.source c.reads.invariant.so_far c.reads.invariant.left_alone decides going unknown).same known).0

pub returns-in_err-fill-in-Undecided-clause-again : goal.returns-in_err-fill-in-Undecided-clause-again
returns-in_err-fill-in-Undecided-clause-again g c offset code bad =
    let still = bad_stays c.args.self.now c.reads.self c.args.source.now c.reads.source offset code c.reads.invariant.left_alone bad in
    let decides = rw c.in-Undecided.is at c.in_ok-placed.ensures.decides in
    let unknown = (c.in_ok-placed.ensures.undecided (ap Ok c.in-Undecided.is)).1 in
    let same = decided_same c.reads.self c.next_decided.new.self decides in
    cc
