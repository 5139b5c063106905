-- When a reader has read its source so far in a call.
use Rattle.std.proofs.Common.{◌≡◌, ◌≢◌, Result, Ok, Err, ℕ, ◌<◌, Bool, true, false, List, [], ◌∷◌, ◌++◌, length, Option, Some, None, arith, refl, sym, ap, ◌∙◌, append_assoc, append-nil}
use Rattle.std.specs.Bool.{⊤}
use Rattle.hx_outside.specs.Log.{Log, Logs, HoldsSince}
use Rattle.hx_record.specs.declared.fault.RecordFault.{RecordFault}
use Rattle.hx_record.specs.declared.fault.RecordFault.TheVariants as faults
use Rattle.hx_record.specs.declared.events.Next.TheVariants as next
use Rattle.hx_record.specs.Record.{Unknown}
use Rattle.hx_record.specs.State.{State, items_after, decided_items_now}
use Rattle.hx_record.specs.Asking.{state_after_read, state_after_reads, AreDue, FailureIsAnswered, WereDue}
use Rattle.hx_record.specs.Reading.{Decides, Fills}
use Rattle.hx_record.proofs.ReadLemmas.{SoFar, so_far_start, so_far_more, both_ends}

-- ---- reads, by a log that is known

since_start : (log : Option Log) (P : Log → Type 0) → P [] → HoldsSince log log P
since_start None P start = tt
since_start (Some reads) P start = ([], sym (append-nil reads), start)

since_more : (a b c : Option Log) (read : Option (List ℕ)) (P Q : Log → Type 0) → HoldsSince a b P → Logs b c read → ((reads : Log) → P reads → Q (reads ++ (read ∷ []))) → HoldsSince a c Q
since_more a b None read P Q so_far one more = tt
since_more a None (Some now) read P Q so_far one more = absurd one
since_more None (Some between) (Some now) read P Q so_far one more = absurd so_far
since_more (Some old) (Some between) (Some now) read P Q so_far one more =
    (so_far.0 ++ (read ∷ []), one ∙ ap (λ reads. reads ++ (read ∷ [])) so_far.1 ∙ append_assoc old so_far.0 (read ∷ []), more so_far.0 so_far.2)

since_map : (a b : Option Log) (P Q : Log → Type 0) → HoldsSince a b P → ((reads : Log) → P reads → Q reads) → HoldsSince a b Q
since_map a None P Q so_far also = tt
since_map None (Some now) P Q so_far also = so_far
since_map (Some old) (Some now) P Q so_far also = (so_far.0, so_far.1, also so_far.0 so_far.2)

-- ---- one read more

after_reads_more : (s : State) (reads : Log) (read : Option (List ℕ)) → state_after_reads s (reads ++ (read ∷ [])) ≡ state_after_read (state_after_reads s reads) read
after_reads_more s [] read = refl
after_reads_more s (first ∷ reads) read = after_reads_more (state_after_read s first) reads read

due_more : (s : State) (reads : Log) (read : Option (List ℕ)) → AreDue s reads → (state_after_reads s reads).ended ≡ false → decided_items_now (state_after_reads s reads) ≡ Unknown → AreDue s (reads ++ (read ∷ []))
due_more s [] read due going unknown = (going, unknown, tt)
due_more s (first ∷ reads) read due going unknown = (due.0, due.1, due_more (state_after_read s first) reads read due.2 going unknown)

-- none of the reads failed
abbrev pub Gave : Log → Type 0
Gave [] = ⊤
Gave (None ∷ reads) = ⊥
Gave (Some got ∷ reads) = Gave reads

gave_more : (reads : Log) (got : List ℕ) → Gave reads → Gave (reads ++ (Some got ∷ []))
gave_more [] got gave = tt
gave_more (None ∷ reads) got gave = absurd gave
gave_more (Some first ∷ reads) got gave = gave_more reads got gave

-- reads that gave, and a result that is no failure
failure_other : {A : Type 0} → (reads : Log) (result : Result A RecordFault) → result ≢ Err faults.Failed → Gave reads → FailureIsAnswered result reads
failure_other [] result other gave = other
failure_other (None ∷ reads) result other gave = absurd gave
failure_other (Some first ∷ reads) result other gave = failure_other reads result other gave

-- one that failed after them, and a result that says so
failure_last : (A : Type 0) (reads : Log) → Gave reads → FailureIsAnswered {A = A} (Err faults.Failed) (reads ++ (None ∷ []))
failure_last A [] gave = (refl, refl)
failure_last A (None ∷ reads) gave = absurd gave
failure_last A (Some first ∷ reads) gave = failure_last A reads gave

-- ---- so far

-- the reads were due, and gave the bytes taken
pub record AsksSoFar (before s : State) (took : List ℕ) (reads : Log) : Type 0 where
  pub due : AreDue before reads
  pub same : state_after_reads before reads ≡ record before { pending = before.pending ++ took; ended = s.ended }
  pub gave : Gave reads

pub asks_start : (s : State) (left : Option (List ℕ)) (log : Option Log) → HoldsSince log log (AsksSoFar s s (so_far_start s left).took)
unfolding so_far_start
asks_start s left log = since_start log (AsksSoFar s s []) (record { due = tt; same = rw (append-nil s.pending) refl; gave = tt })

-- where nothing is decided, nothing was decided by the bytes taken
unknown_before : (before s now : State) (left left' : Option (List ℕ)) → (b : SoFar before s left left') → Decides s now (Ok next.Undecided) → now.ended ≡ false → decided_items_now now ≡ Unknown
    → decided_items_now (record before { pending = before.pending ++ b.took; ended = s.ended }) ≡ Unknown
unknown_before before s now left left' b d going unknown =
    let open_s : s.ended ≡ false = sym d.ended ∙ going in
    let same : items_after before false (b.took ++ []) ≡ items_after s false [] = b.same false [] (λ over. both_ends s.ended open_s over) in
    let after : items_after now false [] ≡ items_after s false [] = d.answers false [] (λ over. both_ends now.ended going over) in
    let none : items_after now false [] ≡ Unknown = ap (λ ends. items_after now ends []) (sym going) ∙ unknown in
    rw (open_s, append_assoc before.pending b.took []) (same ∙ sym after ∙ none)

asked_due : (before s now : State) (left left' : Option (List ℕ)) (reads : Log) (read : Option (List ℕ)) → (b : SoFar before s left left') → Decides s now (Ok next.Undecided) → now.ended ≡ false
    → decided_items_now now ≡ Unknown → AsksSoFar before s b.took reads → AreDue before (reads ++ (read ∷ []))
asked_due before s now left left' reads read b d going unknown t =
    due_more before reads read t.due (ap (λ (s : State). s.ended) t.same ∙ sym d.ended ∙ going) (ap decided_items_now t.same ∙ unknown_before before s now left left' b d going unknown)

-- a read that gave bytes or found the end
after_got : (before s after : State) (took got : List ℕ) → s.ended ≡ false → (after.ended ≡ false → 0 < length got) → (after.ended ≡ true → got ≡ [])
    → state_after_read (record before { pending = before.pending ++ took; ended = s.ended }) (Some got) ≡ record before { pending = before.pending ++ (took ++ got); ended = after.ended }
after_got before s after took got going some none = at_end after.ended refl where
  at_end : (ended : Bool) → after.ended ≡ ended
      → state_after_read (record before { pending = before.pending ++ took; ended = s.ended }) (Some got) ≡ record before { pending = before.pending ++ (took ++ got); ended = after.ended }
  at_end true h = rw (h, none h, append-nil took) refl
  at_end false h = by_bytes got (some h) where
    by_bytes : (bytes : List ℕ) → 0 < length bytes
        → state_after_read (record before { pending = before.pending ++ took; ended = s.ended }) (Some bytes) ≡ record before { pending = before.pending ++ (took ++ bytes); ended = after.ended }
    by_bytes [] more = let none : ⊥ = omega (arith, more) in absurd none
    by_bytes (b ∷ bs) more = rw (h, going, append_assoc before.pending took (b ∷ bs)) refl

pub asks_more : (before s now after : State) (left left' left'' : Option (List ℕ)) (log log' log'' : Option Log) → (b : SoFar before s left left') → (d : Decides s now (Ok next.Undecided))
    → (going : now.ended ≡ false) → decided_items_now now ≡ Unknown → (g : Fills now after left' left'' log' log'') → HoldsSince log log' (AsksSoFar before s b.took)
    → HoldsSince log log'' (AsksSoFar before after (so_far_more before s now after left left' left'' log' log'' b d going g).took)
unfolding so_far_more
asks_more before s now after left left' left'' log log' log'' b d going unknown g so_far =
    since_more log log' log'' (Some g.got) (AsksSoFar before s b.took) (AsksSoFar before after (b.took ++ g.got)) so_far g.logged
    (λ reads t. record {
      due = asked_due before s now left left' reads (Some g.got) b d going unknown t;
      same = after_reads_more before reads (Some g.got) ∙ ap (λ (s : State). state_after_read s (Some g.got)) t.same
          ∙ after_got before s after b.took g.got (sym d.ended ∙ going) g.some (λ over. (g.ended over).0);
      gave = gave_more reads g.got t.gave;
    })

-- ---- after the call

-- where no read failed
pub due_now : {A : Type 0} → (before s after : State) (took : List ℕ) (log log' : Option Log) (result : Result A RecordFault) → result ≢ Err faults.Failed → after.ended ≡ s.ended → HoldsSince log log' (AsksSoFar before s took)
    → HoldsSince log log' (WereDue before (record before { pending = before.pending ++ took; ended = after.ended }) result)
due_now before s after took log log' result other ended so_far =
    since_map log log' (AsksSoFar before s took) (WereDue before (record before { pending = before.pending ++ took; ended = after.ended }) result) so_far
    (λ reads t. record { due = t.due; gave = rw ended t.same; failure = failure_other reads result other t.gave })

-- where the last one did
pub due_failed : (A : Type 0) (before s now : State) (left left' : Option (List ℕ)) (log log' log'' : Option Log) → (b : SoFar before s left left') → (d : Decides s now (Ok next.Undecided)) → now.ended ≡ false
    → decided_items_now now ≡ Unknown → Logs log' log'' None → HoldsSince log log' (AsksSoFar before s b.took)
    → HoldsSince log log'' (WereDue {A = A} before (record before { pending = before.pending ++ b.took; ended = now.ended }) (Err faults.Failed))
due_failed A before s now left left' log log' log'' b d going unknown one so_far =
    since_more log log' log'' None (AsksSoFar before s b.took) (WereDue {A = A} before (record before { pending = before.pending ++ b.took; ended = now.ended }) (Err faults.Failed)) so_far one
    (λ reads t. record {
      due = asked_due before s now left left' reads None b d going unknown t;
      gave = after_reads_more before reads None ∙ rw d.ended t.same;
      failure = failure_last A reads t.gave;
    })
