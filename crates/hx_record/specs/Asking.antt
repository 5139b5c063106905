-- When a reader reads its source.
use Rattle.std.specs.Prelude.{◌≡◌, ◌≢◌, ℕ, List, [], ◌∷◌, ◌++◌, true, false, Option, None, Some, Result, Err, ⊤}
use Rattle.hx_outside.specs.Log.{Log}
use Rattle.hx_record.specs.declared.fault.RecordFault.{RecordFault}
use Rattle.hx_record.specs.declared.fault.RecordFault.TheVariants.{Failed}
use Rattle.hx_record.specs.Record.{Unknown}
use Rattle.hx_record.specs.State.{State, decided_items_now}

-- What is known after a read that gave this: its bytes follow those that were there, and where it
-- gave none the record ends. A read that failed changes nothing.
abbrev pub state_after_read : State → Option (List ℕ) → State
state_after_read s None = s
state_after_read s (Some []) = record s { ended = true }
state_after_read s (Some (b ∷ bs)) = record s { pending = s.pending ++ (b ∷ bs) }

-- the same of several reads, oldest first
abbrev pub state_after_reads : State → Log → State
state_after_reads s [] = s
state_after_reads s (read ∷ reads) = state_after_reads (state_after_read s read) reads

-- each of the reads was due: what was there before it decided no item, and no read before it found
-- the end
abbrev pub AreDue : State → Log → Type 0
AreDue s [] = ⊤
AreDue s (read ∷ reads) =
    (s.ended ≡ false) × (decided_items_now s ≡ Unknown) × AreDue (state_after_read s read) reads

-- a read that failed is the last of its call, which then answers that it failed, and answers so
-- only then
abbrev pub FailureIsAnswered : {A : Type 0} → Result A RecordFault → Log → Type 0
FailureIsAnswered result [] = result ≢ Err Failed
FailureIsAnswered result (None ∷ reads) = (reads ≡ []) × (result ≡ Err Failed)
FailureIsAnswered result (Some got ∷ reads) = FailureIsAnswered result reads

-- The reads of a call: each was due when it was made, together they lead from the state before to
-- the state after, and the result is `Failed` exactly where the last of them failed.
pub record WereDue {A : Type 0} (before after : State) (result : Result A RecordFault) (reads : Log)
    : Type 0 where
  pub due : AreDue before reads
  pub gave : state_after_reads before reads ≡ after
  pub failure : FailureIsAnswered result reads
