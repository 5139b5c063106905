-- The record of a run: its bytes as far as they are known, its events, and what refuses them.
use Rattle.std.specs.Prelude.{◌≡◌, ℕ, List, [], ◌∷◌, ◌++◌, codes, flat_map, Option, None, Some, IfSome, option_map, unwrap_or}
use Rattle.std.specs.Fmt.{decimal}
use Rattle.hx_core.specs.declared.fault.StepFault.{StepFault}
use Rattle.hx_core.specs.declared.fault.StepFault.TheVariants.{UnknownConn, ConnOpen, TooLarge, NoMemory}
use Rattle.hx_outside.specs.Log.{HoldsSince, Log}
use Rattle.hx_record.specs.Record.{Items, Done, Then}
use Rattle.hx_record.specs.declared.Event.{Event}

-- the most bytes that a record may have
abbrev pub record_limit : ℕ
record_limit = 4294967296

-- the record is all that the source has left, where that is known
abbrev pub IsRecord : Option (List ℕ) → List ℕ → Type 0
IsRecord left bytes = IfSome left (λ known. bytes ≡ known)

-- the bytes that reads gave, one after the other
abbrev pub bytes_given : Log → List ℕ
bytes_given reads = flat_map (λ read. unwrap_or read []) reads

-- Of the reads since the old log, where the new one is known: P holds of the bytes that all of them
-- but the last gave, where there was a last.
abbrev pub HoldsBeforeLastRead : (log log' : Option Log) → (List ℕ → Type 0) → Type 0
HoldsBeforeLastRead log log' P = HoldsSince log log' (λ reads.
    (before : Log) (last : Option (List ℕ)) → reads ≡ before ++ (last ∷ [])
    → P (bytes_given before))

-- The code of a record with an event that may not stand where it stands: a request or an end of a
-- connection that isn't open, or the opening of one that is. The other faults say nothing of the
-- record, and have none.
abbrev pub refusal_code : StepFault → ℕ
refusal_code UnknownConn = 6
refusal_code ConnOpen = 7
refusal_code TooLarge = 0
refusal_code NoMemory = 0

-- the line that is written of a record that is refused
abbrev pub record_line : (offset code : ℕ) → List ℕ
record_line offset code =
    codes "record " ++ (decimal offset ++ (codes " " ++ (decimal code ++ codes "\n")))

-- the events of a record that is read to its end
abbrev pub events_of : Items → Option (List Event)
events_of Done = Some []
events_of (Then placed rest) = option_map (λ events. placed.event ∷ events) (events_of rest)
events_of _ = None
