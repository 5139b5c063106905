-- What the parts of a reader do.
use Rattle.std.specs.Prelude.{◌≡◌, ℕ, ◌+◌, List, ◌++◌, length, drop, Option, Some}
use Rattle.std.specs.Io.KnownBytes.{Consumes, IsAtEnd}
use Rattle.hx_outside.specs.Log.{Log, Logs}
use Rattle.hx_record.specs.Beginning.{Beginning, Found}
use Rattle.hx_record.specs.Record.{beginning_under}
use Rattle.hx_record.specs.State.{State}

-- the bytes begin with an event
abbrev pub IsFound : Beginning → Type 0
IsFound (Found used event) = Unit {0}
IsFound _ = ⊥

-- what the pending bytes begin with
abbrev pub beginning_now : State → Beginning
beginning_now s = beginning_under s.ended s.at s.pending s.limit

-- so many bytes further
abbrev pub state_past : State → ℕ → State
state_past s used = record s { at = s.at + used; pending = drop used s.pending }

-- a read took so many bytes, and put them after those that were there: none only at the end
pub record AppendsRead (left left' : Option (List ℕ)) (log log' : Option Log)
    (before after : List ℕ) (count : ℕ) : Type 0 where
  pub got : List ℕ
  pub consumed : Consumes left left' got
  pub logged : Logs log log' (Some got)
  pub bytes : after ≡ before ++ got
  pub size : length got ≡ count
  pub end : count ≡ 0 → IsAtEnd left'
