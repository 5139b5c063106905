-- The items of a record as a relation: the rest of a record is cut into a first line or event and a
-- rest, and so on up to its end, to what is refused, or to where more bytes decide.
use Rattle.std.specs.Prelude.{◌≡◌, ℕ, ◌+◌, List, ◌++◌, length, Bool}
use Rattle.hx_record.specs.declared.events.Event.{Event}
use Rattle.hx_record.specs.declared.refusal.RecordRefusal.{RecordRefusal}
use Rattle.hx_record.specs.declared.refusal.RecordRefusal.TheVariants as refusals
use Rattle.hx_record.specs.Beginning.{Undecided, TooLong, Finish, Fault, Skip, Found}
use Rattle.hx_record.specs.RefusalCode.{code_of}
use Rattle.hx_record.specs.Record.{Items, Unknown, Done, Bad, Then, beginning_under}

-- These are the items of the rest of a record at this offset, under the limit, where the record
-- ends after the bytes or it isn't known what follows them.
pub data AreItems (ends : Bool) (limit : ℕ) : ℕ → List ℕ → Items → Type 0 where
  passes : (at : ℕ) (bytes line rest : List ℕ) (others : Items)
      → bytes ≡ line ++ rest → beginning_under ends at bytes limit ≡ Skip (length line)
      → AreItems ends limit (at + length line) rest others
      → AreItems ends limit at bytes others
  finds : (at : ℕ) (bytes first rest : List ℕ) (event : Event) (others : Items)
      → bytes ≡ first ++ rest → beginning_under ends at bytes limit ≡ Found (length first) event
      → AreItems ends limit (at + length first) rest others
      → AreItems ends limit at bytes (Then (record { offset = at; event = event }) others)
  finishes : (at : ℕ) (bytes : List ℕ) → beginning_under ends at bytes limit ≡ Finish
      → AreItems ends limit at bytes Done
  refuses : (at : ℕ) (bytes : List ℕ) (skip : ℕ) (refusal : RecordRefusal)
      → beginning_under ends at bytes limit ≡ Fault skip refusal
      → AreItems ends limit at bytes (Bad (at + skip) (code_of refusal))
  exceeds : (at : ℕ) (bytes : List ℕ) → beginning_under ends at bytes limit ≡ TooLong
      → AreItems ends limit at bytes (Bad limit (code_of refusals.TooLong))
  waits : (at : ℕ) (bytes : List ℕ) → beginning_under ends at bytes limit ≡ Undecided
      → AreItems ends limit at bytes Unknown
