-- The items of a record: its events, each with its offset, and how it ends. `InOrder` says as a
-- relation what these functions compute, and a law ties the two.
use Rattle.std.specs.Prelude.{ℕ, zero, suc, ◌+◌, ◌-◌, List, [], ◌∷◌, length, take, Bool, true, false, nat_lt, if◌then◌else◌}
use Rattle.hx_record.specs.declared.events.Placed.{Placed}
use Rattle.hx_record.specs.declared.refusal.RecordRefusal.TheVariants as refusals
use Rattle.hx_record.specs.Beginning.{Continuation, Ends, Beyond, Open, Beginning, Undecided, TooLong, Finish, Fault, Skip, Found, beginning_of}
use Rattle.hx_record.specs.RefusalCode.{code_of}

-- Events in order, and how they end: with the record's end, with a refusal at an offset, or where
-- more bytes decide how the record goes on.
pub data Items : Type 0 where
  Unknown Done : Items
  Bad : (offset code : ℕ) → Items
  Then : (event : Placed) (rest : Items) → Items

-- The items of bytes at the offset `at` that begin so, where the bytes after the first `used` have
-- the items `rest used`. A record that is too long is refused at the limit.
abbrev pub items_of : ℕ → Beginning → ℕ → (ℕ → Items) → Items
items_of limit Undecided at rest = Unknown
items_of limit TooLong at rest = Bad limit (code_of refusals.TooLong)
items_of limit Finish at rest = Done
items_of limit (Fault skip refusal) at rest = Bad (at + skip) (code_of refusal)
items_of limit (Skip used) at rest = rest used
items_of limit (Found used event) at rest = Then (record { offset = at; event = event }) (rest used)

-- The items of bytes at the offset `at`, the first `skip` of which belong to the item before.
unfoldable pub items : ℕ → Continuation → List ℕ → ℕ → ℕ → Items
items limit next [] at skip = items_of limit (beginning_of next []) at (λ used. Unknown)
items limit next (b ∷ bs) at (suc skip) = items limit next bs (at + 1) skip
items limit next (b ∷ bs) at zero =
    items_of limit (beginning_of next (b ∷ bs)) at (λ used. items limit next bs (at + 1) (used - 1))

-- What follows the bytes that the limit leaves `room` for: the byte at the limit, if it is there,
-- and else the record's end where `ends`, or it isn't known.
abbrev pub continuation_of : Bool → ℕ → List ℕ → Continuation
continuation_of ends room bytes =
    if nat_lt room (length bytes) then Beyond else if ends then Ends else Open

-- The items of the rest of a record at the offset `at`, under a limit on the whole record. Where
-- `ends`, the record ends after these bytes; else it isn't known what follows them, and these are
-- the items that they decide whatever it is.
unfoldable pub items_from : Bool → ℕ → List ℕ → ℕ → Items
items_from ends at bytes limit =
    items limit (continuation_of ends (limit - at) bytes) (take (limit - at) bytes) at 0

-- what the rest of a record at the offset `at` begins with
abbrev pub beginning_under : Bool → ℕ → List ℕ → ℕ → Beginning
beginning_under ends at bytes limit =
    beginning_of (continuation_of ends (limit - at) bytes) (take (limit - at) bytes)

-- the items of a whole record
abbrev pub record_items : List ℕ → ℕ → Items
record_items bytes limit = items_from true 0 bytes limit

-- the items that the first bytes of a record decide, whatever follows them
abbrev pub decided_items : List ℕ → ℕ → Items
decided_items bytes limit = items_from false 0 bytes limit
