-- What the memory of a chunk is: who owns the places of a block, and who may give the block back.
-- No public clause cites this module.
use Rattle.std.specs.Prelude.{◌≡◌, ℕ, zero, suc, ◌+◌, ◌*◌, ◌^◌, List, [], ◌∷◌, length, get_or, Option, Some, None}
use Rattle.std.specs.Mem.{type_size}
use base.Fraction.{full_share}
use base.Fml.{Lft, Fml, ftrue, ffalse, fsep, flt, froom}
use mir.Syntax.{Ty, ty_array}
use mir.Raw.{raw}
use denote.RattleType.{RattleType}
use denote.Memory.{lone, part_at, shared_of}
use denote.Sharing.{nothing, said, beside}
use denote.RawPtr.{Ptr, block_ptr, null_ptr}

-- the place at the index holds a value
abbrev pub HoldsAt : {X : Type 0} → List (Option X) → ℕ → Type 0
HoldsAt {X} values index = (x : X) × (get_or values index None ≡ Some x)

module _ (X : RattleType) where
  -- the place that begins so many bytes into a block: its value is owned, or room for one is
  abbrev pub owns_place : ℕ → ℕ → Option X.Denot → Fml
  owns_place block offset None = froom (raw (lone X.mir)) block offset
  owns_place block offset (Some x) = part_at X full_share x block offset

  -- places of one size in a row
  abbrev pub owns_row : ℕ → ℕ → List (Option X.Denot) → Fml
  owns_row block offset [] = ftrue
  owns_row block offset (value ∷ values) =
      fsep (owns_place block offset value) (owns_row block (offset + type_size X) values)

  -- the same where all is lent: what can be read are the values
  abbrev pub lends_value_at : ℕ → ℕ → Option X.Denot → Lft → Fml
  lends_value_at block offset None = nothing
  lends_value_at block offset (Some x) = shared_of X x block offset

  abbrev pub lends_row : ℕ → ℕ → List (Option X.Denot) → Lft → Fml
  lends_row block offset [] = nothing
  lends_row block offset (value ∷ values) = beside (lends_value_at block offset value)
      (lends_row block (offset + type_size X) values)

  -- all places together are fewer bytes than half of the address space
  abbrev pub are_few_bytes : List (Option X.Denot) → Fml
  are_few_bytes values = flt (length values * type_size X) (2 ^ 63)

  -- from the address on lie these places
  abbrev pub owns_places : Ptr → List (Option X.Denot) → Fml
  owns_places null_ptr values = ffalse
  owns_places (block_ptr block offset) values = fsep (are_few_bytes values)
      (owns_row block offset values)

  abbrev pub lends_places : Ptr → List (Option X.Denot) → Lft → Fml
  lends_places null_ptr values = said ffalse
  lends_places (block_ptr block offset) values = beside (said (are_few_bytes values))
      (lends_row block offset values)

  -- the allocator takes a block of so many places at this address back
  abbrev pub owns_block : (Ty → Ptr → Fml) → Ptr → ℕ → Fml
  owns_block takes_back address count = takes_back (raw (ty_array (lone X.mir) count)) address

module _ {X : Type 0} where
  -- the values that the places hold
  abbrev pub values_in : List (Option X) → List X
  values_in [] = []
  values_in (None ∷ places) = values_in places
  values_in (Some x ∷ places) = x ∷ values_in places

  -- so many places from the first on hold a value, and the others don't
  abbrev pub IsFilled : List (Option X) → ℕ → Type 0
  IsFilled [] used = used ≡ 0
  IsFilled (None ∷ places) used = (used ≡ 0) × IsFilled places 0
  IsFilled (Some x ∷ places) zero = ⊥
  IsFilled (Some x ∷ places) (suc used) = IsFilled places used

  -- a block of 1,024 places that one chunk owns and may give back to its allocator
  pub record IsChunk {A : Type 0} (address start claimed : Ptr) (places : List (Option X))
      (count : ℕ)
      (taken_from alloc : A) (used : ℕ) : Type 0 where
    pub starts : start ≡ address
    pub claims : claimed ≡ address
    pub counted : count ≡ 1024
    pub giver : taken_from ≡ alloc
    pub whole : length places ≡ 1024
    pub filled : IsFilled places used
