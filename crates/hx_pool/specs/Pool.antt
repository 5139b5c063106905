-- What a contract sees of a pool: a finite map from numbers of slots to values, and how many slots
-- are spare.
use Rattle.std.specs.Prelude.{◌≡◌, ◌≢◌, ℕ, ◌+◌, List, Option, Some, None, IsSome, is_some, count_by, slice_index_or, slice_set, refl}
use Rattle.std.specs.Coded.{Coded, code_by, coded×, coded_ℕ, coded_list, coded_option}

-- the value of each slot, by its number, or none where the slot is free; and how many are free
pub record Pool (T : Type 0) : Type 0 where
  pub slots : List (Option T)
  pub spare : ℕ

-- a pool is stored as the pair of its fields
abbrev pub pool_code : {T : Type 0} → Coded T → Coded (Pool T)
pool_code {T} code =
    code_by
    (List (Option T) × ℕ)
    (coded× (coded_list (coded_option code)) coded_ℕ)
    (λ p. (p.slots, p.spare))
    (λ p. record { slots = p.0; spare = p.1 })
    (λ _. refl)

module _ {T : Type 0} where
  -- the value with this number, if the number is live
  abbrev pub get : Pool T → ℕ → Option T
  get p id = slice_index_or p.slots id None

  -- the number has a value
  abbrev pub IsLive : Pool T → ℕ → Type 0
  IsLive p id = IsSome (get p id)

  -- how many numbers are live
  abbrev pub live_count : Pool T → ℕ
  live_count p = count_by is_some p.slots

  -- how many slots there are
  abbrev pub total : Pool T → ℕ
  total p = live_count p + p.spare

  -- each number has the value that it had, or none as before
  abbrev pub SameValues : Pool T → Pool T → Type 0
  SameValues old new = (id : ℕ) → get new id ≡ get old id

  -- this number has this value or none, and each other number what it had
  pub record Updates (old new : Pool T) (id : ℕ) (value : Option T) : Type 0 where
    pub changed : get new id ≡ value
    pub others : (k : ℕ) → k ≢ id → get new k ≡ get old k

  -- the pool after a write through `get_mut(id)`
  abbrev pub with_value : Pool T → ℕ → T → Pool T
  with_value p id value = record p { slots = slice_set p.slots id (Some value) }
