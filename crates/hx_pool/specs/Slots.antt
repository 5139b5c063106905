-- How a pool keeps its slots. No public clause cites this module.
use Rattle.std.specs.Prelude.{◌≡◌, ℕ, zero, suc, ◌+◌, ◌-◌, ◌^◌, ◌≤◌, min, List, [], ◌∷◌, ◌++◌, map, length, Option, Some, None, is_some, count_by, slice_get}
use Rattle.hx_pool.specs.declared.slot.Slot.{Slot}
use Rattle.hx_pool.specs.declared.slot.Slot.TheVariants.{Free, Live}

module _ {X : Type 0} where
  -- the lists one after another
  abbrev pub flat : List (List X) → List X
  flat [] = []
  flat (xs ∷ xss) = xs ++ flat xss

  -- so many items lie in the lists, each list with 1,024 of them before the next has any
  abbrev pub IsPacked : List (List X) → ℕ → Type 0
  IsPacked [] n = n ≡ 0
  IsPacked (xs ∷ xss) n = (length xs ≡ min n 1024) × IsPacked xss (n - 1024)

  -- so many items, in chunks that have at most 2^32 places
  pub record AreChunks (xss : List (List X)) (n : ℕ) : Type 0 where
    pub packed : IsPacked xss n
    pub few : length xss ≤ 2 ^ 22

module _ {T : Type 0} where
  -- the value of a slot, if it has one
  abbrev pub value_of : Slot T → Option T
  value_of (Free _) = None
  value_of (Live value) = Some value

  -- from the first number on, so many free slots each name the next
  abbrev pub IsFreeList : List (Slot T) → ℕ → Option ℕ → Type 0
  IsFreeList slots zero first = first ≡ None
  IsFreeList slots (suc count) first = (id : ℕ) × (next : Option ℕ) × (first ≡ Some id)
      × (slice_get slots id ≡ Some (Free next)) × IsFreeList slots count next

  -- the slots without a value are those of one list, `free` of them, and there is memory for `fresh`
  -- slots more
  pub record IsPool (slots : List (Slot T)) (room free fresh : ℕ) (first : Option ℕ) : Type 0 where
    pub counted : count_by is_some (map value_of slots) + free ≡ length slots
    pub linked : IsFreeList slots free first
    pub ready : fresh ≤ room
    pub few : length slots + fresh ≤ 2 ^ 32
