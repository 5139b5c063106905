-- What a tree stands for: keys, each with the number of its node, the oldest first.
use Rattle.std.specs.Prelude.{◌==◌, ◌&&◌, ℕ, Bool, true, false, if◌then◌else◌, List, [], ◌∷◌, length, Option, Some, None, nat_lt}
use Rattle.std.specs.Option.{option_map}
use Rattle.hx_pool.specs.Chain.{IsIn}
use Rattle.hx_ebtree.specs.Bits.{is_same_bit}

abbrev pub KeyList : Type 0
KeyList = List (List Bool × ℕ)

abbrev pub is_same_key : List Bool → List Bool → Bool
is_same_key [] [] = true
is_same_key [] (y ∷ ys) = false
is_same_key (x ∷ xs) [] = false
is_same_key (x ∷ xs) (y ∷ ys) = is_same_bit x y && is_same_key xs ys

abbrev pub is_prefix : List Bool → List Bool → Bool
is_prefix [] ys = true
is_prefix (x ∷ xs) [] = false
is_prefix (x ∷ xs) (y ∷ ys) = is_same_bit x y && is_prefix xs ys

-- the number of the first pair with the key
abbrev pub exact_of : KeyList → List Bool → Option ℕ
exact_of [] key = None
exact_of (pair ∷ pairs) key = if is_same_key pair.0 key then Some pair.1 else exact_of pairs key

-- a pair, unless a later one has a longer key
abbrev pub longer_of : List Bool × ℕ → Option (List Bool × ℕ) → Option (List Bool × ℕ)
longer_of pair None = Some pair
longer_of pair (Some later) =
    if nat_lt (length pair.0) (length later.0) then Some later else Some pair

-- of the pairs whose keys are prefixes of the key, the first of those with the most bits
abbrev pub longest_pair_of : KeyList → List Bool → Option (List Bool × ℕ)
longest_pair_of [] key = None
longest_pair_of (pair ∷ pairs) key = if is_prefix pair.0 key
    then longer_of pair (longest_pair_of pairs key)
    else longest_pair_of pairs key

abbrev pub longest_of : KeyList → List Bool → Option ℕ
longest_of pairs key = option_map (λ (p : List Bool × ℕ). p.1) (longest_pair_of pairs key)

-- the numbers of the pairs with the key, in their order
abbrev pub numbers_of : List Bool → KeyList → List ℕ
numbers_of key [] = []
numbers_of key (pair ∷ pairs) = if is_same_key pair.0 key
    then pair.1 ∷ numbers_of key pairs
    else numbers_of key pairs

-- the numbers of all pairs
abbrev pub ids_of : KeyList → List ℕ
ids_of [] = []
ids_of (pair ∷ pairs) = pair.1 ∷ ids_of pairs

-- a pair has the number; none has
abbrev pub Lists : KeyList → ℕ → Type 0
Lists pairs id = IsIn id (ids_of pairs)

abbrev pub IsOff : ℕ → KeyList → Type 0
IsOff id pairs = Lists pairs id → ⊥

-- the pairs without those of this number
abbrev pub without : ℕ → KeyList → KeyList
without id [] = []
without id (pair ∷ pairs) = if pair.1 == id then without id pairs else pair ∷ without id pairs
