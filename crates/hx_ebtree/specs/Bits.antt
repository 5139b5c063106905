-- Keys as lists of bits, and the codes of which none is a prefix of another.
use Rattle.std.specs.Prelude.{◌≡◌, ℕ, zero, suc, ◌+◌, ◌-◌, ◌*◌, ◌/◌, ◌%◌, ◌^◌, ◌==◌, ◌<◌, ◌≤◌, Bool, true, false, if◌then◌else◌, List, [], ◌∷◌, ◌++◌, length, Option, Some, None, slice_index_or}
use Rattle.std.specs.Option.{option_map}

-- bit i of the bytes, the highest bit of each byte first
abbrev pub bit_of : List ℕ → ℕ → Bool
bit_of bytes i = (slice_index_or bytes (i / 8) 0 / 2 ^ (7 - i % 8)) % 2 == 1

abbrev pub bits_from : List ℕ → ℕ → ℕ → List Bool
bits_from bytes i zero = []
bits_from bytes i (suc count) = bit_of bytes i ∷ bits_from bytes (i + 1) count

-- the first `count` bits of the bytes
unfoldable pub bits_of : List ℕ → ℕ → List Bool
bits_of bytes count = bits_from bytes 0 count

-- two keys, which are the first bits of their bytes, have their first `count` bits in common
pub record HaveInCommon (a : List ℕ) (a_bits : ℕ) (b : List ℕ) (b_bits count : ℕ) : Type 0 where
  pub first : count ≤ a_bits
  pub second : count ≤ b_bits
  pub bits : (i : ℕ) → i < count → bit_of a i ≡ bit_of b i

-- a key is so many bits of the bytes, and fewer than 2^62
pub record IsKey (bytes : List ℕ) (bits : ℕ) : Type 0 where
  pub enough : bits ≤ 8 * length bytes
  pub few : bits < 2 ^ 62

-- a bit that says whether a bit of the key follows, before each bit, and one that says that none
-- does
abbrev pub code_of : List Bool → List Bool
code_of [] = false ∷ []
code_of (bit ∷ bits) = true ∷ bit ∷ code_of bits

abbrev pub IsPrefix : List Bool → List Bool → Type 0
IsPrefix xs ys = (rest : List Bool) × (ys ≡ xs ++ rest)

abbrev pub is_same_bit : Bool → Bool → Bool
is_same_bit false false = true
is_same_bit true true = true
is_same_bit false true = false
is_same_bit true false = false

-- where the codes of two keys differ first, or none where the keys are the same
abbrev pub split_of : List Bool → List Bool → Option ℕ
split_of [] [] = None
split_of [] (y ∷ ys) = Some 0
split_of (x ∷ xs) [] = Some 0
split_of (x ∷ xs) (y ∷ ys) =
    if is_same_bit x y then option_map (λ at. at + 2) (split_of xs ys) else Some 1
