-- The texts that addresses are printed as.
use Rattle.std.specs.Prelude.{◌≡◌, ◌≤◌, ℕ, ◌+◌, ◌/◌, ◌%◌, ◌^◌, Bool, List, [], ◌∷◌, length, take, drop, replicate}
use Rattle.std.specs.Str.{bytes_eq}

-- the groups of an IPv6 address, the highest first
abbrev pub groups_of : ℕ → List ℕ
groups_of a =
    (a / 2 ^ 112 % 2 ^ 16) ∷ (a / 2 ^ 96 % 2 ^ 16) ∷ (a / 2 ^ 80 % 2 ^ 16) ∷ (a / 2 ^ 64 % 2 ^ 16)
    ∷ (a / 2 ^ 48 % 2 ^ 16) ∷ (a / 2 ^ 32 % 2 ^ 16) ∷ (a / 2 ^ 16 % 2 ^ 16) ∷ (a % 2 ^ 16) ∷ []

-- so many groups from this position on are zero
abbrev pub IsZeroRun : List ℕ → ℕ → ℕ → Type 0
IsZeroRun groups start len =
    (start + len ≤ length groups) × (take len (drop start groups) ≡ replicate len 0)

-- the run of zero groups that RFC 5952 sections 4.2.2 and 4.2.3 have written `::` where it has two
-- groups or more: none is longer, and none of its length begins before it
pub record IsFirstLongestRun (groups : List ℕ) (run : ℕ × ℕ) : Type 0 where
  pub zeros : IsZeroRun groups run.0 run.1
  pub longest : (start len : ℕ) → IsZeroRun groups start len → len ≤ run.1
  pub first : (start : ℕ) → IsZeroRun groups start run.1 → run.0 ≤ start

-- the groups of an address of ::ffff:0:0/96
abbrev pub is_mapped : List ℕ → Bool
is_mapped groups = bytes_eq (take 6 groups) (0 ∷ 0 ∷ 0 ∷ 0 ∷ 0 ∷ 0xffff ∷ [])
