-- Pairs of a name and the bytes that stand under it, as files and variables of the environment are.
use Rattle.std.specs.Prelude.{ℕ, Option, None, Some, List, [], ◌∷◌, map, Vec, if◌then◌else◌}
use Rattle.std.specs.Str.{bytes_eq}

abbrev pub NamedBytes : Type 0
NamedBytes = List (List ℕ × List ℕ)

-- vectors of bytes as lists of bytes
abbrev pub pairs_of : {A : Type 0} → List (Vec ℕ A × Vec ℕ A) → NamedBytes
pairs_of pairs = map (λ pair. (pair.0.items, pair.1.items)) pairs

-- what stands in the first row of this name, and none without one
abbrev pub entry_at : {A : Type 0} → List (List ℕ × A) → List ℕ → Option A
entry_at [] name = None
entry_at (row ∷ rows) name = if bytes_eq row.0 name then Some row.1 else entry_at rows name

-- the bytes under a name
abbrev pub value_at : NamedBytes → List ℕ → Option (List ℕ)
value_at pairs name = entry_at pairs name
