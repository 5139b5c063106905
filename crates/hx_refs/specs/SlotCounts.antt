-- Between which numbers the slots of memory lie that references need: those in which their entries
-- stand, and those by which they are searched.
use Rattle.std.specs.Prelude.{ℕ, ◌+◌, ◌*◌, List, length}
use Rattle.std.specs.List.{enumerate_from, sum_by}
use Rattle.hx_sample.specs.Tables.{TableHead}
use Rattle.hx_refs.specs.References.{Reference, References, Version}
use Rattle.hx_refs.specs.Uses.{uses_of}

-- the least slots of a version, whose reference has so many uses: for each entry one, and one for
-- each use
abbrev pub least_slots : ℕ → Version → ℕ
least_slots uses version = length version.entries * (1 + uses)

-- the most: those that one entry more would need
abbrev pub most_slots : ℕ → Version → ℕ
most_slots uses version = (length version.entries + 1) * (1 + uses)

-- the slots of all versions of a reference, which stands with its position, by those of a version
abbrev pub slots_in : (ℕ → Version → ℕ) → List TableHead → ℕ × Reference → ℕ
slots_in of_version heads (r, reference) =
    sum_by (of_version (length (uses_of heads r))) reference.versions

-- the slots of all versions of all references
abbrev pub slots_in_all : (ℕ → Version → ℕ) → References → ℕ
slots_in_all of_version refs =
    sum_by (slots_in of_version refs.heads) (enumerate_from 0 refs.references)
