-- Tables of texts: the name and the reason of a code, and what is said of a status.
use Rattle.std.specs.Prelude.{ℕ, ◌==◌, List, [], ◌∷◌, if◌then◌else◌}
use Rattle.std.specs.Str.{bytes_eq}
use Rattle.hx_program.specs.declared.tables.TheConstants.{UNKNOWN_CODE}

-- the name and the reason of a code, by the first row that begins with it; without one, those of an
-- unknown code
abbrev pub meaning_of : List (List ℕ × List ℕ × List ℕ) → List ℕ → List ℕ × List ℕ
meaning_of [] code = (UNKNOWN_CODE.0.now, UNKNOWN_CODE.1.now)
meaning_of (row ∷ rows) code = if bytes_eq row.0 code then (row.1, row.2) else meaning_of rows code

-- what is said of a status, by the first row that begins with it; without one, another text
abbrev pub status_text : (other : List ℕ) → List (ℕ × List ℕ) → ℕ → List ℕ
status_text other [] status = other
status_text other (row ∷ rows) status =
    if row.0 == status then row.1 else status_text other rows status
