-- A view of the code, for private contracts: the search for the end of a header line's first piece.
use Rattle.std.specs.Prelude.{ℕ, Bool, ◌||◌, ◌==◌, List, map, take, drop}
use Rattle.std.specs.List.{slice_split}
use Rattle.hx_base.specs.Bytes.{ascii}
use Rattle.hx_lists.specs.HeaderValues.{Quoting, bytes_with_quoting, is_cut, pieces_with_prefix}

-- the pieces of a text that begins at `quoting`, as `hdr_pieces` has them of a line
abbrev pub pieces_from : Quoting → List ℕ → List (List ℕ)
pieces_from quoting bytes =
    map (map (λ byte. byte.1)) (slice_split is_cut (bytes_with_quoting quoting bytes))

-- the pieces of a line whose bytes before `position` all belong to the first, where those from
-- there on begin at `quoting`
abbrev pub pieces_at : Quoting → List ℕ → ℕ → List (List ℕ)
pieces_at quoting line position =
    pieces_with_prefix (take position line) (pieces_from quoting (drop position line))

-- the byte ends a piece or begins a quoted string, where it stands outside those
abbrev pub is_mark : ℕ → Bool
is_mark b = b == ascii "," || b == ascii "\""
