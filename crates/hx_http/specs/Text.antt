-- The lines of a head as a text, for those that write a head. None ends in a line end, so that the
-- writer chooses what stands between them.
use Rattle.std.specs.Prelude.{ℕ, List, ◌++◌, codes}
use Rattle.std.specs.Fmt.{decimal}
use Rattle.std.specs.List.{flat_map}
use Rattle.hx_http.specs.Parts.{Parts}

-- `NAME: VALUE`
abbrev pub header_line : List ℕ × List ℕ → List ℕ
header_line line = line.0 ++ (codes ": " ++ line.1)

-- `METHOD TARGET HTTP/1.MINOR`
abbrev pub request_line : Parts → List ℕ
request_line head =
    head.method ++ (codes " " ++ (head.target ++ (codes " HTTP/1." ++ decimal head.minor)))

-- the request line and the header lines, with a text between each two
abbrev pub head_lines : List ℕ → Parts → List ℕ
head_lines between head =
    request_line head ++ flat_map (λ line. between ++ header_line line) head.headers
