-- The texts of the lines of a file (HAProxy configuration manual 2.6, section 2.1).
use Rattle.std.specs.Prelude.{ℕ, ◌+◌, List, [], length, map, Option, None, Some}
use Rattle.std.specs.Io.BufRead.{strip_last}
use Rattle.hx_base.specs.Bytes.{ascii}
use Rattle.hx_text.specs.Cut.{pieces}

-- the texts of the lines, without the line feeds between them and without the one carriage return
-- that may end each
abbrev pub texts_in : List ℕ → List (List ℕ)
texts_in file = map (strip_last (ascii "\r")) (pieces (ascii "\n") file)

-- ---- what a loop over lines has left

-- the texts of the lines of what is left of a file, where something is
abbrev pub texts_left : Option (List ℕ) → List (List ℕ)
texts_left None = []
texts_left (Some rest) = texts_in rest

-- the bytes that are left, and the line that begins there
abbrev pub size_left : Option (List ℕ) → ℕ
size_left None = 0
size_left (Some rest) = length rest + 1
