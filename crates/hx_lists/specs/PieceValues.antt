-- A view of the code, for private contracts: what one piece of a line of cookies has under a name.
use Rattle.std.specs.Prelude.{ℕ, ◌&&◌, ◌==◌, List, Option, None, Some, if◌then◌else◌}
use Rattle.std.specs.List.{list_any}
use Rattle.hx_base.specs.Bytes.{ascii}
use Rattle.hx_lists.specs.Blanks.{trim_blanks}
use Rattle.hx_lists.specs.NamedValues.{named_value, trimmed_pair, is_named}

-- the value of the cookie that the piece is, if it is one and has the name
abbrev pub value_of_piece : List ℕ → List ℕ → Option (List ℕ)
value_of_piece name piece =
    if list_any (λ b. b == ascii "=") piece && is_named name (trimmed_pair (named_value piece))
    then Some (trim_blanks (named_value piece).1) else None
