-- What replaces the matches of a regular expression (HAProxy configuration manual 2.4, section
-- 7.3.1, `regsub`).
use Rattle.std.specs.Prelude.{ℕ, ◌-◌, ◌==◌, ◌&&◌, Bool, List, ◌∷◌, ◌++◌, Option, option_map, option_and_then, option_to_list, if◌then◌else◌}
use Rattle.std.specs.Char.{is_ascii_digit}
use Rattle.hx_base.specs.Bytes.{ascii}
use Rattle.hx_outside.specs.Expressions.{expression}
use Rattle.regex.specs.Patterns.{Re, Match, find, find_all}
use Rattle.regex.specs.Replace.{group_bytes, replaced_by}

-- A replacement where the groups matched these bytes: a backslash and a digit are the bytes of the
-- group of that number, two backslashes are one, and a backslash before any other byte stays.
abbrev pub expansion : (ℕ → List ℕ) → List ℕ → List ℕ
expansion group (b ∷ next ∷ rest) =
    if b == ascii "\\" && is_ascii_digit next then group (next - ascii "0") ++ expansion group rest
    else if b == ascii "\\" && next == ascii "\\" then ascii "\\" ∷ expansion group rest
    else if b == ascii "\\" then b ∷ next ∷ expansion group rest
    else b ∷ expansion group (next ∷ rest)
expansion group rest = rest

-- a replacement at a match: group 0 is the match, and a group that took no part is empty
abbrev pub expansion_at : List ℕ → List ℕ → Match → List ℕ
expansion_at sub input m = expansion (group_bytes input m) sub

-- the text with each match replaced, or the leftmost alone
abbrev pub substituted_text : Re → List ℕ → Bool → List ℕ → List ℕ
substituted_text pattern sub each input =
    replaced_by (expansion_at sub input) input 0
    (if each then find_all pattern input else option_to_list (find pattern input 0))

-- the replacement at the leftmost match of the expression that a text is, none without a match
abbrev pub expanded_of : Bool → List ℕ → List ℕ → List ℕ → Option (List ℕ)
expanded_of ci text sub input =
    option_and_then (λ pattern. option_map (expansion_at sub input) (find pattern input 0))
    (expression ci text)
