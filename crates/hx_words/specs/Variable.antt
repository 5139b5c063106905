-- Variables of the environment, as `$NAME` and `${NAME}` name them in double quotes (HAProxy's
-- configuration manual 2.4, section 2.2).
use Rattle.std.specs.Prelude.{ℕ, ◌+◌, Bool, not, eqb, ◌==◌, ◌||◌, if◌then◌else◌, List, [], ◌∷◌, codes, take, drop, Option, Some, None, option_map, unwrap_or}
use Rattle.std.specs.List.{prefix_len, starts_with}
use Rattle.std.specs.Char.{is_ascii_alphanumeric, is_ascii_digit}
use Rattle.hx_base.specs.Bytes.{ascii}
use Rattle.hx_base.specs.Pairs.{NamedBytes, value_at}

-- names and their values, in the order in which they were handed in
abbrev pub Env : Type 0
Env = NamedBytes

-- a letter, a digit or `_`
abbrev pub is_name_byte : ℕ → Bool
is_name_byte c = is_ascii_alphanumeric c || c == ascii "_"

-- how long the name is that these bytes begin with: as long as possible, and 0 where they begin
-- with none, as with a digit
abbrev pub variable_name_length : List ℕ → ℕ
variable_name_length [] = 0
variable_name_length (c ∷ cs) =
    if is_ascii_digit c then 0 else prefix_len is_name_byte (c ∷ cs)

-- the name that these bytes begin with, and how many of them it takes
abbrev pub plain_name : List ℕ → Option (ℕ × List ℕ)
plain_name bs =
    let n = variable_name_length bs in if n == 0 then None else Some (n, take n bs)

-- the same after `{`, where `}` has to follow the name at once: both braces are counted
abbrev pub braced_name : List ℕ → Option (ℕ × List ℕ)
braced_name bs =
    let n = variable_name_length bs in
    if n == 0 || not (starts_with eqb (drop n bs) (codes "}")) then None
    else Some (n + 2, take n bs)

-- the name of the variable, where these bytes follow a `$`, and how many of them spell it
abbrev pub variable_name : List ℕ → Option (ℕ × List ℕ)
variable_name [] = None
variable_name (c ∷ cs) = if c == ascii "{" then braced_name cs else plain_name (c ∷ cs)

-- the same with the variable's value in place of its name, empty where there is none
unfoldable pub variable_of : Env → List ℕ → Option (ℕ × List ℕ)
variable_of env bs =
    option_map (λ found. (found.0, unwrap_or (value_at env found.1) [])) (variable_name bs)
