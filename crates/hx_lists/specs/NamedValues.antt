-- Values under names: the cookies of a line (HAProxy configuration manual 2.4 section 7.3.6, RFC
-- 6265 section 4.2.1) and the parameters of a target (the same section of the manual).
use Rattle.std.specs.Prelude.{ℕ, Bool, ◌||◌, ◌==◌, List, map, filter, Option, option_map}
use Rattle.std.specs.List.{find, list_any, slice_split, before_first, after_first}
use Rattle.std.specs.Str.{bytes_eq}
use Rattle.hx_base.specs.Bytes.{ascii, is_given}
use Rattle.hx_lists.specs.Blanks.{trim_blanks}

-- a name and its value
abbrev pub NamedValue : Type 0
NamedValue = List ℕ × List ℕ

-- what stands before the first `=` of a piece, and what follows it
abbrev pub named_value : List ℕ → NamedValue
named_value piece =
    (before_first (λ b. b == ascii "=") piece, after_first (λ b. b == ascii "=") piece)

-- a text, cut at each byte that separates: the names and values of those pieces that have `=`, and
-- so name a value
abbrev pub named_values : (ℕ → Bool) → List ℕ → List NamedValue
named_values separates text =
    map named_value (filter (list_any (λ b. b == ascii "=")) (slice_split separates text))

-- the name and the value without the blanks at their ends
abbrev pub trimmed_pair : NamedValue → NamedValue
trimmed_pair pair = (trim_blanks pair.0, trim_blanks pair.1)

-- the cookies of a line, which is cut at each `;`, names and values without blanks at their ends
abbrev pub cookies : List ℕ → List NamedValue
cookies line = map trimmed_pair (named_values (λ b. b == ascii ";") line)

-- the pair has the name, whose letters' case counts
abbrev pub is_named : List ℕ → NamedValue → Bool
is_named name pair = bytes_eq pair.0 name

-- the value of the first of the pairs that has the name
abbrev pub value_named : List ℕ → List NamedValue → Option (List ℕ)
value_named name pairs = option_map (λ pair. pair.1) (find (is_named name) pairs)

-- `?` or the delimiter: the first in a target stands before its parameters
abbrev pub begins_params : Option ℕ → ℕ → Bool
begins_params delim b = b == ascii "?" || is_given delim b

-- `&`, `;` or the delimiter: it stands between two parameters
abbrev pub separates_params : Option ℕ → ℕ → Bool
separates_params delim b = b == ascii "&" || b == ascii ";" || is_given delim b

-- The parameters of a target: those of what follows the first byte that begins parameters, and none
-- where there is no such byte. Nothing is decoded.
abbrev pub params : List ℕ → Option ℕ → List NamedValue
params target delim =
    named_values (separates_params delim) (after_first (begins_params delim) target)
