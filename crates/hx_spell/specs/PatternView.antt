-- The private enum of src/patterns.rt as the definitions have it.
use Rattle.std.specs.Prelude.{ℕ, ℤ, pos, ◌+ℤ◌, ◌-ℤ◌, Bool, true, false, List, Option, None, Some, if◌then◌else◌}
use Rattle.std.specs.Fmt.{signed_decimal}
use Rattle.std.specs.Option.{option_map_or}
use Rattle.hx_base.specs.Bytes.{ascii}
use Rattle.hx_text.specs.Number.{int_of}
use Rattle.hx_spell.specs.declared.patterns.Operator.{Operator}
use Rattle.hx_spell.specs.declared.patterns.Operator.TheVariants.{Equal, AtLeast, Above, AtMost, Below}
use Rattle.hx_spell.specs.Patterns.{from_text, up_to_text}
use Rattle.hx_calls.specs.Values.{is_among}

-- the key of a word that is no range, and that writes this number, if it writes one
abbrev pub operator_key : Operator → List ℕ → Option ℤ → List ℕ
operator_key Equal word n = word
operator_key AtLeast word n = from_text (option_map_or signed_decimal n word)
operator_key Above word n = from_text (option_map_or (λ i. signed_decimal (i +ℤ pos 1)) n word)
operator_key AtMost word n = up_to_text (option_map_or signed_decimal n word)
operator_key Below word n = up_to_text (option_map_or (λ i. signed_decimal (i -ℤ pos 1)) n word)

-- after any operator but `eq`, a range isn't allowed
abbrev pub allows_range : Operator → Bool
allows_range Equal = true
allows_range _ = false

-- the key of a word after an operator
abbrev pub key_after : Operator → List ℕ → Option (List ℕ)
key_after operator word =
    if allows_range operator then Some word else
    (if is_among word (ascii ":") then None else Some (operator_key operator word (int_of word)))
