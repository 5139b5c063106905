-- The inline patterns of an ACL as the keys of entries. Numbers may be compared by the words `eq`,
-- `ge`, `gt`, `le` and `lt`, each of which holds for the words up to the next (HAProxy
-- configuration manual 2.4, section 7.1.2).
use Rattle.std.specs.Prelude.{ℕ, ℤ, pos, ◌+ℤ◌, ◌-ℤ◌, Bool, true, false, List, [], ◌∷◌, ◌++◌, codes, Option, Some, None, if◌then◌else◌}
use Rattle.std.specs.Fmt.{signed_decimal}
use Rattle.std.specs.Option.{option_map_or}
use Rattle.hx_base.specs.Bytes.{ascii}
use Rattle.hx_text.specs.declared.By.{By}
use Rattle.hx_text.specs.declared.By.TheVariants as method
use Rattle.hx_text.specs.Number.{int_of}
use Rattle.hx_calls.specs.declared.fault.SpellFault.{SpellFault}
use Rattle.hx_calls.specs.Codes.{bad_argument}
use Rattle.hx_calls.specs.Tables.{Table, entry_at}
use Rattle.hx_calls.specs.Values.{is_among}

-- numbers from this text on, and up to it
abbrev pub from_text : List ℕ → List ℕ
from_text text = text ++ ascii ":" ∷ []

abbrev pub up_to_text : List ℕ → List ℕ
up_to_text text = ascii ":" ∷ text

-- an operator is the key of a word after it, and none where the word may not follow it
abbrev pub Operator : Type 0
Operator = List ℕ → Option (List ℕ)

-- the word itself, which may be a range
abbrev pub equal : List ℕ → Option (List ℕ)
equal word = Some word

-- The numbers from a bound on, or up to it; a range isn't allowed. Of a word that is no number it
-- is a key that no number hits.
abbrev pub bounded : (List ℕ → List ℕ) → (ℤ → ℤ) → List ℕ → Option (List ℕ)
bounded range bound word =
    if is_among word (ascii ":") then None
    else Some (range (option_map_or (λ n. signed_decimal (bound n)) (int_of word) word))

unfoldable pub operator_table : Table Operator
operator_table =
    (codes "eq", equal)
    ∷ (codes "ge", bounded from_text (λ n. n))
    ∷ (codes "gt", bounded from_text (λ n. n +ℤ pos 1))
    ∷ (codes "le", bounded up_to_text (λ n. n))
    ∷ (codes "lt", bounded up_to_text (λ n. n -ℤ pos 1))
    ∷ []

-- the keys of words, and the fault of the word after them, if it has one
pub record Keys : Type 0 where
  pub keys : List (List ℕ)
  pub fault : Option SpellFault

abbrev pub key_or_fault : Option (List ℕ) → Keys → Keys
key_or_fault (Some key) more = record { keys = key ∷ more.keys; fault = more.fault }
key_or_fault None more = record { keys = []; fault = Some bad_argument }

-- the keys of words that are compared as numbers, after an operator; each word is an operator, for
-- the words after it, or a number
abbrev pub number_keys : Operator → List (List ℕ) → Keys
number_keys operator [] = record { keys = []; fault = None }
number_keys operator (word ∷ words) =
    option_map_or (λ next. number_keys next words) (entry_at operator_table word)
    (key_or_fault (operator word) (number_keys operator words))

-- whether the method compares numbers
abbrev pub compares_numbers : By → Bool
compares_numbers method.Int = true
compares_numbers method.Len = true
compares_numbers _ = false

-- the keys of inline patterns
abbrev pub keys_of : By → List (List ℕ) → Keys
keys_of by words =
    if compares_numbers by then number_keys equal words else record { keys = words; fault = None }
