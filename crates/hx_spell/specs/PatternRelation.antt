-- The inline patterns of an ACL, and their keys. Numbers may be compared by the words `eq`, `ge`,
-- `gt`, `le` and `lt`, each of which holds for the words up to the next (HAProxy configuration
-- manual 2.4, section 7.1.2).
use Rattle.std.specs.Prelude.{◌≡◌, ℕ, ℤ, pos, ◌+ℤ◌, ◌-ℤ◌, Bool, true, false, List, [], ◌∷◌, codes}
use Rattle.std.specs.Fmt.{signed_decimal}
use Rattle.std.specs.List.{list_any}
use Rattle.std.specs.Option.{option_map_or}
use Rattle.std.specs.Str.{bytes_eq}
use Rattle.hx_base.specs.Bytes.{ascii}
use Rattle.hx_text.specs.declared.By.{By}
use Rattle.hx_text.specs.Number.{int_of}
use Rattle.hx_spell.specs.Patterns.{compares_numbers, from_text, up_to_text}
use Rattle.hx_calls.specs.Values.{is_among}

-- the words of operators, each for the numbers after it
abbrev pub operators : List (List ℕ)
operators = codes "eq" ∷ codes "ge" ∷ codes "gt" ∷ codes "le" ∷ codes "lt" ∷ []

abbrev pub is_operator : List ℕ → Bool
is_operator word = list_any (λ operator. bytes_eq operator word) operators

-- The bound that a word gives: its number after this change, or the word itself, where it writes no
-- number; no number hits the key then. A range gives no bound.
pub record IsBound (change : ℤ → ℤ) (word bound : List ℕ) : Type 0 where
  pub single : is_among word (ascii ":") ≡ false
  pub is : bound ≡ option_map_or (λ n. signed_decimal (change n)) (int_of word) word

-- The key of a word after an operator: the word itself, which may be a range, or the range from a
-- bound on or up to one.
pub data HasKey : List ℕ → List ℕ → List ℕ → Type 0 where
  Equal : (word : List ℕ) → HasKey (codes "eq") word word
  AtLeast : (word bound : List ℕ) → IsBound (λ n. n) word bound
      → HasKey (codes "ge") word (from_text bound)
  Above : (word bound : List ℕ) → IsBound (λ n. n +ℤ pos 1) word bound
      → HasKey (codes "gt") word (from_text bound)
  AtMost : (word bound : List ℕ) → IsBound (λ n. n) word bound
      → HasKey (codes "le") word (up_to_text bound)
  Below : (word bound : List ℕ) → IsBound (λ n. n -ℤ pos 1) word bound
      → HasKey (codes "lt") word (up_to_text bound)

-- words that come after an operator are numbers, each with its key, and other operators
pub data SpellNumbers : List ℕ → List (List ℕ) → List (List ℕ) → Type 0 where
  NoNumbers : (operator : List ℕ) → SpellNumbers operator [] []
  NextOperator : (operator next : List ℕ) (words keys : List (List ℕ)) → is_operator next ≡ true
      → SpellNumbers next words keys → SpellNumbers operator (next ∷ words) keys
  NextNumber : (operator word key : List ℕ) (words keys : List (List ℕ))
      → is_operator word ≡ false → HasKey operator word key → SpellNumbers operator words keys
      → SpellNumbers operator (word ∷ words) (key ∷ keys)

-- Words are patterns with these keys: texts as they stand, and by a method that compares numbers,
-- numbers and operators, `eq` before the first of them.
pub data SpellKeys (by : By) : List (List ℕ) → List (List ℕ) → Type 0 where
  Texts : (words : List (List ℕ)) → compares_numbers by ≡ false → SpellKeys by words words
  Numbers : (words keys : List (List ℕ)) → compares_numbers by ≡ true
      → SpellNumbers (codes "eq") words keys → SpellKeys by words keys
