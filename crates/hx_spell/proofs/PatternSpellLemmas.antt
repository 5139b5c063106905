-- Inline patterns are read as the keys that they spell, and as no others.
use Rattle.std.proofs.Common.{◌≡◌, ◌↔◌, ℕ, ℤ, Bool, true, false, cond, List, [], ◌∷◌, map, Option, None, Some, refl, sym, ◌∙◌, ap, subst}
use Rattle.std.specs.Prelude.{pos, ◌+ℤ◌, ◌-ℤ◌, ◌||◌, codes, is_some}
use Rattle.std.specs.Fmt.{signed_decimal}
use Rattle.std.specs.List.{list_any}
use Rattle.std.specs.Option.{option_map_or}
use Rattle.std.specs.Str.{bytes_eq}
use Rattle.std.proofs.lemmas.Option.{none-some, same_Some}
use Rattle.hx_base.specs.Bytes.{ascii}
use Rattle.hx_text.specs.declared.By.{By}
use Rattle.hx_text.specs.Number.{int_of}
use Rattle.hx_spell.specs.PatternRelation.{IsBound, HasKey, SpellKeys, SpellNumbers, is_operator}
use Rattle.hx_spell.specs.PatternRelation.HasKey.{Equal, AtLeast, Above, AtMost, Below}
use Rattle.hx_spell.specs.PatternRelation.SpellKeys.{Texts, Numbers}
use Rattle.hx_spell.specs.PatternRelation.SpellNumbers.{NoNumbers, NextOperator, NextNumber}
use Rattle.hx_spell.specs.Patterns.{Keys, Operator, bounded, compares_numbers, equal, from_text, key_or_fault, keys_of, number_keys, operator_table, up_to_text}
use Rattle.hx_calls.specs.Tables.{Table, entry_at}
use Rattle.hx_calls.specs.Values.{is_among}
use Rattle.hx_spell.proofs.RowLemmas.{EachRow, found_row, ◌&◌}

-- these keys, and no fault
abbrev pub all_keys : List (List ℕ) → Keys
all_keys keys = record { keys = keys; fault = None }

-- ---- operators

some_first : {A : Type 0} (b : Bool) (x : A) (later : Option A)
    → is_some (cond b (Some x) later) ≡ b || is_some later
some_first true x later = refl
some_first false x later = refl

some_row : {A : Type 0} (rows : Table A) (word : List ℕ)
    → is_some (entry_at rows word) ≡ list_any (λ name. bytes_eq name word) (map (λ row. row.0) rows)
some_row [] word = refl
some_row (row ∷ rows) word =
    some_first (bytes_eq row.0 word) row.1 (entry_at rows word)
    ∙ ap (λ b. bytes_eq row.0 word || b) (some_row rows word)

operator_some : (word : List ℕ) → is_some (entry_at operator_table word) ≡ is_operator word
unfolding operator_table
operator_some word = some_row operator_table word

found_operator : (found : Option Operator) → is_some found ≡ true
    → (operator : Operator) × (found ≡ Some operator)
found_operator (Some operator) is = (operator, refl)
found_operator None is = absurd (let no : ⊥ = cc in no)

not_found : (found : Option Operator) → is_some found ≡ false → found ≡ None
not_found (Some operator) is = absurd (let no : ⊥ = cc in no)
not_found None is = refl

-- ---- the key of a word

bound_of : (ℤ → ℤ) → List ℕ → List ℕ
bound_of move word = option_map_or (λ n. signed_decimal (move n)) (int_of word) word

-- a word gives a bound, and its key is this range
abbrev GivesBound : (List ℕ → List ℕ) → (ℤ → ℤ) → List ℕ → List ℕ → Type 0
GivesBound range move word key =
    (bound : List ℕ) × IsBound move word bound × (range bound ≡ key)

bound_given : (range : List ℕ → List ℕ) (move : ℤ → ℤ) (word key : List ℕ) (among : Bool)
    → is_among word (ascii ":") ≡ among
    → cond among None (Some (range (bound_of move word))) ≡ Some key
    → GivesBound range move word key
unfolding bound_of
bound_given range move word key true among is = absurd (none-some key is)
bound_given range move word key false single is = (
  bound_of move word,
  record { single = single; is = refl },
  same_Some (range (bound_of move word)) key is,
)

bounded_given : (range : List ℕ → List ℕ) (move : ℤ → ℤ) (word key : List ℕ)
    → bounded range move word ≡ Some key → GivesBound range move word key
unfolding bound_of
bounded_given range move word key is =
    bound_given range move word key (is_among word (ascii ":")) refl is

given_bounded : (range : List ℕ → List ℕ) (move : ℤ → ℤ) (word bound : List ℕ)
    → IsBound move word bound → bounded range move word ≡ Some (range bound)
given_bounded range move word bound w = rw w.single (ap (λ b. Some (range b)) (sym w.is))

-- what the row of an operator makes of a word is its key
abbrev GivesKey : List ℕ → Operator → Type 0
GivesKey name operator = (word key : List ℕ) → operator word ≡ Some key → HasKey name word key

bounded_key : (name : List ℕ) (range : List ℕ → List ℕ) (move : ℤ → ℤ)
    → ((word bound : List ℕ) → IsBound move word bound → HasKey name word (range bound))
    → GivesKey name (bounded range move)
bounded_key name range move make word key is =
    let (bound, w, same) = bounded_given range move word key is in
    subst (λ (k : List ℕ). HasKey name word k) same (make word bound w)

each_operator : EachRow GivesKey operator_table
unfolding operator_table
each_operator =
    (λ word key is. subst (HasKey (codes "eq") word) (same_Some word key is) (Equal word))
    & bounded_key (codes "ge") from_text (λ n. n) AtLeast
    & bounded_key (codes "gt") from_text (λ n. n +ℤ pos 1) Above
    & bounded_key (codes "le") up_to_text (λ n. n) AtMost
    & bounded_key (codes "lt") up_to_text (λ n. n -ℤ pos 1) Below & tt

key_spelled : (name : List ℕ) (operator : Operator) → entry_at operator_table name ≡ Some operator
    → GivesKey name operator
key_spelled name operator here = found_row GivesKey operator_table name operator each_operator here

applied : (f operator : Operator) (word : List ℕ) → Some f ≡ Some operator → operator word ≡ f word
applied f operator word is = ap (λ (g : Operator). g word) (sym (same_Some f operator is))

key_read : (name word key : List ℕ) → HasKey name word key → (operator : Operator)
    → entry_at operator_table name ≡ Some operator → operator word ≡ Some key
unfolding operator_table
key_read _ _ _ (Equal word) operator here = applied equal operator word here
key_read _ _ _ (AtLeast word bound w) operator here =
    applied (bounded from_text (λ n. n)) operator word here
    ∙ given_bounded from_text (λ n. n) word bound w
key_read _ _ _ (Above word bound w) operator here =
    applied (bounded from_text (λ n. n +ℤ pos 1)) operator word here
    ∙ given_bounded from_text (λ n. n +ℤ pos 1) word bound w
key_read _ _ _ (AtMost word bound w) operator here =
    applied (bounded up_to_text (λ n. n)) operator word here
    ∙ given_bounded up_to_text (λ n. n) word bound w
key_read _ _ _ (Below word bound w) operator here =
    applied (bounded up_to_text (λ n. n -ℤ pos 1)) operator word here
    ∙ given_bounded up_to_text (λ n. n -ℤ pos 1) word bound w

-- ---- numbers that are read are spelled

-- the words that are left are spelled after any operator
abbrev SpelledAfter : List (List ℕ) → Type 0
SpelledAfter words = (name : List ℕ) (operator : Operator)
    → entry_at operator_table name ≡ Some operator → (keys : List (List ℕ))
    → number_keys operator words ≡ all_keys keys → SpellNumbers name words keys

number_spelled : (name word : List ℕ) (words keys : List (List ℕ)) (operator : Operator)
    → SpelledAfter words → entry_at operator_table name ≡ Some operator
    → is_operator word ≡ false → (key : Option (List ℕ)) → operator word ≡ key
    → key_or_fault key (number_keys operator words) ≡ all_keys keys
    → SpellNumbers name (word ∷ words) keys
number_spelled name word words keys operator later here none None key is =
    absurd (none-some _ (sym (ap (λ (k : Keys). k.fault) is)))
number_spelled name word words keys operator later here none (Some key) made is =
    let others = number_keys operator words in
    let rest : others ≡ all_keys others.keys =
    ap (λ f. record { keys = others.keys; fault = f }) (ap (λ (k : Keys). k.fault) is) in
    subst (λ (all : List (List ℕ)). SpellNumbers name (word ∷ words) all)
    (ap (λ (k : Keys). k.keys) is)
    (NextNumber name word key words others.keys none (key_spelled name operator here word key made)
    (later name operator here others.keys rest))

word_spelled : (name word : List ℕ) (words keys : List (List ℕ)) (operator : Operator)
    → SpelledAfter words → entry_at operator_table name ≡ Some operator
    → (found : Option Operator) → entry_at operator_table word ≡ found
    → option_map_or (λ next. number_keys next words) found
    (key_or_fault (operator word) (number_keys operator words)) ≡ all_keys keys
    → SpellNumbers name (word ∷ words) keys
word_spelled name word words keys operator later here (Some next) found is =
    NextOperator name word words keys (sym (operator_some word) ∙ ap is_some found)
    (later word next found keys is)
word_spelled name word words keys operator later here None found is =
    number_spelled name word words keys operator later here
    (sym (operator_some word) ∙ ap is_some found) (operator word) refl is

numbers_spelled : (words : List (List ℕ)) → SpelledAfter words
numbers_spelled [] name operator here keys is =
    subst (λ (all : List (List ℕ)). SpellNumbers name [] all) (ap (λ (k : Keys). k.keys) is)
    (NoNumbers name)
numbers_spelled (word ∷ words) name operator here keys is =
    word_spelled name word words keys operator (numbers_spelled words) here
    (entry_at operator_table word) refl is

-- ---- numbers that are spelled are read

numbers_read : (name : List ℕ) (words keys : List (List ℕ)) → SpellNumbers name words keys
    → (operator : Operator) → entry_at operator_table name ≡ Some operator
    → number_keys operator words ≡ all_keys keys
numbers_read _ _ _ (NoNumbers name) operator here = refl
numbers_read _ _ _ (NextOperator name next words keys is others) operator here =
    let (after, found) = found_operator (entry_at operator_table next) (operator_some next ∙ is) in
    rw found (numbers_read next words keys others after found)
numbers_read _ _ _ (NextNumber name word key words keys none is others) operator here =
    let no_operator = not_found (entry_at operator_table word) (operator_some word ∙ none) in
    rw (no_operator, key_read name word key is operator here)
    (ap (λ (k : Keys). record { keys = key ∷ k.keys; fault = k.fault })
    (numbers_read name words keys others operator here))

-- ---- the law

first_operator : entry_at operator_table (codes "eq") ≡ Some equal
unfolding operator_table
first_operator = refl

keys_spelled : (by : By) (words keys : List (List ℕ)) (numbers : Bool)
    → compares_numbers by ≡ numbers
    → cond numbers (number_keys equal words) (all_keys words) ≡ all_keys keys
    → SpellKeys by words keys
keys_spelled by words keys true compares is =
    Numbers words keys compares (numbers_spelled words (codes "eq") equal first_operator keys is)
keys_spelled by words keys false compares is =
    subst (λ (all : List (List ℕ)). SpellKeys by words all) (ap (λ (k : Keys). k.keys) is)
    (Texts words compares)

keys_read : (by : By) (words keys : List (List ℕ)) → SpellKeys by words keys
    → keys_of by words ≡ all_keys keys
keys_read by _ _ (Texts words compares) = rw compares refl
keys_read by _ _ (Numbers words keys compares spelled) =
    rw compares (numbers_read (codes "eq") words keys spelled equal first_operator)

-- Words without a fault are read as the keys that they spell, and as no others.
pub keys_law : (by : By) (words keys : List (List ℕ))
    → (keys_of by words ≡ all_keys keys) ↔ SpellKeys by words keys
keys_law by words keys =
    (keys_spelled by words keys (compares_numbers by) refl, keys_read by words keys)
