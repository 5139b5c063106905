-- Options of an action or a statement: words with so many arguments each, in any order, up to `if`
-- or `unless`. A table gives for each option a letter for each of its arguments.
use Rattle.std.specs.Prelude.{ℕ, ◌-◌, nat_lt, ◌||◌, Bool, List, [], ◌∷◌, codes, length, Option, None, Some, option_and_then, if◌then◌else◌}
use Rattle.std.specs.Option.{option_map_or}
use Rattle.std.specs.Str.{bytes_eq}
use Rattle.hx_base.specs.Pairs.{entry_at}
use Rattle.hx_config.specs.Titles.{word_at}

-- the word begins a condition
abbrev pub begins_condition : List ℕ → Bool
begins_condition word = bytes_eq word (codes "if") || bytes_eq word (codes "unless")

-- What follows the options: no word, or the condition. None where a word is no option of the table,
-- or an argument is missing. The first `skip` words are arguments.
abbrev pub after_options : List (List ℕ × List ℕ) → (skip : ℕ) → List (List ℕ)
    → Option (List (List ℕ))
after_options table skip [] = if nat_lt 0 skip then None else Some []
after_options table skip (word ∷ words) =
    if nat_lt 0 skip then after_options table (skip - 1) words
    else (if begins_condition word then Some (word ∷ words)
    else option_and_then (λ arguments. after_options table (length arguments) words)
    (entry_at table word))

-- the first argument of the last option of this name, and `found` where there is none
abbrev pub value_from : List (List ℕ × List ℕ) → (name : List ℕ) → (found : Option (List ℕ))
    → (skip : ℕ) → List (List ℕ) → Option (List ℕ)
value_from table name found skip [] = found
value_from table name found skip (word ∷ words) =
    if nat_lt 0 skip then value_from table name found (skip - 1) words
    else (if begins_condition word then found
    else (let last = if bytes_eq word name then Some (word_at 0 words) else found in
    option_map_or (λ arguments. value_from table name last (length arguments) words)
    (entry_at table word) last))

abbrev pub value_of : List (List ℕ × List ℕ) → (name : List ℕ) → List (List ℕ) → Option (List ℕ)
value_of table name words = value_from table name None 0 words
