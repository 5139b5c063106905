-- Loops over files and over inline patterns, which read on after what is read so far.
use Rattle.std.proofs.Common.{◌≡◌, ℕ, List, [], ◌∷◌, ◌++◌, Some, None, refl, ap, sym, ◌∙◌, append_assoc}
use Rattle.std.specs.Prelude.{Option, option_map}
use Rattle.hx_spell.specs.declared.patterns.Operator.{Operator as CodeOperator}
use Rattle.hx_calls.specs.Codes.{bad_argument}
use Rattle.hx_spell.specs.Declarations.{Way, file_heads, ignores_case}
use Rattle.hx_spell.specs.Flags.{Searched}
use Rattle.hx_calls.specs.Known.{Known, Reading, with_head}
use Rattle.hx_spell.specs.Patterns.{Keys, Operator, number_keys, operator_table}
use Rattle.hx_spell.specs.PatternView.{key_after}
use Rattle.hx_calls.specs.Tables.{entry_at}

-- ---- heads of files

-- these heads, and those that are read after them
abbrev pub longer_heads : List ℕ → Reading (List ℕ) → Reading (List ℕ)
longer_heads before after = record { value = before ++ after.value; known = after.known }

pub one_more_head : (way : Way) (before : List ℕ) (file : Searched) (files : List Searched)
    (known after : Known) (head : ℕ)
    → with_head (record { table = file.table; by = way.by; ci = ignores_case way file.ci }) known
    ≡ record { value = head; known = after }
    → longer_heads before (file_heads way (file ∷ files) known)
    ≡ longer_heads (before ++ head ∷ []) (file_heads way files after)
one_more_head way before file files known after head is =
    let others = file_heads way files after in
    rw is (ap (λ heads. record { value = heads; known = others.known })
    (sym (append_assoc before (head ∷ []) others.value)))

-- ---- keys of words

abbrev pub longer_keys : List (List ℕ) → Keys → Keys
longer_keys before after = record { keys = before ++ after.keys; fault = after.fault }

pub after_operator : (before : List (List ℕ)) (operator : Operator) (next : CodeOperator)
    (word : List ℕ) (words : List (List ℕ)) (found : Option CodeOperator)
    → entry_at operator_table word ≡ option_map key_after found → found ≡ Some next
    → longer_keys before (number_keys operator (word ∷ words))
    ≡ longer_keys before (number_keys (key_after next) words)
after_operator before operator next word words found entry is =
    rw (entry ∙ ap (option_map key_after) is) refl

pub one_more_key : (before : List (List ℕ)) (operator : Operator) (word key : List ℕ)
    (words : List (List ℕ)) (found : Option CodeOperator)
    → entry_at operator_table word ≡ option_map key_after found → found ≡ None
    → operator word ≡ Some key
    → longer_keys before (number_keys operator (word ∷ words))
    ≡ longer_keys (before ++ key ∷ []) (number_keys operator words)
one_more_key before operator word key words found entry none is =
    let others = number_keys operator words in
    rw (entry ∙ ap (option_map key_after) none, is)
    (ap (λ keys. record { keys = keys; fault = others.fault })
    (sym (append_assoc before (key ∷ []) others.keys)))

pub no_more_keys : (before : List (List ℕ)) (operator : Operator) (word : List ℕ)
    (words : List (List ℕ)) (found : Option CodeOperator)
    → entry_at operator_table word ≡ option_map key_after found → found ≡ None
    → operator word ≡ None
    → longer_keys before (number_keys operator (word ∷ words))
    ≡ longer_keys before (record { keys = []; fault = Some bad_argument })
no_more_keys before operator word words found entry none is =
    rw (entry ∙ ap (option_map key_after) none, is) refl

pub ruleset read_on = (one_more_head, after_operator, one_more_key, no_more_keys)
