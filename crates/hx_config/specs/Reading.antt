-- How what is written is read: the calls that a format of a replacement has.
use Rattle.std.specs.Prelude.{◌≡◌, ℕ, List, [], ◌∷◌, ◌++◌, codes, Some}
use Rattle.hx_base.specs.Bytes.{ascii}
use Rattle.hx_words.specs.CallForm.{CallForm}
use Rattle.hx_words.specs.Spelling.{SpellsCalls}
use Rattle.hx_config.specs.Replacing.{whole_expression}

-- a call of this fetch, and one of `regsub` with the expression over the whole and the replacement
abbrev pub replacement_calls : (fetch expression replacement : List ℕ) → List CallForm
replacement_calls fetch expression replacement =
    let first : CallForm = record { name = fetch; args = [] } in
    let second : CallForm = record {
      name = codes "regsub";
      args = whole_expression expression ∷ replacement ∷ [];
    } in first ∷ second ∷ []

-- the format is `%[`, and then what these calls spell, up to `]`
pub record SpellsReplacement (fetch expression replacement format : List ℕ) : Type 0 where
  pub text : List ℕ
  pub is : format ≡ codes "%[" ++ text
  pub calls : SpellsCalls (Some (ascii "]")) (replacement_calls fetch expression replacement) text
