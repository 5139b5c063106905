-- Statements and the words that spell them: a relation from a statement to its words, which knows
-- nothing of how words are read (HAProxy configuration manual 2.4, sections 4.1, 4.2, 7.1 and 7.2).
-- `before` is what the lines so far bring, and a reading has what is known after it.
use Rattle.std.specs.Prelude.{◌≡◌, ◌⊎◌, ℕ, true, false, List, [], ◌∷◌, ◌++◌, codes}
use Rattle.std.specs.List.{list_any}
use Rattle.std.specs.Str.{bytes_eq}
use Rattle.hx_ast.specs.Acls.{IsAclName}
use Rattle.hx_ast.specs.declared.Action.{Action}
use Rattle.hx_ast.specs.declared.Decl.{Decl}
use Rattle.hx_ast.specs.declared.Part.{Part}
use Rattle.hx_ast.specs.declared.Rule.{Rule}
use Rattle.hx_ast.specs.declared.Statement.{Statement}
use Rattle.hx_ast.specs.declared.Statement.TheVariants as statement
use Rattle.hx_spell.specs.AclRelation.{SpellDecl}
use Rattle.hx_spell.specs.ActionRelation.{SpellAction, SpellRedirect}
use Rattle.hx_spell.specs.ConditionRelation.{SpellWhen}
use Rattle.hx_spell.specs.Conditions.{is_name}
use Rattle.hx_calls.specs.FormatRelation.{WritesFormat}
use Rattle.hx_calls.specs.Known.{Known, Reading, reading, with_name}
use Rattle.hx_spell.specs.Lines.{When, plain_options}

-- the words that change no rule
pub data SpellPlain (before : Known) : List (List ℕ) → Type 0 where
  FrontendLine : (name : List ℕ) → before.begun ≡ false → is_name name ≡ true
      → SpellPlain before (codes "frontend" ∷ name ∷ [])
  ModeLine : SpellPlain before (codes "mode" ∷ codes "http" ∷ [])
  OptionLine : (name : List ℕ) (words : List (List ℕ))
      → list_any (bytes_eq name) plain_options ≡ true
      → SpellPlain before (codes "option" ∷ name ∷ words)
  BindLine : (words : List (List ℕ)) → SpellPlain before (codes "bind" ∷ words)
  DescriptionLine : (words : List (List ℕ)) → SpellPlain before (codes "description" ∷ words)
  LogLine : (words : List (List ℕ)) → SpellPlain before (codes "log" ∷ words)
  LogFormatLine : (words : List (List ℕ)) → SpellPlain before (codes "log-format" ∷ words)
  MaxconnLine : (words : List (List ℕ)) → SpellPlain before (codes "maxconn" ∷ words)
  TimeoutLine : (words : List (List ℕ)) → SpellPlain before (codes "timeout" ∷ words)

-- the words that declare an ACL
pub record SpellAcl (line : ℕ) (before : Known) (words : List (List ℕ)) (read : Reading Statement)
    : Type 0 where
  pub name : List ℕ
  pub text : List ℕ
  pub others : List (List ℕ)
  pub words_are : words ≡ codes "acl" ∷ name ∷ text ∷ others
  pub named : IsAclName name
  pub decl : Reading Decl
  pub spelled : SpellDecl line before text others decl
  pub is : read ≡ reading (statement.Acl line name decl.value) (with_name name decl.known)

abbrev pub rule_with : ℕ → Action → When → Rule
rule_with line action when =
    record { line = line; action = action; unless = when.unless; cond = when.cond }

-- the words of a rule: the first, those of an action, and then those of a condition or none
pub record SpellRule (line : ℕ) (before : Known) (words : List (List ℕ)) (read : Reading Statement)
    (keyword : List ℕ) (make : Rule → Statement)
    (IsActionOf : ℕ → Known → List (List ℕ) → Reading Action → Type 0) : Type 0 where
  pub action_words : List (List ℕ)
  pub others : List (List ℕ)
  pub words_are : words ≡ keyword ∷ (action_words ++ others)
  pub action : Reading Action
  pub spelled : IsActionOf line before action_words action
  pub when : Reading When
  pub with_cond : SpellWhen line action.known others when
  pub is : read ≡ reading (make (rule_with line action.value when.value)) when.known

-- the words of `use_backend`
pub record SpellBackend (line : ℕ) (before : Known) (words : List (List ℕ))
    (read : Reading Statement) : Type 0 where
  pub text : List ℕ
  pub others : List (List ℕ)
  pub words_are : words ≡ codes "use_backend" ∷ text ∷ others
  pub format : Reading (List Part)
  pub written : WritesFormat line before text format
  pub when : Reading When
  pub with_cond : SpellWhen line format.known others when
  pub is : read
      ≡ reading (statement.Backend line format.value when.value.unless when.value.cond) when.known

-- the words of `default_backend`, which stands once at most
pub record SpellFallback (line : ℕ) (before : Known) (words : List (List ℕ))
    (read : Reading Statement) : Type 0 where
  pub name : List ℕ
  pub words_are : words ≡ codes "default_backend" ∷ name ∷ []
  pub named : is_name name ≡ true
  pub first : before.fallback ≡ false
  pub is : read ≡ reading (statement.Fallback line name) (record before { fallback = true })

-- the words of a statement; a redirect is one of its own, or an action of `http-request`
abbrev pub SpellStatement : ℕ → Known → List (List ℕ) → Reading Statement → Type 0
SpellStatement line before words read =
    (SpellPlain before words × (read ≡ reading statement.Plain before))
    ⊎ SpellAcl line before words read
    ⊎ SpellRule line before words read (codes "http-request") statement.Rule SpellAction
    ⊎ SpellRule line before words read (codes "redirect") statement.Redirect SpellRedirect
    ⊎ SpellBackend line before words read ⊎ SpellFallback line before words read

-- The words of the line with this number spell this statement, after what is known before it. A
-- line without words is no statement.
abbrev pub SpellLine : ℕ → Known → List (List ℕ) → Reading Statement → Type 0
SpellLine line before [] read = read ≡ reading statement.Plain before
SpellLine line before (word ∷ words) read =
    (statement : Reading Statement) × SpellStatement line before (word ∷ words) statement
    × (read ≡ reading statement.value (record statement.known { begun = true }))
