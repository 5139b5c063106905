-- Conditions, and the words that spell them (HAProxy configuration manual 2.4, section 7.2).
use Rattle.std.specs.Prelude.{◌≡◌, ◌⊎◌, ℕ, ◌+◌, ◌<◌, Bool, true, false, List, [], ◌∷◌, ◌++◌, map, codes, replicate, sum, None, Some, if◌then◌else◌}
use Rattle.std.specs.List.{All, list_any}
use Rattle.std.specs.Str.{bytes_eq}
use Rattle.hx_base.specs.Bytes.{ascii}
use Rattle.hx_ast.specs.Acls.{IsAclName}
use Rattle.hx_ast.specs.declared.AclUse.{AclUse}
use Rattle.hx_ast.specs.declared.AclUse.TheVariants.{Named, Own}
use Rattle.hx_ast.specs.declared.Decl.{Decl}
use Rattle.hx_ast.specs.declared.Term.{Term}
use Rattle.hx_spell.specs.AclRelation.{SpellDecl}
use Rattle.hx_spell.specs.Conditions.{is_odd}
use Rattle.hx_calls.specs.Known.{Known, Reading, is_known_acl, reading}
use Rattle.hx_spell.specs.Lines.{When}

-- ---- terms

-- so many `!`
abbrev pub marks : ℕ → List ℕ
marks n = replicate n (ascii "!")

-- a known ACL's name, or an ACL in braces, of which no word is a brace that closes
pub data SpellUse (line : ℕ) (before : Known)
    : List ℕ → List (List ℕ) → Reading AclUse → Type 0 where
  NamedUse : (name : List ℕ) → IsAclName name → is_known_acl before name ≡ true
      → SpellUse line before name [] (reading (Named name) before)
  OwnUse : (text : List ℕ) (inside : List (List ℕ)) (decl : Reading Decl)
      → list_any (bytes_eq (codes "}")) (text ∷ inside) ≡ false
      → SpellDecl line before text inside decl
      → SpellUse line before (codes "{") ((text ∷ inside) ++ codes "}" ∷ [])
      (reading (Own decl.value) decl.known)

-- An ACL after any number of marks: of words before it, each has one mark at least, and its own
-- first word may begin with marks.
pub record SpellTerm (line : ℕ) (before : Known) (words : List (List ℕ)) (read : Reading Term)
    : Type 0 where
  pub counts : List ℕ
  pub each : All (λ n. 0 < n) counts
  pub last : ℕ
  pub first : List ℕ
  pub others : List (List ℕ)
  pub words_are : words ≡ map marks counts ++ (marks last ++ first) ∷ others
  pub acl : Reading AclUse
  pub spelled : SpellUse line before first others acl
  pub is : read
      ≡ reading (record { negated = is_odd (sum counts + last); acl = acl.value }) acl.known

-- ---- conditions

-- one term or more, one after the other
pub data SpellConj (line : ℕ) : Known → List (List ℕ) → Reading (List Term) → Type 0 where
  LastTerm : (before : Known) (words : List (List ℕ)) (read : Reading Term)
      → SpellTerm line before words read
      → SpellConj line before words (reading (read.value ∷ []) read.known)
  NextTerm : (before : Known) (words rest : List (List ℕ)) (read : Reading Term)
      (others : Reading (List Term))
      → SpellTerm line before words read → SpellConj line read.known rest others
      → SpellConj line before (words ++ rest) (reading (read.value ∷ others.value) others.known)

-- what stands between conjunctions
abbrev pub IsOr : List ℕ → Type 0
IsOr word = (word ≡ codes "or") ⊎ (word ≡ codes "||")

-- one conjunction or more, with `or` or `||` between them
pub data SpellCond (line : ℕ) : Known → List (List ℕ) → Reading (List (List Term)) → Type 0 where
  LastConj : (before : Known) (words : List (List ℕ)) (read : Reading (List Term))
      → SpellConj line before words read
      → SpellCond line before words (reading (read.value ∷ []) read.known)
  NextConj : (before : Known) (words rest : List (List ℕ)) (between : List ℕ)
      (read : Reading (List Term)) (others : Reading (List (List Term)))
      → SpellConj line before words read → IsOr between → SpellCond line read.known rest others
      → SpellCond line before (words ++ (between ∷ rest))
      (reading (read.value ∷ others.value) others.known)

-- ---- when a rule is taken

-- the last words of a rule: none, or a condition
pub data SpellWhen (line : ℕ) (before : Known) : List (List ℕ) → Reading When → Type 0 where
  Always : SpellWhen line before [] (reading (record { unless = false; cond = None }) before)
  Conditionally : (unless : Bool) (words : List (List ℕ)) (cond : Reading (List (List Term)))
      → SpellCond line before words cond
      → SpellWhen line before ((if unless then codes "unless" else codes "if") ∷ words)
      (reading (record { unless = unless; cond = Some cond.value }) cond.known)
