-- What is known of references that are being built, and of what is looked up in them.
use Rattle.std.specs.Prelude.{◌<◌, ℕ, List, [], ◌∷◌, length, ⊤}
use Rattle.std.specs.List.{All}
use Rattle.hx_text.specs.declared.kinds.By.{By}
use Rattle.hx_ast.specs.declared.statement.Term.{Term}
use Rattle.hx_sample.specs.Tables.{TableHead}
use Rattle.hx_expr.specs.Values.{IsHeadBy}
use Rattle.hx_refs.specs.References.{AreEmpty, References}
use Rattle.hx_acl.specs.Holds.{HasAclHeads}

-- nothing was added to the references, and their numbers are below the next position
pub record HaveHadNone (refs : References) : Type 0 where
  pub numbers : All (λ reference. reference.id < length refs.references) refs.references
  pub empty : All (λ reference. AreEmpty reference.versions) refs.references

-- these are heads, with this method
abbrev pub AreHeadsBy : List TableHead → By → List ℕ → Type 0
AreHeadsBy heads method [] = ⊤
AreHeadsBy heads method (position ∷ positions) =
    IsHeadBy heads position method × AreHeadsBy heads method positions

-- what the ACLs of terms look values up by is among these heads
abbrev pub HasConjHeads : List TableHead → List Term → Type 0
HasConjHeads heads [] = ⊤
HasConjHeads heads (term ∷ terms) =
    HasAclHeads heads term.acl × HasConjHeads heads terms

-- the same of the terms of conjunctions
abbrev pub HaveConjHeads : List TableHead → List (List Term) → Type 0
HaveConjHeads heads [] = ⊤
HaveConjHeads heads (conj ∷ conjs) = HasConjHeads heads conj × HaveConjHeads heads conjs
