-- Heads that were looked for one by one are those of tests and conditions.
use Rattle.std.proofs.Common.{◌≡◌, ℕ, List, [], ◌∷◌, ◌++◌}
use Rattle.std.specs.List.{All}
use Rattle.std.proofs.lemmas.List.Elements.{All-cons, All-nil, All-push}
use Rattle.hx_text.specs.declared.kinds.By.{By}
use Rattle.hx_ast.specs.declared.statement.Decl.{Decl}
use Rattle.hx_ast.specs.declared.statement.Term.{Term}
use Rattle.hx_sample.specs.Tables.{TableHead}
use Rattle.hx_expr.specs.Values.{HasTableHeads, IsHeadBy}
use Rattle.hx_acl.specs.Holds.{HasAclHeads, HasAclsHeads, HasCondHeads}
use Rattle.hx_acl.specs.Tests.{HasTestHeads}
use Rattle.hx_cases_acls.specs.Uses.{AreHeadsBy, HasConjHeads, HaveConjHeads}

all_heads : (heads : List TableHead) (method : By) (positions : List ℕ) → AreHeadsBy heads method positions
    → All (λ position. IsHeadBy heads position method) positions
all_heads heads method [] are = All-nil (λ position. IsHeadBy heads position method)
all_heads heads method (position ∷ positions) are =
    All-cons (λ place. IsHeadBy heads place method) position positions are.0
    (all_heads heads method positions are.1)

pub decl_has_heads : (heads : List TableHead) (decl : Decl) → HasTableHeads heads decl.expr.convs
    → AreHeadsBy heads decl.by decl.heads → HasTestHeads heads decl
decl_has_heads heads decl maps are = record { maps = maps; patterns = all_heads heads decl.by decl.heads are }

abbrev HasBuiltHeads : List TableHead → Term → Type 0
HasBuiltHeads heads term = HasAclHeads heads term.acl

all_terms : (heads : List TableHead) (conj : List Term) → HasConjHeads heads conj
    → All (HasBuiltHeads heads) conj
all_terms heads [] has = All-nil (HasBuiltHeads heads)
all_terms heads (term ∷ terms) has =
    All-cons (HasBuiltHeads heads) term terms has.0 (all_terms heads terms has.1)

pub cond_has_heads : (heads : List TableHead) (cond : List (List Term)) → HaveConjHeads heads cond
    → HasCondHeads heads cond
cond_has_heads heads [] have = All-nil (All (HasBuiltHeads heads))
cond_has_heads heads (conj ∷ conjs) have =
    All-cons (All (HasBuiltHeads heads)) conj conjs
    (all_terms heads conj have.0) (cond_has_heads heads conjs have.1)

-- one more declaration
pub acls_have_heads : (heads : List TableHead) (old new : List (List ℕ × Decl)) (name : List ℕ) (test : Decl)
    → new ≡ old ++ (name, test) ∷ [] → HasAclsHeads heads old → HasTestHeads heads test
    → HasAclsHeads heads new
acls_have_heads heads old new name test is have more =
    rw is (All-push (λ declared. HasTestHeads heads declared.1) old (name, test) have more)
