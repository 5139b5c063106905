-- When a condition holds (HAProxy configuration manual 2.4, section 7.2).
use Rattle.std.specs.Prelude.{ℕ, Bool, not, ◌&&◌, List, if◌then◌else◌, ⊤}
use Rattle.std.specs.List.{All, list_all, list_any}
use Rattle.std.specs.Str.{bytes_eq}
use Rattle.hx_ast.specs.declared.statement.AclUse.{AclUse}
use Rattle.hx_ast.specs.declared.statement.AclUse.TheVariants.{Named, Own}
use Rattle.hx_ast.specs.declared.statement.Decl.{Decl}
use Rattle.hx_ast.specs.declared.statement.Term.{Term}
use Rattle.hx_fetch.specs.World.{Context}
use Rattle.hx_sample.specs.Find.{Entry}
use Rattle.hx_sample.specs.Tables.{TableHead}
use Rattle.hx_acl.specs.Matching.{test_matches}
use Rattle.hx_acl.specs.Predefined.{predefined_matches}
use Rattle.hx_acl.specs.Tests.{HasTestHeads}

-- ---- names

-- the declarations of ACLs, each with the name; an ACL may have several
abbrev pub Acls : Type 0
Acls = List (List ℕ × Decl)

-- whether the ACL of this name is declared
abbrev pub is_declared : Acls → List ℕ → Bool
is_declared acls name = list_any (λ declared. bytes_eq declared.0 name) acls

-- whether one of the declarations of the ACL of this name matches
abbrev pub declared_matches : Context → List TableHead → List (List Entry) → Acls → List ℕ → Bool
declared_matches context heads lists acls name =
    list_any
    (λ declared. bytes_eq declared.0 name && test_matches context heads lists declared.1) acls

-- Whether the ACL of this name holds: one of its declarations matches. A name that isn't declared
-- is that of a predefined ACL.
abbrev pub name_holds : Context → List TableHead → List (List Entry) → Acls → List ℕ → Bool
name_holds context heads lists acls name =
    if is_declared acls name then declared_matches context heads lists acls name
    else predefined_matches context name

-- the heads of all declarations are among these
abbrev pub HasAclsHeads : List TableHead → Acls → Type 0
HasAclsHeads heads acls = All (λ declared. HasTestHeads heads declared.1) acls

-- ---- conditions

-- the heads of the ACLs that stand in a condition itself are among these
abbrev pub HasAclHeads : List TableHead → AclUse → Type 0
HasAclHeads heads (Named name) = ⊤
HasAclHeads heads (Own decl) = HasTestHeads heads decl

abbrev pub HasCondHeads : List TableHead → List (List Term) → Type 0
HasCondHeads heads cond = All (All (λ term. HasAclHeads heads term.acl)) cond

abbrev pub acl_holds : Context → List TableHead → List (List Entry) → Acls → AclUse → Bool
acl_holds context heads lists acls (Named name) = name_holds context heads lists acls name
acl_holds context heads lists acls (Own decl) = test_matches context heads lists decl

-- a term holds where its ACL does, and one that is negated where its ACL doesn't
abbrev pub term_holds : Context → List TableHead → List (List Entry) → Acls → Term → Bool
term_holds context heads lists acls term =
    if term.negated then not (acl_holds context heads lists acls term.acl)
    else acl_holds context heads lists acls term.acl

-- a condition holds where all terms of one of its conjunctions hold
abbrev pub cond_holds
    : Context → List TableHead → List (List Entry) → Acls → List (List Term) → Bool
cond_holds context heads lists acls cond =
    list_any (list_all (term_holds context heads lists acls)) cond
