-- Which parts an ACL and a condition may have (HAProxy configuration manual 2.4, sections 7.1 and
-- 7.2).
use Rattle.std.specs.Prelude.{◌≡◌, ◌≢◌, ℕ, ◌<◌, ◌&&◌, ◌||◌, ◌==◌, nat_le, Bool, true, false, List, [], length, codes}
use Rattle.std.specs.List.{All, AllPass, list_all}
use Rattle.std.specs.Char.{is_ascii_alphanumeric}
use Rattle.hx_base.specs.Bytes.{ascii}
use Rattle.hx_text.specs.declared.kinds.By.{By}
use Rattle.hx_text.specs.declared.kinds.By.TheVariants as method
use Rattle.hx_text.specs.Methods.{method_number}
use Rattle.hx_ast.specs.declared.statement.AclUse.{AclUse}
use Rattle.hx_ast.specs.declared.statement.AclUse.TheVariants.{Named, Own}
use Rattle.hx_ast.specs.declared.statement.Decl.{Decl}
use Rattle.hx_ast.specs.declared.statement.Term.{Term}
use Rattle.hx_ast.specs.Convs.{IsExpr}

-- the bytes of the names of ACLs, frontends and backends: letters and digits of ASCII, `-`, `_`,
-- `.` and `:`
abbrev pub is_name_byte : ℕ → Bool
is_name_byte b =
    is_ascii_alphanumeric b || b == ascii "-" || b == ascii "_" || b == ascii "." || b == ascii ":"

-- a name of an ACL, which isn't `or`: that stands between conjunctions
pub record IsAclName (name : List ℕ) : Type 0 where
  pub some : 0 < length name
  pub bytes : AllPass is_name_byte name
  pub other : name ≢ codes "or"

-- the match methods that compare texts and can ignore the case of their letters: those from `str`
-- to `reg`
abbrev pub compares_texts : By → Bool
compares_texts by =
    nat_le (method_number method.Str) (method_number by)
    && nat_le (method_number by) (method_number method.Reg)

-- the match methods that take patterns: those up to `reg`
abbrev pub takes_patterns : By → Bool
takes_patterns by = nat_le (method_number by) (method_number method.Reg)

-- the expression is one, and the method can do what is asked of it
pub record IsDecl (decl : Decl) : Type 0 where
  pub expr : IsExpr decl.expr
  pub case : decl.ci ≡ true → compares_texts decl.by ≡ true
  pub heads : takes_patterns decl.by ≡ false → decl.heads ≡ []
  pub words : takes_patterns decl.by ≡ false → decl.words ≡ []

abbrev pub IsAclUse : AclUse → Type 0
IsAclUse (Named name) = IsAclName name
IsAclUse (Own decl) = IsDecl decl

-- each term of a condition names an ACL or has one of its own
abbrev pub IsCond : List (List Term) → Type 0
IsCond cond = All (All (λ term. IsAclUse term.acl)) cond

-- whether an ACL passes a test where it stands in a condition itself; one that has a name is tested
-- where it is declared
abbrev pub use_passes : (Decl → Bool) → AclUse → Bool
use_passes test (Named name) = true
use_passes test (Own decl) = test decl

-- the same of all ACLs that stand in a condition itself
abbrev pub cond_passes : (Decl → Bool) → List (List Term) → Bool
cond_passes test cond = list_all (list_all (λ term. use_passes test term.acl)) cond
