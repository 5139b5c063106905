-- How the code keeps the declarations of ACLs: each with the position of the declaration of its
-- name before it, and of each name the position of the last one.
use Rattle.std.specs.Prelude.{◌≡◌, ℕ, suc, false, List, map, drop, take, Option, None, Some, slice_get}
use Rattle.std.specs.BTreeMap.{is_at}
use Rattle.std.specs.Cmp.Lexicographic.{slice_cmp}
use Rattle.std.specs.Map.{lookup}
use Rattle.std.specs.Ordering.{nat_cmp}
use Rattle.hx_ast.specs.declared.statement.Decl.{Decl}
use Rattle.hx_acl.specs.declared.acl_set.Declared.{Declared}
use Rattle.hx_acl.specs.Holds.{Acls, is_declared}

-- a declaration, and all of them, as contracts see them
abbrev pub declaration : Declared → List ℕ × Decl
declaration declared = (declared.name, declared.test)

abbrev pub declarations : List Declared → Acls
declarations tests = map declaration tests

-- at this position the ACL of this name is declared for the last time
pub record IsLastAt (acls : Acls) (name : List ℕ) (position : ℕ) : Type 0 where
  pub decl : Decl
  pub at : slice_get acls position ≡ Some (name, decl)
  pub last : is_declared (drop (suc position) acls) name ≡ false

-- this is the position of the last declaration of the ACL of this name, or none where there is none
abbrev pub IsLast : Acls → List ℕ → Option ℕ → Type 0
IsLast acls name None = is_declared acls name ≡ false
IsLast acls name (Some position) = IsLastAt acls name position

-- the position that is kept under a name
abbrev pub position_of : List (List ℕ × ℕ) → List ℕ → Option ℕ
position_of positions name = lookup (is_at (slice_cmp nat_cmp name)) positions

-- Each declaration has the position of the last one of its name before it, and under each name the
-- position of the last one of all is kept.
pub record AreIndexed (tests : List Declared) (positions : List (List ℕ × ℕ)) : Type 0 where
  pub before : (k : ℕ) (declared : Declared) → slice_get tests k ≡ Some declared
      → IsLast (declarations (take k tests)) declared.name declared.earlier
  pub latest : (name : List ℕ) → IsLast (declarations tests) name (position_of positions name)
