-- The rules of a frontend, as they are evaluated (HAProxy configuration manual 2.4, sections 4.2
-- and 7.1).
use Rattle.std.specs.Prelude.{ℕ, ◌+◌, Bool, List, [], length, Option, None}
use Rattle.hx_ast.specs.declared.action.Part.{Part}
use Rattle.hx_ast.specs.declared.statement.Decl.{Decl}
use Rattle.hx_ast.specs.declared.statement.Rule.{Rule}
use Rattle.hx_ast.specs.declared.statement.Term.{Term}

-- a rule of `use_backend`: the number of its line, what makes the name of the backend, whether the
-- rule is taken where its condition doesn't hold, and when it is taken, which is always without a
-- condition
pub record BackendRule : Type 0 where
  pub line : ℕ
  pub format : List Part
  pub unless : Bool
  pub cond : Option (List (List Term))

-- What is evaluated: the declarations of ACLs, each with its name; the rules of `http-request`, the
-- redirects and the rules of `use_backend`, each in their order; and the backend where no other is
-- taken, with the number of the line that names it, which is 0 where none does.
pub record Rules : Type 0 where
  pub acls : List (List ℕ × Decl)
  pub rules : List Rule
  pub redirects : List Rule
  pub backends : List BackendRule
  pub fallback : Option (List ℕ)
  pub fallback_line : ℕ

-- no rules
abbrev pub no_rules : Rules
no_rules = record {
  acls = [];
  rules = [];
  redirects = [];
  backends = [];
  fallback = None;
  fallback_line = 0;
}

-- how many rules there are of `http-request`, `redirect` and `use_backend`
abbrev pub rule_count : Rules → ℕ
rule_count program =
    length program.rules + length program.redirects + length program.backends
