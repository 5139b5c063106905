-- Which parts formats and actions may have (HAProxy configuration manual 2.4, sections 4.2 and
-- 8.2.4).
use Rattle.std.specs.Prelude.{ℕ, ◌≤◌, ◌||◌, ◌==◌, Bool, List, IfSome, IsTrue, ⊤}
use Rattle.std.specs.List.{All}
use Rattle.httparse.specs.Grammar.{IsToken}
use Rattle.hx_ast.specs.declared.action.Action.{Action}
use Rattle.hx_ast.specs.declared.action.Action.TheVariants as action
use Rattle.hx_ast.specs.declared.action.Part.{Part}
use Rattle.hx_ast.specs.declared.action.Part.TheVariants.{Text, Value}
use Rattle.hx_ast.specs.Convs.{IsExpr}
use Rattle.hx_ast.specs.Names.{IsVariable}

abbrev pub IsPart : Part → Type 0
IsPart (Text bytes) = ⊤
IsPart (Value expr) = IsExpr expr

-- each value of a format is that of an expression
abbrev pub IsFormat : List Part → Type 0
IsFormat format = All IsPart format

-- a status with which a request can be denied (RFC 9110, section 15)
pub record IsStatus (status : ℕ) : Type 0 where
  pub least : 200 ≤ status
  pub most : status ≤ 599

-- the statuses of a redirect (RFC 9110, section 15.4)
abbrev pub is_redirect_status : ℕ → Bool
is_redirect_status n = n == 301 || n == 302 || n == 303 || n == 307 || n == 308

-- the name of a header, which is a token (RFC 9110, section 5.1), and a format
pub record IsHeaderFormat (header : List ℕ) (value : List Part) : Type 0 where
  pub name : IsToken header
  pub format : IsFormat value

-- The arguments of the action are such as its row of the table allows. Whether the second of
-- `replace-header` and `replace-value` is a regular expression isn't said here: it shows when the
-- expression is made.
abbrev pub IsAction : Action → Type 0
IsAction action.Allow = ⊤
IsAction (action.Deny status) = IfSome status IsStatus
IsAction (action.SetHeader name format) = IsHeaderFormat name format
IsAction (action.AddHeader name format) = IsHeaderFormat name format
IsAction (action.DelHeader name) = IsToken name
IsAction (action.ReplaceHeader name expression format) = IsHeaderFormat name format
IsAction (action.ReplaceValue name expression format) = IsHeaderFormat name format
IsAction (action.SetMethod format) = IsFormat format
IsAction (action.SetUri format) = IsFormat format
IsAction (action.SetPath format) = IsFormat format
IsAction (action.SetQuery format) = IsFormat format
IsAction (action.SetVar name expr) = IsVariable name × IsExpr expr
IsAction (action.UnsetVar name) = IsVariable name
IsAction (action.AddAcl table format) = IsFormat format
IsAction (action.DelAcl table format) = IsFormat format
IsAction (action.DelMap table format) = IsFormat format
IsAction (action.SetMap table key value) = IsFormat key × IsFormat value
IsAction (action.Redirect kind format status drop_query) =
    IsFormat format × IfSome status (λ n. IsTrue (is_redirect_status n))
IsAction (action.StrictMode on) = ⊤
