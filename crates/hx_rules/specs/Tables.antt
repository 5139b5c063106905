-- Which heads and lists a program names.
use Rattle.std.specs.Prelude.{ℕ, ◌<◌, List, Option, IfSome, ⊤}
use Rattle.std.specs.List.{All}
use Rattle.hx_acl.specs.Holds.{HasAclsHeads, HasCondHeads}
use Rattle.hx_ast.specs.declared.action.Action.{Action}
use Rattle.hx_ast.specs.declared.action.Action.TheVariants as action
use Rattle.hx_ast.specs.declared.action.Part.{Part}
use Rattle.hx_ast.specs.declared.action.Part.TheVariants.{Text, Value}
use Rattle.hx_ast.specs.declared.statement.Rule.{Rule}
use Rattle.hx_ast.specs.declared.statement.Term.{Term}
use Rattle.hx_expr.specs.Values.{HasTableHeads}
use Rattle.hx_sample.specs.Tables.{TableHead}
use Rattle.hx_rules.specs.Programs.{BackendRule, Rules}

-- ---- heads

abbrev pub HasPartHeads : List TableHead → Part → Type 0
HasPartHeads heads (Text bytes) = ⊤
HasPartHeads heads (Value expr) = HasTableHeads heads expr.convs

-- the heads that the expressions of a format name are among these, with the methods named there
abbrev pub HasFormatHeads : List TableHead → List Part → Type 0
HasFormatHeads heads format = All (HasPartHeads heads) format

abbrev pub HasActionHeads : List TableHead → Action → Type 0
HasActionHeads heads (action.SetHeader name format) = HasFormatHeads heads format
HasActionHeads heads (action.AddHeader name format) = HasFormatHeads heads format
HasActionHeads heads (action.ReplaceHeader name pattern format) = HasFormatHeads heads format
HasActionHeads heads (action.ReplaceValue name pattern format) = HasFormatHeads heads format
HasActionHeads heads (action.SetMethod format) = HasFormatHeads heads format
HasActionHeads heads (action.SetUri format) = HasFormatHeads heads format
HasActionHeads heads (action.SetPath format) = HasFormatHeads heads format
HasActionHeads heads (action.SetQuery format) = HasFormatHeads heads format
HasActionHeads heads (action.SetVar name expr) = HasTableHeads heads expr.convs
HasActionHeads heads (action.AddAcl table key) = HasFormatHeads heads key
HasActionHeads heads (action.DelAcl table key) = HasFormatHeads heads key
HasActionHeads heads (action.DelMap table key) = HasFormatHeads heads key
HasActionHeads heads (action.SetMap table key value) =
    HasFormatHeads heads key × HasFormatHeads heads value
HasActionHeads heads (action.Redirect kind format status drop_query) = HasFormatHeads heads format
HasActionHeads heads _ = ⊤

abbrev pub HasWhenHeads : List TableHead → Option (List (List Term)) → Type 0
HasWhenHeads heads cond = IfSome cond (HasCondHeads heads)

pub record HasRuleHeads (heads : List TableHead) (rule : Rule) : Type 0 where
  pub action : HasActionHeads heads rule.action
  pub cond : HasWhenHeads heads rule.cond

pub record HasBackendHeads (heads : List TableHead) (rule : BackendRule) : Type 0 where
  pub format : HasFormatHeads heads rule.format
  pub cond : HasWhenHeads heads rule.cond

-- the heads that a program names are among these, with the methods that are named there
pub record HasHeads (heads : List TableHead) (program : Rules) : Type 0 where
  pub acls : HasAclsHeads heads program.acls
  pub rules : All (HasRuleHeads heads) program.rules
  pub redirects : All (HasRuleHeads heads) program.redirects
  pub backends : All (HasBackendHeads heads) program.backends

-- ---- lists

-- an action changes one of so many lists, if it changes one
abbrev pub ChangesOneOf : ℕ → Action → Type 0
ChangesOneOf count (action.AddAcl table key) = table < count
ChangesOneOf count (action.DelAcl table key) = table < count
ChangesOneOf count (action.DelMap table key) = table < count
ChangesOneOf count (action.SetMap table key value) = table < count
ChangesOneOf count _ = ⊤

-- the rules of a program change none but so many lists
abbrev pub HasLists : ℕ → Rules → Type 0
HasLists count program = All (λ rule. ChangesOneOf count rule.action) program.rules
