-- The topics of lint: where HAProxy is known to answer otherwise. Each is a row of TOPICS, with the
-- name under which docs/manual/haproxy.md has it, and `shows` says of a statement whether it has it.
use Rattle.std.specs.Prelude.{ℕ, ◌==◌, ◌&&◌, ◌||◌, Bool, true, false, not, List, [], ◌∷◌, length, codes}
use Rattle.std.specs.List.{list_any}
use Rattle.std.specs.Option.{option_map_or}
use Rattle.std.specs.Str.{bytes_eq}
use Rattle.hx_base.specs.Bytes.{ascii}
use Rattle.hx_ast.specs.declared.action.Action.{Action}
use Rattle.hx_ast.specs.declared.action.Part.{Part}
use Rattle.hx_ast.specs.declared.action.Part.TheVariants.{Text, Value}
use Rattle.hx_ast.specs.declared.conv.Conv.{Conv}
use Rattle.hx_ast.specs.declared.statement.Statement.{Statement}
use Rattle.hx_ast.specs.declared.statement.Statement.TheVariants as statement
use Rattle.hx_ast.specs.Statements.{is_map}
use Rattle.hx_calls.specs.declared.table_specs.HeadSpec.{HeadSpec}
use Rattle.hx_lint.specs.ActionTopics.{action_format, action_has, sets_method}
use Rattle.hx_lint.specs.CriterionTopics.{is_negative_text, line_words_have}
use Rattle.hx_lint.specs.Features.{AclShows, AsksMethod, ExprShows, NamesLocalhost, NamesMethod, SharesCache, statement_passes}
use Rattle.hx_lint.specs.declared.acl_topics.AclTopic.TheVariants as acl
use Rattle.hx_lint.specs.declared.action_topics.ActionTopic.{ActionTopic}
use Rattle.hx_lint.specs.declared.action_topics.ActionTopic.TheVariants as deed
use Rattle.hx_lint.specs.declared.criterion_topics.CriterionTopic.TheVariants as criterion
use Rattle.hx_lint.specs.declared.expr_topics.ExprTopic.TheVariants as expr
use Rattle.hx_lint.specs.declared.judging.JudgedLine.{JudgedLine}
use Rattle.hx_lint.specs.declared.judging.Judgement.{Judgement}
use Rattle.hx_lint.specs.declared.judging.Judgement.TheVariants.{Taken, Refused}
use Rattle.hx_lint.specs.declared.topics.Context.{Context as CodeContext}
use Rattle.hx_lint.specs.declared.topics.Topic.{Topic}
use Rattle.hx_lint.specs.declared.topics.Topic.TheVariants as topic

-- ---- actions

abbrev pub statement_acts : ActionTopic → Statement → Bool
statement_acts t (statement.Rule rule) = action_has t rule.action
statement_acts t (statement.Redirect rule) = action_has t rule.action
statement_acts t _ = false

-- a part of a format is filled in, or is written with `%%`
abbrev pub is_filled : Part → Bool
is_filled (Text bytes) = list_any (λ b. b == ascii "%") bytes
is_filled (Value expr) = true

-- the statement `redirect` has a format that is filled in
abbrev pub fills_redirect : Statement → Bool
fills_redirect (statement.Redirect rule) =
    option_map_or (list_any is_filled) (action_format rule.action) false
fills_redirect _ = false

-- the last of several converters is a map
abbrev pub ends_in_map : List Conv → Bool
ends_in_map [] = false
ends_in_map (c ∷ cs) = is_map c && length cs == 0 || ends_in_map cs

abbrev pub is_computed : Part → Bool
is_computed (Text bytes) = false
is_computed (Value expr) = not (ends_in_map expr.convs)

-- the name of a backend is made from a request, and by no map, which has names that are known
abbrev pub computes_backend : Statement → Bool
computes_backend (statement.Backend line format unless cond) = list_any is_computed format
computes_backend _ = false

-- ---- the method

abbrev pub statement_sets_method : Statement → Bool
statement_sets_method (statement.Rule rule) = sets_method rule.action
statement_sets_method _ = false

abbrev pub judgement_sets_method : Judgement → Bool
judgement_sets_method (Taken words st) = statement_sets_method st
judgement_sets_method (Refused code word) = false

-- a line changes the method
abbrev pub line_sets_method : JudgedLine → Bool
line_sets_method line = judgement_sets_method line.judgement

-- The method may have been changed when the statement is judged: by a rule above it, or, since
-- `redirect` and `use_backend` are judged after all rules, by any.
abbrev pub is_after_change : (above anywhere : Bool) → Statement → Bool
is_after_change above anywhere (statement.Rule rule) = above
is_after_change above anywhere (statement.Redirect rule) = anywhere
is_after_change above anywhere (statement.Backend line format unless cond) = anywhere
is_after_change above anywhere _ = false

-- ---- all

-- What a statement is judged among: all lines; how references are searched; and whether a line
-- changes the method, above the statement or anywhere.
pub record Context : Type 0 where
  pub lines : List JudgedLine
  pub heads : List HeadSpec
  pub above : Bool
  pub anywhere : Bool

abbrev pub context_view : CodeContext → Context
context_view code = record {
  lines = code.lines.now;
  heads = code.heads.now;
  above = code.above;
  anywhere = code.anywhere;
}

-- the statement with these words shows a topic, among these lines
abbrev pub shows : Topic → Context → List (List ℕ) → Statement → Bool
shows topic.TextAsNumber context words st =
    statement_passes (ExprShows expr.TextAsNumber) st
    || statement_passes (AclShows acl.TextAsNumber) st
shows topic.ComputedBackend context words st = computes_backend st
shows topic.BelowZero context words st =
    statement_passes (AclShows acl.BelowZero) st && list_any is_negative_text words
shows topic.RedirectFormat context words st = fills_redirect st
shows topic.ChangedMethod context words st =
    is_after_change context.above context.anywhere st
    && statement_passes (AsksMethod context.lines) st
shows topic.MethodCase context words st =
    line_words_have criterion.MethodCase words
    || statement_passes (NamesMethod context.lines) st
shows topic.TwoMethods context words st = statement_passes (SharesCache context.heads) st
shows topic.AfterAddress context words st =
    statement_passes (ExprShows expr.AfterAddress) st
    || statement_passes (AclShows acl.AfterAddress) st
shows topic.NoErrorPage context words st =
    statement_acts deed.NoErrorPage st
    && list_any (λ word. bytes_eq word (codes "deny_status")) words
shows topic.Localhost context words st = statement_passes (NamesLocalhost context.lines) st
shows (topic.Expr t) context words st = statement_passes (ExprShows t) st
shows (topic.Acl t) context words st = statement_passes (AclShows t) st
shows (topic.Action t) context words st = statement_acts t st
shows (topic.Criterion t) context words st = line_words_have t words
