-- What expressions and ACLs of a statement may have, in the light of all lines.
use Rattle.std.specs.Prelude.{ℕ, ◌==◌, ◌&&◌, ◌||◌, Bool, true, false, not, List, codes, eqb, slice_get}
use Rattle.std.specs.List.{list_any, starts_with}
use Rattle.std.specs.Option.{option_map_or}
use Rattle.std.specs.Str.{bytes_eq}
use Rattle.hx_text.specs.Methods.{method_number}
use Rattle.hx_text.specs.declared.kinds.By.{By}
use Rattle.hx_text.specs.declared.kinds.By.TheVariants as method
use Rattle.hx_ast.specs.declared.conv.Conv.{Conv}
use Rattle.hx_ast.specs.declared.conv.Conv.TheVariants as conv
use Rattle.hx_ast.specs.declared.expr.Expr.{Expr}
use Rattle.hx_ast.specs.declared.statement.AclUse.{AclUse}
use Rattle.hx_ast.specs.declared.statement.AclUse.TheVariants.{Named, Own}
use Rattle.hx_ast.specs.declared.statement.Decl.{Decl}
use Rattle.hx_ast.specs.declared.statement.Statement.{Statement}
use Rattle.hx_ast.specs.declared.statement.Statement.TheVariants as statement
use Rattle.hx_calls.specs.declared.table_specs.HeadSpec.{HeadSpec}
use Rattle.hx_lint.specs.AclTopics.{acl_has}
use Rattle.hx_lint.specs.ExprTopics.{expr_has, is_method}
use Rattle.hx_lint.specs.Walks.{filled_passes, use_passes}
use Rattle.hx_lint.specs.declared.judging.JudgedLine.{JudgedLine}
use Rattle.hx_lint.specs.declared.judging.Judgement.{Judgement}
use Rattle.hx_lint.specs.declared.judging.Judgement.TheVariants.{Taken, Refused}
use Rattle.hx_lint.specs.declared.acl_topics.AclTopic.{AclTopic}
use Rattle.hx_lint.specs.declared.expr_topics.ExprTopic.{ExprTopic}
use Rattle.hx_lint.specs.declared.features.Feature.{Feature as CodeFeature}
use Rattle.hx_lint.specs.declared.features.Feature.TheVariants as code

-- ---- names of ACLs

abbrev pub statement_declares : List ℕ → Statement → Bool
statement_declares name (statement.Acl line other decl) = bytes_eq other name
statement_declares name _ = false

abbrev pub judgement_declares : List ℕ → Judgement → Bool
judgement_declares name (Taken words st) = statement_declares name st
judgement_declares name (Refused code word) = false

-- a line declares an ACL of this name
abbrev pub declares : List ℕ → JudgedLine → Bool
declares name line = judgement_declares name line.judgement

abbrev pub statement_declares_method : List ℕ → Statement → Bool
statement_declares_method name (statement.Acl line other decl) =
    bytes_eq other name && is_method decl.expr.fetch
statement_declares_method name _ = false

abbrev pub judgement_declares_method : List ℕ → Judgement → Bool
judgement_declares_method name (Taken words st) = statement_declares_method name st
judgement_declares_method name (Refused code word) = false

-- the same of an ACL that asks for the method
abbrev pub declares_method : List ℕ → JudgedLine → Bool
declares_method name line = judgement_declares_method name line.judgement

-- the name begins as those of the predefined ACLs that ask for the method
abbrev pub is_method_name : List ℕ → Bool
is_method_name name = starts_with eqb name (codes "METH_")

-- of these lines none declares an ACL of this name, which is one of these predefined ones
abbrev pub is_predefined_method : List JudgedLine → List ℕ → Bool
is_predefined_method lines name = is_method_name name && not (list_any (declares name) lines)

abbrev pub is_predefined_localhost : List JudgedLine → List ℕ → Bool
is_predefined_localhost lines name =
    bytes_eq name (codes "LOCALHOST") && not (list_any (declares name) lines)

-- the ACL of this name asks for the method
abbrev pub asks_method : List JudgedLine → List ℕ → Bool
asks_method lines name =
    is_predefined_method lines name || list_any (declares_method name) lines

-- ---- files that are searched in two ways

-- the methods whose answers over a file HAProxy keeps in one cache
abbrev pub is_cached : By → Bool
is_cached method.End = true
is_cached method.Sub = true
is_cached method.Dir = true
is_cached method.Dom = true
is_cached _ = false

-- two heads search one reference by two of these methods
abbrev pub are_mixed : HeadSpec → HeadSpec → Bool
are_mixed head other =
    other.table == head.table && is_cached head.by && is_cached other.by
    && not (method_number other.by == method_number head.by)

abbrev pub is_mixed : List HeadSpec → HeadSpec → Bool
is_mixed heads head = list_any (are_mixed head) heads

-- the head with this number is one of two such
abbrev pub is_mixed_at : List HeadSpec → ℕ → Bool
is_mixed_at heads number = option_map_or (is_mixed heads) (slice_get heads number) false

abbrev pub map_is_mixed : List HeadSpec → Conv → Bool
map_is_mixed heads (conv.Map head by out default) = is_mixed_at heads head
map_is_mixed heads _ = false

-- ---- all

-- what an expression or an ACL may have
pub data Feature : Type 0 where
  -- a topic
  ExprShows : ExprTopic → Feature
  AclShows : AclTopic → Feature
  -- it asks for the method, also by the name of an ACL, where these are all lines
  AsksMethod : List JudgedLine → Feature
  -- it names one of the predefined ACLs that ask for the method; and `LOCALHOST`
  NamesMethod : List JudgedLine → Feature
  NamesLocalhost : List JudgedLine → Feature
  -- it searches a file by one of two methods that share a cache, where these are all heads
  SharesCache : List HeadSpec → Feature

abbrev pub feature_view : CodeFeature → Feature
feature_view (code.Expr topic) = ExprShows topic
feature_view (code.Acl topic) = AclShows topic
feature_view (code.Method lines) = AsksMethod lines.now
feature_view (code.PredefinedMethod lines) = NamesMethod lines.now
feature_view (code.Localhost lines) = NamesLocalhost lines.now
feature_view (code.Mixed heads) = SharesCache heads.now

abbrev pub expr_passes : Feature → Expr → Bool
expr_passes (ExprShows topic) expr = expr_has topic expr
expr_passes (AclShows topic) expr = false
expr_passes (AsksMethod lines) expr = is_method expr.fetch
expr_passes (NamesMethod lines) expr = false
expr_passes (NamesLocalhost lines) expr = false
expr_passes (SharesCache heads) expr = list_any (map_is_mixed heads) expr.convs

-- what an ACL has beside its expression
abbrev pub parts_pass : Feature → Decl → Bool
parts_pass (ExprShows topic) decl = false
parts_pass (AclShows topic) decl = acl_has topic decl
parts_pass (AsksMethod lines) decl = false
parts_pass (NamesMethod lines) decl = false
parts_pass (NamesLocalhost lines) decl = false
parts_pass (SharesCache heads) decl = list_any (is_mixed_at heads) decl.heads

abbrev pub decl_passes : Feature → Decl → Bool
decl_passes looked_for decl = expr_passes looked_for decl.expr || parts_pass looked_for decl

abbrev pub name_passes : Feature → List ℕ → Bool
name_passes (ExprShows topic) name = false
name_passes (AclShows topic) name = false
name_passes (AsksMethod lines) name = asks_method lines name
name_passes (NamesMethod lines) name = is_predefined_method lines name
name_passes (NamesLocalhost lines) name = is_predefined_localhost lines name
name_passes (SharesCache heads) name = false

abbrev pub use_has : Feature → AclUse → Bool
use_has looked_for (Named name) = name_passes looked_for name
use_has looked_for (Own decl) = decl_passes looked_for decl

abbrev pub declared_passes : Feature → Statement → Bool
declared_passes looked_for (statement.Acl line name decl) = decl_passes looked_for decl
declared_passes looked_for _ = false

-- an expression or an ACL of the statement has the feature
abbrev pub statement_passes : Feature → Statement → Bool
statement_passes looked_for st =
    filled_passes (expr_passes looked_for) st || declared_passes looked_for st
    || use_passes (use_has looked_for) st
