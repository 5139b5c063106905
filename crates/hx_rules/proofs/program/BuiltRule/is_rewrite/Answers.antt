use Rattle.std.proofs.Common.{◌∙◌, ap}
use Rattle.hx_ast.specs.declared.statement.Rule.{Rule}
use Rattle.hx_rules.specs.Rewriting.{is_rewrite}
use Rattle.hx_rules.proofs.RewritingLemmas.{kept_is_rewrite}
use Rattle.hx_rules.proofs.program.BuiltRule.is_rewrite.Goals as goal

pub returns : goal.returns
returns c =
    c.is_rewrite.ensures ∙ kept_is_rewrite c.self.inside.action ∙ ap (λ (rule : Rule). is_rewrite rule.action) c.self.view_is
