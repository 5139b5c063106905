use Rattle.std.proofs.Common.{ap, arith, sym, ◌∙◌}
use Rattle.hx_rules.specs.ReplacingView.{replacement_by}
use Rattle.hx_rules.specs.Rewrites.{Edit}
use Rattle.hx_rules.proofs.ReplacingLemmas.{all_replaced}
use Rattle.hx_rules.proofs.replacing.Replacer.replaced_copy.Goals as goal

pub returns-clause-ok : goal.returns-clause-ok
returns-clause-ok c =
    ap (λ (edit : Edit). edit.head)
    (sym (all_replaced c.args.name.now (replacement_by c.args.self.now) c.lines.edited c.lines.at
    (omega arith)) ∙ c.lines.invariant.edit)
