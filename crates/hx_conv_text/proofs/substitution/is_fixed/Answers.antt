use Rattle.std.proofs.Common.{sym, ◌∙◌}
use Rattle.hx_conv_text.proofs.FixedLemmas.{expansion_of_plain, not_true}
use Rattle.hx_conv_text.proofs.substitution.is_fixed.Goals as goal

pub returns : goal.returns
returns c fixed group = expansion_of_plain group c.args.sub.now (sym c.contains.ensures.value ∙ not_true c.contains.result fixed)
