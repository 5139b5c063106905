use Rattle.std.proofs.Common.{sym, ap, ◌∙◌}
use Rattle.std.specs.Prelude.{option_map}
use Rattle.hx_spell.specs.PatternView.{key_after}
use Rattle.hx_spell.proofs.PatternTableLemmas.{operator_row}
use Rattle.hx_spell.proofs.patterns.operator_at.Goals as goal

pub returns : goal.returns
returns c = operator_row c.args.word.now ∙ ap (λ found. option_map key_after found) (sym c.lookup.ensures)
