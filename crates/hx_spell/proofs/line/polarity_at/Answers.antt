use Rattle.std.proofs.Common.{sym, ◌∙◌}
use Rattle.hx_spell.proofs.LineTableLemmas.{polarity_row}
use Rattle.hx_spell.proofs.line.polarity_at.Goals as goal

pub returns : goal.returns
returns c = polarity_row c.args.word.now ∙ sym c.lookup.ensures
