use Rattle.std.proofs.Common.{sym, ap, ◌∙◌}
use Rattle.std.specs.Prelude.{option_map}
use Rattle.hx_spell.specs.LineView.{keyword_of}
use Rattle.hx_spell.proofs.LineTableLemmas.{keyword_row}
use Rattle.hx_spell.proofs.line.keyword_at.Goals as goal

pub returns : goal.returns
returns c = keyword_row c.args.word.now ∙ ap (λ found. option_map keyword_of found) (sym c.lookup.ensures)
