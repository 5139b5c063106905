use Rattle.std.proofs.Common.{sym, ap, ◌∙◌}
use Rattle.std.specs.Prelude.{option_map}
use Rattle.hx_spell.specs.FlagView.{flag_of}
use Rattle.hx_spell.proofs.FlagTableLemmas.{flag_row}
use Rattle.hx_spell.proofs.flags.flag_at.Goals as goal

pub returns : goal.returns
returns c = flag_row c.args.word.now ∙ ap (λ found. option_map flag_of found) (sym c.lookup.ensures)
