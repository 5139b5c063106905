use Rattle.std.proofs.Common.{sym, ap, ◌∙◌}
use Rattle.std.specs.Prelude.{option_map}
use Rattle.hx_spell.specs.ActionView.{head_maker}
use Rattle.hx_spell.proofs.ActionTableLemmas.{action_row}
use Rattle.hx_spell.proofs.action_heads.action_name.Goals as goal

pub returns : goal.returns
returns c = action_row c.args.name.now ∙ ap (λ found. option_map head_maker found) (sym c.lookup.ensures)
