-- The tables of src/action_table.rt are those of the definitions.
use Rattle.std.proofs.Common.{◌≡◌, ℕ, List, map}
use Rattle.std.specs.Prelude.{option_map}
use Rattle.hx_spell.specs.declared.action_table.TheConstants.{ACTIONS}
use Rattle.hx_spell.specs.ActionView.{head_maker}
use Rattle.hx_spell.specs.Actions.{action_table}
use Rattle.hx_calls.specs.Tables.{entry_at}
use Rattle.hx_calls.proofs.TableLemmas.{entry_at_map}

pub action_row : (name : List ℕ)
    → entry_at action_table name
    ≡ option_map head_maker (entry_at (map (λ row. (row.0.now, row.1)) ACTIONS) name)
unfolding action_table
action_row name = entry_at_map head_maker (map (λ row. (row.0.now, row.1)) ACTIONS) name
