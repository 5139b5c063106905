-- The table of flags in src/flag_table.rt is that of the definitions.
use Rattle.std.proofs.Common.{◌≡◌, ℕ, List, map}
use Rattle.std.specs.Prelude.{option_map}
use Rattle.hx_spell.specs.declared.flag_table.TheConstants.{FLAGS}
use Rattle.hx_spell.specs.FlagView.{flag_of}
use Rattle.hx_spell.specs.Flags.{flag_table}
use Rattle.hx_calls.specs.Tables.{entry_at}
use Rattle.hx_calls.proofs.TableLemmas.{entry_at_map}

pub flag_row : (name : List ℕ)
    → entry_at flag_table name
    ≡ option_map flag_of (entry_at (map (λ row. (row.0.now, row.1)) FLAGS) name)
unfolding flag_table
flag_row name = entry_at_map flag_of (map (λ row. (row.0.now, row.1)) FLAGS) name
