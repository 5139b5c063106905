-- The table of operators in src/patterns.rt is that of the definitions.
use Rattle.std.proofs.Common.{◌≡◌, ℕ, List, map}
use Rattle.std.specs.Prelude.{option_map}
use Rattle.hx_spell.specs.declared.patterns.TheConstants.{OPERATORS}
use Rattle.hx_spell.specs.PatternView.{key_after}
use Rattle.hx_spell.specs.Patterns.{operator_table}
use Rattle.hx_calls.specs.Tables.{entry_at}
use Rattle.hx_calls.proofs.TableLemmas.{entry_at_map}

pub operator_row : (name : List ℕ)
    → entry_at operator_table name
    ≡ option_map key_after (entry_at (map (λ row. (row.0.now, row.1)) OPERATORS) name)
unfolding operator_table
operator_row name = entry_at_map key_after (map (λ row. (row.0.now, row.1)) OPERATORS) name
