-- The tables of src/line.rt are those of the definitions.
use Rattle.std.proofs.Common.{◌≡◌, ℕ, List, map, refl}
use Rattle.std.specs.Prelude.{option_map}
use Rattle.hx_spell.specs.declared.line.TheConstants.{KEYWORDS, POLARITIES}
use Rattle.hx_spell.specs.LineView.{keyword_of}
use Rattle.hx_spell.specs.Lines.{keyword_table, polarity_table}
use Rattle.hx_calls.specs.Tables.{entry_at}
use Rattle.hx_calls.proofs.TableLemmas.{entry_at_map}

pub keyword_row : (name : List ℕ)
    → entry_at keyword_table name
    ≡ option_map keyword_of (entry_at (map (λ row. (row.0.now, row.1)) KEYWORDS) name)
unfolding keyword_table
keyword_row name = entry_at_map keyword_of (map (λ row. (row.0.now, row.1)) KEYWORDS) name

pub polarity_row : (name : List ℕ)
    → entry_at polarity_table name ≡ entry_at (map (λ row. (row.0.now, row.1)) POLARITIES) name
unfolding polarity_table
polarity_row name = refl
