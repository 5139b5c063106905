-- The tables of the code for criteria are those of the definitions.
use Rattle.std.proofs.Common.{◌≡◌, ℕ, List, map, sym, ap, ◌∙◌, Option}
use Rattle.std.specs.Prelude.{option_map}
use Rattle.hx_text.specs.declared.By.{By}
use Rattle.hx_text.specs.declared.Out.{Out}
use Rattle.hx_calls.specs.declared.map_table.TheConstants.{MAPS}
use Rattle.hx_calls.specs.Criteria.{MapWay, map_table, map_way}
use Rattle.hx_calls.specs.Tables.{entry_at}
use Rattle.hx_calls.proofs.TableLemmas.{entry_at_map}

abbrev way_of_row : By × Out → MapWay
way_of_row row = map_way row.0 row.1

map_row : (name : List ℕ)
    → entry_at map_table name
    ≡ option_map way_of_row (entry_at (map (λ row. (row.0.now, row.1)) MAPS) name)
unfolding map_table
map_row name = entry_at_map way_of_row (map (λ row. (row.0.now, row.1)) MAPS) name

-- what is found in the table of the code
pub map_found : (name : List ℕ) (found : Option (By × Out))
    → found ≡ entry_at (map (λ row. (row.0.now, row.1)) MAPS) name
    → option_map way_of_row found ≡ entry_at map_table name
map_found name found is = ap (λ f. option_map way_of_row f) is ∙ sym (map_row name)
