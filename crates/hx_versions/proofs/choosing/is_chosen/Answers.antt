use Rattle.std.proofs.Common.{sym, ap, ◌∙◌}
use Rattle.hx_versions.specs.declared.stored_entry.StoredEntry.{StoredEntry}
use Rattle.hx_versions.specs.StoredEntries.{stored_entry}
use Rattle.hx_versions.specs.Versions.{is_chosen}
use Rattle.hx_versions.proofs.IndexListLemmas.{some_same}
use Rattle.hx_versions.proofs.choosing.is_chosen.Goals as goal

pub returns : goal.returns
returns g c stored is =
    c.chooses.ensures
    ∙ ap (λ (s : StoredEntry). is_chosen c.args.choice.now (stored_entry s)) (some_same c.get-entry.result.now stored (sym c.get-entry.ensures.value ∙ is))
