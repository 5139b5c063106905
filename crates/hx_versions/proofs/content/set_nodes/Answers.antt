use Rattle.hx_versions.specs.declared.stored_entry.StoredEntry.{StoredEntry}
use Rattle.hx_versions.proofs.WritingLemmas.{written, written_live}
use Rattle.hx_versions.proofs.content.set_nodes.Goals as goal

pub returns-clause-updates : goal.returns-clause-updates
returns-clause-updates g c stored is =
    written c.args.entries.now c.args.slot c.get_mut.result.now stored (λ (x : StoredEntry). record x { nodes = c.args.numbers }) c.get_mut.ensures.value is

pub returns-clause-live : goal.returns-clause-live
returns-clause-live g c =
    written_live c.args.entries.now c.args.slot c.get_mut.result.now (record c.get_mut.result.now { nodes = c.args.numbers }) c.get_mut.ensures.value
