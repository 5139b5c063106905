use Rattle.hx_versions.specs.Rows.{use_ways}
use Rattle.hx_refs.proofs.NewEntryLemmas.{ready_answer}
use Rattle.hx_refs.proofs.reference.KeptReference.new_entry.Goals as goal

pub returns-clause-ready : goal.returns-clause-ready
returns-clause-ready g c =
    rw (← c.self.view_is)
    (ready_answer (use_ways c.self.inside.uses.items) c.entry_of_pair.result _ c.args.pair.now.key c.args.pair.now.value _
    c.entry_of_pair.ensures.entry c.entry_of_pair.ensures.prepared c.entry_of_pair.ensures.nodes
    (rw (c.as_slice.ensures.value, c.key.ensures) at c.in_ok-prepared.ensures.prepared))
