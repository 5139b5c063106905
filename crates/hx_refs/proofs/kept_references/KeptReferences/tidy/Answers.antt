use Rattle.std.proofs.Common.{ap}
use Rattle.hx_refs.specs.Kept.{all_filled}
use Rattle.hx_versions.specs.Rows.{StoreView}
use Rattle.hx_refs.proofs.SlotCountLemmas.{tidied_filled, tidied_slots}
use Rattle.hx_refs.proofs.kept_references.KeptReferences.tidy.Goals as goal

pub invariant_of-self : goal.invariant_of-self
invariant_of-self c =
    tidied_filled c.self.inside.references.items c.self.inside.store c.tidy.new.self _ c.tidy.ensures c.self.invariant

pub returns-clause-kept : goal.returns-clause-kept
returns-clause-kept c =
    rw (← c.self.view_is)
    (ap (λ (store : StoreView). all_filled c.self.inside.references.items store.rows) c.tidy.ensures)

pub returns-clause-slots : goal.returns-clause-slots
returns-clause-slots c =
    rw (← c.self.view_is) (tidied_slots c.args.n c.self.inside.store c.tidy.new.self c.tidy.ensures)
