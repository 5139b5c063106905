use Rattle.std.proofs.Common.{◌+◌, ◌≤◌, subst, sym}
use Rattle.hx_refs.specs.Kept.{table_heads}
use Rattle.hx_refs.specs.SlotCounts.{least_slots, most_slots}
use Rattle.hx_refs.proofs.SlotCountLemmas.{same_slots}
use Rattle.hx_refs.proofs.refs.Refs.have_counted_slots.Goals as goal

pub returns-clause-least : goal.returns-clause-least
returns-clause-least c =
    rw (← c.self.view_is)
    (subst (λ n. n + c.self.inside.kept.slots.retired ≤ c.self.inside.kept.slots.used)
    (sym (same_slots least_slots c.self.inside.limits c.self.inside.first (table_heads c.self.inside.heads.items) c.self.inside.kept.kept c.self.invariant.all))
    c.have_counted_slots.ensures.least)

pub returns-clause-most : goal.returns-clause-most
returns-clause-most c =
    rw (← c.self.view_is)
    (subst (λ n. c.self.inside.kept.slots.used ≤ n + c.self.inside.kept.slots.retired)
    (sym (same_slots most_slots c.self.inside.limits c.self.inside.first (table_heads c.self.inside.heads.items) c.self.inside.kept.kept c.self.invariant.all))
    c.have_counted_slots.ensures.most)
