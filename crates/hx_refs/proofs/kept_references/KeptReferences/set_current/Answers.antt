use Rattle.std.proofs.Common.{arith, subst}
use Rattle.hx_refs.specs.Changes.{with_current_version}
use Rattle.hx_refs.specs.Kept.{with_curr}
use Rattle.hx_versions.specs.Rows.{row_at, IsDropped}
use Rattle.hx_refs.proofs.ChangeLemmas.{holds_here, seen_here}
use Rattle.hx_refs.proofs.FilledLemmas.{both_changed, both_filled, kept_at, row_within, seen_from, filled_length}
use Rattle.hx_refs.proofs.ReferenceLemmas.{committed_shown, dropped_count, filled_committed}
use Rattle.hx_refs.proofs.kept_references.KeptReferences.set_current.Goals as goal

pub drop_below-requires : goal.drop_below-requires
drop_below-requires g c = record {
  row = row_within c.self.inside.references.items c.self.inside.store c.args.r (rw (← c.self.view_is) at c.requires.r) c.self.invariant;
}

pub set_current-stored-requires : goal.set_current-stored-requires
set_current-stored-requires g c =
    (rw (← c.self.view_is) at c.requires.version) _ (seen_here c.self.inside.references.items c.self.inside.store c.args.r c.index_mut-reference.result.now (rw (← c.self.view_is) at c.requires.r) c.index_mut-reference.ensures.value c.self.invariant)

pub invariant_of-self : goal.invariant_of-self
invariant_of-self g c =
    let kept = c.self.inside.references.items in
    let store = c.self.inside.store in
    let new = c.drop_below.new.self in
    let k = c.index_mut-reference.result.now in
    let requires = rw (← c.self.view_is) at c.requires.r in
    let found = kept_at kept store.rows c.args.r k requires c.index_mut-reference.ensures.value in
    let here = holds_here kept store c.args.r k requires c.index_mut-reference.ensures.value c.self.invariant in
    let has = (rw (← c.self.view_is) at c.requires.version) _ (seen_here kept store c.args.r k requires c.index_mut-reference.ensures.value c.self.invariant) in
    let dropped = subst (λ n. IsDropped n (row_at store c.args.r) (row_at new c.args.r)) c.set_current-stored.ensures.stored c.drop_below.ensures.dropped in
    rw c.set_current-stored.ensures.new
    (both_filled kept store new c.args.r k found (row_within kept store c.args.r requires c.self.invariant) c.self.invariant c.drop_below.ensures.others
    (with_curr c.args.number k)
    (filled_committed k c.args.number (row_at store c.args.r) (row_at new c.args.r) here has dropped))

pub returns-clause-kept : goal.returns-clause-kept
returns-clause-kept g c =
    let kept = c.self.inside.references.items in
    let store = c.self.inside.store in
    let new = c.drop_below.new.self in
    let k = c.index_mut-reference.result.now in
    let requires = rw (← c.self.view_is) at c.requires.r in
    let found = kept_at kept store.rows c.args.r k requires c.index_mut-reference.ensures.value in
    let here = holds_here kept store c.args.r k requires c.index_mut-reference.ensures.value c.self.invariant in
    let has = (rw (← c.self.view_is) at c.requires.version) _ (seen_here kept store c.args.r k requires c.index_mut-reference.ensures.value c.self.invariant) in
    let dropped = subst (λ n. IsDropped n (row_at store c.args.r) (row_at new c.args.r)) c.set_current-stored.ensures.stored c.drop_below.ensures.dropped in
    rw (← c.self.view_is)
    (rw c.set_current-stored.ensures.new
    (both_changed kept store new c.args.r k found (row_within kept store c.args.r requires c.self.invariant) c.self.invariant c.drop_below.ensures.others
    (with_curr c.args.number k) (with_current_version c.args.number)
    (committed_shown k c.args.number (row_at store c.args.r) (row_at new c.args.r) here has dropped)))

pub returns-clause-cost : goal.returns-clause-cost
returns-clause-cost g c seen is =
    let kept = c.self.inside.references.items in
    let store = c.self.inside.store in
    let new = c.drop_below.new.self in
    let k = c.index_mut-reference.result.now in
    let requires = rw (← c.self.view_is) at c.requires.r in
    let here = holds_here kept store c.args.r k requires c.index_mut-reference.ensures.value c.self.invariant in
    let dropped = subst (λ n. IsDropped n (row_at store c.args.r) (row_at new c.args.r)) c.set_current-stored.ensures.stored c.drop_below.ensures.dropped in
    let few = dropped_count k c.args.number (row_at store c.args.r) (row_at new c.args.r) here dropped in
    rw (seen_from kept store c.args.r k seen requires c.index_mut-reference.ensures.value (rw (← c.self.view_is) at is))
    (omega (arith, c.drop_below.ensures.cost, few))

pub index_mut-reference-requires : goal.index_mut-reference-requires
index_mut-reference-requires g c =
    omega (arith, rw (← c.self.view_is) at c.requires.r, filled_length c.self.inside.references.items c.self.inside.store.rows, c.self.inside.references.ok.0)

pub returns-clause-used : goal.returns-clause-used
returns-clause-used g c = rw (← c.self.view_is) c.drop_below.ensures.used
