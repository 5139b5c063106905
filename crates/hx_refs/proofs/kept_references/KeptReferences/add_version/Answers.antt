use Rattle.std.proofs.Common.{◌≤◌, All, map, subst, arith, ap, sym, ◌∙◌}
use Rattle.hx_refs.specs.Changes.{with_new_version}
use Rattle.hx_refs.specs.Kept.{filled, with_next, IsFilled, Kept}
use Rattle.hx_refs.specs.VersionNumbers.{number_ahead}
use Rattle.hx_versions.specs.Rows.{lowered, row_at, ShownVersion}
use Rattle.hx_refs.proofs.ChangeLemmas.{holds_here, seen_here}
use Rattle.hx_refs.proofs.FilledLemmas.{both_changed, both_filled, filled_length, kept_at, row_within, seen_from}
use Rattle.hx_refs.proofs.ReferenceLemmas.{above_excess, filled_prepared, prepared_shown}
use Rattle.hx_refs.proofs.kept_references.KeptReferences.add_version.Goals as goal

pub index_mut-reference-requires : goal.index_mut-reference-requires
index_mut-reference-requires c =
    omega (arith, rw (← c.self.view_is) at c.requires.r, filled_length c.self.inside.references.items c.self.inside.store.rows, c.self.inside.references.ok.0)

pub prepare-number-requires : goal.prepare-number-requires
prepare-number-requires c =
    (rw (← c.self.view_is) at c.requires.room) _
    (seen_here c.self.inside.references.items c.self.inside.store c.args.r c.index_mut-reference.result.now (rw (← c.self.view_is) at c.requires.r) c.index_mut-reference.ensures.value c.self.invariant)

pub lower-requires-clause-row : goal.lower-requires-clause-row
lower-requires-clause-row c =
    row_within c.self.inside.references.items c.self.inside.store c.args.r (rw (← c.self.view_is) at c.requires.r) c.self.invariant

pub lower-requires-clause-above : goal.lower-requires-clause-above
lower-requires-clause-above c =
    let kept = c.self.inside.references.items in
    let store = c.self.inside.store in
    let k = c.index_mut-reference.result.now in
    let here = holds_here kept store c.args.r k (rw (← c.self.view_is) at c.requires.r) c.index_mut-reference.ensures.value c.self.invariant in
    subst (λ n. All (λ (v : ShownVersion). n ≤ v.number) (row_at store c.args.r)) (sym c.excess-excess.ensures)
    (above_excess k (row_at store c.args.r) here)

pub invariant_of-self : goal.invariant_of-self
invariant_of-self c =
    let kept = c.self.inside.references.items in
    let store = c.self.inside.store in
    let new = c.lower.new.store in
    let k = c.index_mut-reference.result.now in
    let requires = rw (← c.self.view_is) at c.requires.r in
    let found = kept_at kept store.rows c.args.r k requires c.index_mut-reference.ensures.value in
    let here = holds_here kept store c.args.r k requires c.index_mut-reference.ensures.value c.self.invariant in
    let room = (rw (← c.self.view_is) at c.requires.room) _ (seen_here kept store c.args.r k requires c.index_mut-reference.ensures.value c.self.invariant) in
    let lower = c.lower.ensures.lowered ∙ ap (λ n. map (lowered n) (row_at store c.args.r)) c.excess-excess.ensures in
    rw c.prepare-number.ensures.new
    (both_filled kept store new c.args.r k found (row_within kept store c.args.r requires c.self.invariant) c.self.invariant c.lower.ensures.others
    (with_next k)
    (subst (IsFilled (with_next k)) (sym lower) (filled_prepared k (row_at store c.args.r) here room)))

pub returns-clause-kept : goal.returns-clause-kept
returns-clause-kept c =
    let kept = c.self.inside.references.items in
    let store = c.self.inside.store in
    let new = c.lower.new.store in
    let k = c.index_mut-reference.result.now in
    let requires = rw (← c.self.view_is) at c.requires.r in
    let found = kept_at kept store.rows c.args.r k requires c.index_mut-reference.ensures.value in
    let here = holds_here kept store c.args.r k requires c.index_mut-reference.ensures.value c.self.invariant in
    let room = (rw (← c.self.view_is) at c.requires.room) _ (seen_here kept store c.args.r k requires c.index_mut-reference.ensures.value c.self.invariant) in
    let lower = c.lower.ensures.lowered ∙ ap (λ n. map (lowered n) (row_at store c.args.r)) c.excess-excess.ensures in
    rw (← c.self.view_is)
    (rw c.prepare-number.ensures.new
    (both_changed kept store new c.args.r k found (row_within kept store c.args.r requires c.self.invariant) c.self.invariant c.lower.ensures.others
    (with_next k) with_new_version
    (ap (filled (with_next k)) lower ∙ prepared_shown k (row_at store c.args.r) here room)))

pub returns-clause-number : goal.returns-clause-number
returns-clause-number c seen is =
    c.prepare-number.ensures.number
    ∙ ap (λ (x : Kept). number_ahead x.shown.next 1)
    (sym (seen_from c.self.inside.references.items c.self.inside.store c.args.r c.index_mut-reference.result.now seen
    (rw (← c.self.view_is) at c.requires.r) c.index_mut-reference.ensures.value (rw (← c.self.view_is) at is)))
