use Rattle.std.proofs.lemmas.Bool.{eqb-true, eqb-false}
use Rattle.hx_refs.specs.Kept.{stored_last, IsAdded, Kept}
use Rattle.std.proofs.Common.{ap, arith, ◌≡◌, ◌<◌, length, subst, sym, ◌∙◌}
use Rattle.std.proofs.lemmas.List.{length-map}
use Rattle.std.proofs.lemmas.Result.{on_ok_weaker, on_err_weaker}
use Rattle.hx_versions.specs.NewEntries.{added_entries, added_entry}
use Rattle.hx_refs.proofs.ChangeLemmas.{holds_here, seen_here, few_in_row, counted_in_row, either, entries_appended, none_pairs}
use Rattle.hx_refs.proofs.FilledLemmas.{row_within, filled_length, no_items, seen_from, state_of}
use Rattle.hx_refs.proofs.kept_references.KeptReferences.append.Goals as goal

pub append-requires-clause-row : goal.append-requires-clause-row
append-requires-clause-row c =
    row_within c.self.inside.references.items c.self.inside.store c.args.r (rw (← c.self.view_is) at c.requires.r) c.self.invariant

pub append-requires-clause-ready : goal.append-requires-clause-ready
append-requires-clause-ready c =
    let requires = rw (← c.self.view_is) at c.requires.r in
    let ready = rw (← c.self.view_is) at c.requires.ready in
    rw c.uses.ensures
    (ready _ (seen_here c.self.inside.references.items c.self.inside.store c.args.r c.index-reference.result.now requires c.index-reference.ensures c.self.invariant))

pub append-requires-clause-searched : goal.append-requires-clause-searched
append-requires-clause-searched c =
    let requires = rw (← c.self.view_is) at c.requires.r in
    rw c.uses.ensures
    (holds_here c.self.inside.references.items c.self.inside.store c.args.r c.index-reference.result.now requires c.index-reference.ensures c.self.invariant).searched

pub append-requires-clause-few : goal.append-requires-clause-few
append-requires-clause-few c first last numbers =
    let requires = rw (← c.self.view_is) at c.requires.r in
    let few = rw (← c.self.view_is) at c.requires.few in
    let seen = seen_here c.self.inside.references.items c.self.inside.store c.args.r c.index-reference.result.now requires c.index-reference.ensures c.self.invariant in
    let has = (rw (← c.self.view_is) at c.requires.version) _ seen in
    few_in_row c.self.inside.references.items c.self.inside.store c.args.r c.index-reference.result.now requires c.index-reference.ensures c.self.invariant
    c.args.number c.stored_number-stored.result _ _ has c.stored_number-stored.ensures (few _ seen)

pub index-reference-requires : goal.index-reference-requires
index-reference-requires c =
    omega (arith, rw (← c.self.view_is) at c.requires.r, filled_length c.self.inside.references.items c.self.inside.store.rows, c.self.inside.references.ok.0)

pub returns-then-is_empty-clause-ok : goal.returns-then-is_empty-clause-ok
returns-then-is_empty-clause-ok c seen_k pairs is added =
    let kept = c.self.inside.references.items in
    let store = c.self.inside.store in
    let k = c.index-reference.result.now in
    let requires = rw (← c.self.view_is) at c.requires.r in
    let seen = seen_here kept store c.args.r k requires c.index-reference.ensures c.self.invariant in
    let here = holds_here kept store c.args.r k requires c.index-reference.ensures c.self.invariant in
    let has = (rw (← c.self.view_is) at c.requires.version) _ seen in
    let items = c.args.added.entries.items in
    let serial = c.args.added.serial in
    let none : length items ≡ 0 = omega (arith, c.args.added.entries.ok.0, eqb-true _ 0 (sym c.is_empty.ensures ∙ c.if-is_empty.true)) in
    rw (← c.self.view_is)
    (none_pairs kept store c.args.r k requires c.index-reference.ensures c.self.invariant c.args.number pairs (added_entries items) serial seen_k has
    (no_items added_entry items none) (rw (← c.self.view_is) at is) added)

pub invariant_of-self : goal.invariant_of-self
invariant_of-self c =
    let kept = c.self.inside.references.items in
    let store = c.self.inside.store in
    let k = c.index-reference.result.now in
    let requires = rw (← c.self.view_is) at c.requires.r in
    let seen = seen_here kept store c.args.r k requires c.index-reference.ensures c.self.invariant in
    let here = holds_here kept store c.args.r k requires c.index-reference.ensures c.self.invariant in
    let has = (rw (← c.self.view_is) at c.requires.version) _ seen in
    let items = c.args.added.entries.items in
    let serial = c.args.added.serial in
    let asked = (rw (← c.self.view_is) at c.requires.pairs) _ seen in
    let some : 0 < length items = omega (arith, c.args.added.entries.ok.0, eqb-false _ 0 (sym c.is_empty.ensures ∙ c.if-is_empty.false)) in
    let few = counted_in_row kept store c.args.r k requires c.index-reference.ensures c.self.invariant c.args.number c.stored_number-stored.result asked.0 (added_entries items) serial (length items) has c.stored_number-stored.ensures asked.1 (length-map items added_entry) in
    let searched = rw c.uses.ensures at c.append.ensures.searched in
    let counted = c.append.ensures.counted k.stored_first (stored_last k) here.numbers here.counted (omega (arith, some, few)) few in
    either c.append.result
    (λ changes. (entries_appended kept store c.append.new.self c.args.r k requires c.index-reference.ensures c.self.invariant c.append.ensures.others
    c.args.number c.stored_number-stored.result asked.0 (added_entries items) serial has c.stored_number-stored.ensures asked.1 changes searched counted).is_filled)
    (λ same. rw same c.self.invariant) c.append.ensures.ok c.append.ensures.err

pub returns-clause-ok : goal.returns-clause-ok
returns-clause-ok c =
    let kept = c.self.inside.references.items in
    let store = c.self.inside.store in
    let k = c.index-reference.result.now in
    let requires = rw (← c.self.view_is) at c.requires.r in
    let seen = seen_here kept store c.args.r k requires c.index-reference.ensures c.self.invariant in
    let here = holds_here kept store c.args.r k requires c.index-reference.ensures c.self.invariant in
    let has = (rw (← c.self.view_is) at c.requires.version) _ seen in
    let items = c.args.added.entries.items in
    let serial = c.args.added.serial in
    let asked = (rw (← c.self.view_is) at c.requires.pairs) _ seen in
    let some : 0 < length items = omega (arith, c.args.added.entries.ok.0, eqb-false _ 0 (sym c.is_empty.ensures ∙ c.if-is_empty.false)) in
    let few = counted_in_row kept store c.args.r k requires c.index-reference.ensures c.self.invariant c.args.number c.stored_number-stored.result asked.0 (added_entries items) serial (length items) has c.stored_number-stored.ensures asked.1 (length-map items added_entry) in
    let searched = rw c.uses.ensures at c.append.ensures.searched in
    let counted = c.append.ensures.counted k.stored_first (stored_last k) here.numbers here.counted (omega (arith, some, few)) few in
    rw (← c.self.view_is)
    (on_ok_weaker c.append.result
    (λ changes seen_k pairs is added.
    (entries_appended kept store c.append.new.self c.args.r k requires c.index-reference.ensures c.self.invariant c.append.ensures.others
    c.args.number c.stored_number-stored.result pairs (added_entries items) serial has c.stored_number-stored.ensures
    (subst (λ (x : Kept). IsAdded x c.args.number pairs (added_entries items) serial) (seen_from kept store c.args.r k seen_k requires c.index-reference.ensures is) added)
    changes searched counted).shown)
    c.append.ensures.ok)

pub returns-clause-err : goal.returns-clause-err
returns-clause-err c =
    rw (← c.self.view_is)
    (on_err_weaker c.append.result (ap (state_of c.self.inside.references.items)) c.append.ensures.err)

pub append-requires-clause-numbered : goal.append-requires-clause-numbered
append-requires-clause-numbered c =
    let k = c.index-reference.result.now in (
      k.stored_first,
      stored_last k,
      (holds_here c.self.inside.references.items c.self.inside.store c.args.r k (rw (← c.self.view_is) at c.requires.r) c.index-reference.ensures c.self.invariant).numbers,
    )

pub stored_number-stored-requires : goal.stored_number-stored-requires
stored_number-stored-requires c =
    (rw (← c.self.view_is) at c.requires.version) _ (seen_here c.self.inside.references.items c.self.inside.store c.args.r c.index-reference.result.now (rw (← c.self.view_is) at c.requires.r) c.index-reference.ensures c.self.invariant)
