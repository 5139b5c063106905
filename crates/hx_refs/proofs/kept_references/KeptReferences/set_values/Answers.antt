use Rattle.hx_refs.proofs.FilledLemmas.{filled_length, row_within, state_of}
use Rattle.std.proofs.Common.{map, arith, ap}
use Rattle.std.proofs.lemmas.Result.{on_ok_weaker, on_err_weaker}
use Rattle.hx_sample.specs.Changes.{with_value}
use Rattle.hx_versions.specs.Rows.{changed_entries}
use Rattle.hx_versions.specs.Versions.{is_chosen}
use Rattle.hx_refs.proofs.ChangeLemmas.{either, none_changed, version_changed}
use Rattle.hx_refs.proofs.NumberLemmas.{rising_with}
use Rattle.hx_refs.proofs.kept_references.KeptReferences.set_values.Goals as goal

pub invariant_of-self : goal.invariant_of-self
invariant_of-self c =
    either c.set.result
    (λ changes.
    (version_changed c.self.inside.references.items c.self.inside.store c.set.new.self c.args.r c.index-reference.result.now
    (rw (← c.self.view_is) at c.requires) c.index-reference.ensures c.self.invariant c.set.ensures.others
    c.in-Some.number c.stored_number-stored.result c.args.ver (changed_entries (map (with_value (is_chosen c.args.choice.now) c.args.value.now))) c.in-Some.ensures.version c.stored_number-stored.ensures c.in-Some.ensures.place
    changes c.set.ensures.searched c.set.ensures.counted
    (rising_with c.in-Some.number (is_chosen c.args.choice.now) c.args.value.now)).is_filled)
    (λ same. rw same c.self.invariant) c.set.ensures.ok c.set.ensures.err

pub returns-clause-ok : goal.returns-clause-ok
returns-clause-ok c =
    rw (← c.self.view_is)
    (on_ok_weaker c.set.result
    (λ changes.
    (version_changed c.self.inside.references.items c.self.inside.store c.set.new.self c.args.r c.index-reference.result.now
    (rw (← c.self.view_is) at c.requires) c.index-reference.ensures c.self.invariant c.set.ensures.others
    c.in-Some.number c.stored_number-stored.result c.args.ver (changed_entries (map (with_value (is_chosen c.args.choice.now) c.args.value.now))) c.in-Some.ensures.version c.stored_number-stored.ensures c.in-Some.ensures.place
    changes c.set.ensures.searched c.set.ensures.counted
    (rising_with c.in-Some.number (is_chosen c.args.choice.now) c.args.value.now)).shown)
    c.set.ensures.ok)

pub index-reference-requires : goal.index-reference-requires
index-reference-requires c =
    omega (arith, rw (← c.self.view_is) at c.requires, filled_length c.self.inside.references.items c.self.inside.store.rows, c.self.inside.references.ok.0)

pub set-requires-clause-row : goal.set-requires-clause-row
set-requires-clause-row c =
    row_within c.self.inside.references.items c.self.inside.store c.args.r (rw (← c.self.view_is) at c.requires) c.self.invariant

pub returns-clause-err : goal.returns-clause-err
returns-clause-err c =
    rw (← c.self.view_is)
    (on_err_weaker c.set.result (ap (state_of c.self.inside.references.items)) c.set.ensures.err)

pub returns-in_default-clause-ok : goal.returns-in_default-clause-ok
returns-in_default-clause-ok c =
    rw (← c.self.view_is)
    (none_changed c.self.inside.references.items c.self.inside.store c.args.r c.index-reference.result.now
    (rw (← c.self.view_is) at c.requires) c.index-reference.ensures c.self.invariant c.args.ver
    (changed_entries (map (with_value (is_chosen c.args.choice.now) c.args.value.now))) c.in_default.ensures.none)
