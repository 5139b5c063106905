use Rattle.hx_refs.proofs.FilledLemmas.{filled_length, row_within}
use Rattle.std.proofs.Common.{arith}
use Rattle.hx_sample.specs.Changes.{without_chosen}
use Rattle.hx_versions.specs.Rows.{changed_entries}
use Rattle.hx_versions.specs.Versions.{is_chosen}
use Rattle.hx_refs.proofs.ChangeLemmas.{none_changed, version_changed}
use Rattle.hx_refs.proofs.NumberLemmas.{rising_without}
use Rattle.hx_refs.proofs.kept_references.KeptReferences.remove.Goals as goal

pub invariant_of-self : goal.invariant_of-self
invariant_of-self c =
    (version_changed c.self.inside.references.items c.self.inside.store c.delete.new.self c.args.r c.index-reference.result.now
    (rw (← c.self.view_is) at c.requires) c.index-reference.ensures c.self.invariant c.delete.ensures.others
    c.in-Some.number c.stored_number-stored.result c.args.ver (changed_entries (without_chosen (is_chosen c.args.choice.now))) c.in-Some.ensures.version c.stored_number-stored.ensures c.in-Some.ensures.place
    c.delete.ensures.changes c.delete.ensures.searched c.delete.ensures.counted (rising_without c.in-Some.number (is_chosen c.args.choice.now))).is_filled

pub returns-in-Some : goal.returns-in-Some
returns-in-Some c =
    rw (← c.self.view_is)
    (version_changed c.self.inside.references.items c.self.inside.store c.delete.new.self c.args.r c.index-reference.result.now
    (rw (← c.self.view_is) at c.requires) c.index-reference.ensures c.self.invariant c.delete.ensures.others
    c.in-Some.number c.stored_number-stored.result c.args.ver (changed_entries (without_chosen (is_chosen c.args.choice.now))) c.in-Some.ensures.version c.stored_number-stored.ensures c.in-Some.ensures.place
    c.delete.ensures.changes c.delete.ensures.searched c.delete.ensures.counted (rising_without c.in-Some.number (is_chosen c.args.choice.now))).shown

pub index-reference-requires : goal.index-reference-requires
index-reference-requires c =
    omega (arith, rw (← c.self.view_is) at c.requires, filled_length c.self.inside.references.items c.self.inside.store.rows, c.self.inside.references.ok.0)

pub delete-requires-clause-row : goal.delete-requires-clause-row
delete-requires-clause-row c =
    row_within c.self.inside.references.items c.self.inside.store c.args.r (rw (← c.self.view_is) at c.requires) c.self.invariant

pub returns-in_default : goal.returns-in_default
returns-in_default c =
    rw (← c.self.view_is)
    (none_changed c.self.inside.references.items c.self.inside.store c.args.r c.index-reference.result.now
    (rw (← c.self.view_is) at c.requires) c.index-reference.ensures c.self.invariant c.args.ver (changed_entries (without_chosen (is_chosen c.args.choice.now))) c.in_default.ensures.none)
