use Rattle.hx_refs.proofs.FilledLemmas.{filled_length, row_within}
use Rattle.std.proofs.Common.{[], arith}
use Rattle.hx_versions.specs.Rows.{changed_entries}
use Rattle.hx_refs.proofs.ChangeLemmas.{version_changed, none_changed}
use Rattle.hx_refs.proofs.kept_references.KeptReferences.clear.Goals as goal

pub invariant_of-self : goal.invariant_of-self
invariant_of-self c =
    (version_changed c.self.inside.references.items c.self.inside.store c.clear.new.self c.args.r c.index-reference.result.now
    (rw (← c.self.view_is) at c.requires) c.index-reference.ensures c.self.invariant c.clear.ensures.others
    c.in-Some.number c.stored_number-stored.result c.args.ver (changed_entries (λ _. [])) c.in-Some.ensures.version c.stored_number-stored.ensures c.in-Some.ensures.place
    c.clear.ensures.changes c.clear.ensures.searched c.clear.ensures.counted (λ version rise. tt)).is_filled

pub returns-in-Some : goal.returns-in-Some
returns-in-Some c =
    rw (← c.self.view_is)
    (version_changed c.self.inside.references.items c.self.inside.store c.clear.new.self c.args.r c.index-reference.result.now
    (rw (← c.self.view_is) at c.requires) c.index-reference.ensures c.self.invariant c.clear.ensures.others
    c.in-Some.number c.stored_number-stored.result c.args.ver (changed_entries (λ _. [])) c.in-Some.ensures.version c.stored_number-stored.ensures c.in-Some.ensures.place
    c.clear.ensures.changes c.clear.ensures.searched c.clear.ensures.counted (λ version rise. tt)).shown

pub index-reference-requires : goal.index-reference-requires
index-reference-requires c =
    omega (arith, rw (← c.self.view_is) at c.requires, filled_length c.self.inside.references.items c.self.inside.store.rows, c.self.inside.references.ok.0)

pub clear-requires-clause-row : goal.clear-requires-clause-row
clear-requires-clause-row c =
    row_within c.self.inside.references.items c.self.inside.store c.args.r (rw (← c.self.view_is) at c.requires) c.self.invariant

pub returns-in_default : goal.returns-in_default
returns-in_default c =
    rw (← c.self.view_is)
    (none_changed c.self.inside.references.items c.self.inside.store c.args.r c.index-reference.result.now
    (rw (← c.self.view_is) at c.requires) c.index-reference.ensures c.self.invariant c.args.ver (changed_entries (λ _. [])) c.in_default.ensures.none)
