use Rattle.std.proofs.Common.{ℕ, ◌+◌, ◌<◌, ◌^◌, None, ap, subst, sym, ◌∙◌, arith}
use Rattle.hx_refs.specs.Changes.{answer, preparation_fault}
use Rattle.hx_refs.specs.Kept.{Kept}
use Rattle.hx_refs.specs.References.{span}
use Rattle.hx_refs.specs.VersionNumbers.{number_ahead}
use Rattle.hx_refs.proofs.FilledLemmas.{filled_length, seen_from}
use Rattle.hx_refs.proofs.kept_references.KeptReferences.prepare.Goals as goal

pub returns-in-Some-clause-answer : goal.returns-in-Some-clause-answer
returns-in-Some-clause-answer c seen is =
    let requires = rw (← c.self.view_is) at c.requires in
    let same = seen_from c.self.inside.references.items c.self.inside.store c.args.r c.index-reference.result.now seen requires c.index-reference.ensures (rw (← c.self.view_is) at is) in
    ap (answer (number_ahead seen.shown.next 1)) c.in-Some.ensures.fault
    ∙ ap (λ (x : Kept). answer (number_ahead seen.shown.next 1) (preparation_fault c.args.limits x.shown)) (sym same)

pub returns-clause-answer : goal.returns-clause-answer
returns-clause-answer c seen is =
    let requires = rw (← c.self.view_is) at c.requires in
    let same = seen_from c.self.inside.references.items c.self.inside.store c.args.r c.index-reference.result.now seen requires c.index-reference.ensures (rw (← c.self.view_is) at is) in
    ap (λ (n : ℕ). answer n None) (c.add_version.ensures.number seen is)
    ∙ ap (answer (number_ahead seen.shown.next 1)) c.in_default.ensures.fault
    ∙ ap (λ (x : Kept). answer (number_ahead seen.shown.next 1) (preparation_fault c.args.limits x.shown)) (sym same)

pub add_version-requires-clause-room : goal.add_version-requires-clause-room
add_version-requires-clause-room c seen is =
    let requires = rw (← c.self.view_is) at c.requires in
    let same = seen_from c.self.inside.references.items c.self.inside.store c.args.r c.index-reference.result.now seen requires c.index-reference.ensures (rw (← c.self.view_is) at is) in
    subst (λ (x : Kept). span x.shown + 1 < 2 ^ 32) (sym same) c.in_default.ensures.room

pub index-reference-requires : goal.index-reference-requires
index-reference-requires c =
    omega (arith, rw (← c.self.view_is) at c.requires, filled_length c.self.inside.references.items c.self.inside.store.rows, c.self.inside.references.ok.0)
