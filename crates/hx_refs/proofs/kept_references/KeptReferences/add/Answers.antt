use Rattle.hx_refs.proofs.FilledLemmas.{filled_length}
use Rattle.std.proofs.Common.{ap, ◌∙◌, arith}
use Rattle.std.proofs.lemmas.Result.{on_ok_weaker, IfErr-weaker}
use Rattle.hx_refs.specs.Kept.{kept_demands, version_fault}
use Rattle.hx_refs.proofs.ChangeLemmas.{has_version, no_version, same_version, seen_here, with_pairs_at}
use Rattle.hx_refs.proofs.kept_references.KeptReferences.add.Goals as goal

pub add_to-requires-clause-version : goal.add_to-requires-clause-version
add_to-requires-clause-version g c seen is =
    let requires = rw (← c.self.view_is) at c.requires in
    has_version c.self.inside.references.items c.self.inside.store c.args.r c.index-reference.result.now requires c.index-reference.ensures c.self.invariant
    c.in-Some.number seen c.in-Some.ensures.version (rw (← c.self.view_is) at is)

pub returns-clause-ok : goal.returns-clause-ok
returns-clause-ok g c =
    let kept = c.self.inside.references.items in
    let requires = rw (← c.self.view_is) at c.requires in
    let seen = seen_here kept c.self.inside.store c.args.r c.index-reference.result.now requires c.index-reference.ensures c.self.invariant in
    rw (← c.self.view_is)
    (on_ok_weaker c.add_to.result
    (λ same. (rw (← c.self.view_is) at same)
    ∙ with_pairs_at _ c.args.r c.args.ver c.in-Some.number c.args.pairs.now _ seen c.in-Some.ensures.place c.in-Some.ensures.given)
    c.add_to.ensures.ok)

pub returns-clause-none : goal.returns-clause-none
returns-clause-none g c =
    let requires = rw (← c.self.view_is) at c.requires in
    on_ok_weaker c.add_to.result
    (λ none seen is. ap (λ v. version_fault (kept_demands seen c.args.limits) v c.args.pairs.now)
    (same_version c.self.inside.references.items c.self.inside.store c.args.r c.index-reference.result.now requires c.index-reference.ensures c.self.invariant
    c.args.ver c.in-Some.number seen c.in-Some.ensures.place (rw (← c.self.view_is) at is)) ∙ none seen is)
    c.add_to.ensures.none

pub returns-clause-refused : goal.returns-clause-refused
returns-clause-refused g c =
    let requires = rw (← c.self.view_is) at c.requires in
    IfErr-weaker c.add_to.result _ _
    (λ fault may seen is. rw (same_version c.self.inside.references.items c.self.inside.store c.args.r c.index-reference.result.now requires c.index-reference.ensures c.self.invariant c.args.ver c.in-Some.number seen c.in-Some.ensures.place (rw (← c.self.view_is) at is))
    (may seen is))
    c.add_to.ensures.refused

pub returns-clause-large : goal.returns-clause-large
returns-clause-large g c seen is =
    let requires = rw (← c.self.view_is) at c.requires in
    rw (same_version c.self.inside.references.items c.self.inside.store c.args.r c.index-reference.result.now requires c.index-reference.ensures c.self.invariant c.args.ver c.in-Some.number seen c.in-Some.ensures.place (rw (← c.self.view_is) at is))
    (c.add_to.ensures.large seen is)

pub index-reference-requires : goal.index-reference-requires
index-reference-requires g c =
    omega (arith, rw (← c.self.view_is) at c.requires, filled_length c.self.inside.references.items c.self.inside.store.rows, c.self.inside.references.ok.0)

pub returns-in_default-clause-refused : goal.returns-in_default-clause-refused
returns-in_default-clause-refused g c seen is =
    ap (λ v. version_fault (kept_demands seen c.args.limits) v c.args.pairs.now)
    (no_version c.self.inside.references.items c.self.inside.store c.args.r c.index-reference.result.now
    (rw (← c.self.view_is) at c.requires) c.index-reference.ensures c.self.invariant c.args.ver seen c.in_default.ensures.none
    (rw (← c.self.view_is) at is))
