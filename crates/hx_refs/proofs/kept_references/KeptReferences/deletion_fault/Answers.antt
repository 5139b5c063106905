use Rattle.std.proofs.Common.{ap, arith, sym, ◌∙◌}
use Rattle.std.specs.Prelude.{not}
use Rattle.hx_refs.specs.Changes.{deletion_fault}
use Rattle.hx_refs.specs.Kept.{filled}
use Rattle.hx_refs.specs.References.{version_place}
use Rattle.hx_versions.specs.Rows.{row_at}
use Rattle.hx_versions.specs.Versions.{is_chosen}
use Rattle.hx_refs.proofs.ChangeLemmas.{chosen_deletion, fault_here, known_version, lacking_deletion, seen_here, unknown_deletion, unknown_version}
use Rattle.hx_refs.proofs.FilledLemmas.{filled_length}
use Rattle.hx_refs.proofs.kept_references.KeptReferences.deletion_fault.Goals as goal

pub index-reference-requires : goal.index-reference-requires
index-reference-requires c =
    omega (arith, rw (← c.self.view_is) at c.requires, filled_length c.self.inside.references.items c.self.inside.store.rows, c.self.inside.references.ok.0)

pub returns-then-is_none : goal.returns-then-is_none
returns-then-is_none c =
    let kept = c.self.inside.references.items in
    let store = c.self.inside.store in
    let k = c.index-reference.result.now in
    let test = is_chosen c.args.choice.now in
    let requires = rw (← c.self.view_is) at c.requires in
    let none = unknown_version c.number.result (version_place k.kept.shown c.args.ver) (c.is_none.ensures ∙ ap not c.if-is_none.true) c.number.ensures.none in
    rw (← c.self.view_is)
    (sym (fault_here kept store c.args.r k requires c.index-reference.ensures c.self.invariant (deletion_fault c.args.ver test)
    ∙ unknown_deletion c.args.ver test (filled k (row_at store c.args.r)).shown none))

pub returns-then-not-has_chosen : goal.returns-then-not-has_chosen
returns-then-not-has_chosen c =
    let kept = c.self.inside.references.items in
    let store = c.self.inside.store in
    let k = c.index-reference.result.now in
    let test = is_chosen c.args.choice.now in
    let requires = rw (← c.self.view_is) at c.requires in
    let seen = filled k (row_at store c.args.r) in
    let there = seen_here kept store c.args.r k requires c.index-reference.ensures c.self.invariant in
    let chosen = (rw (← c.self.view_is) at c.has_chosen.ensures) seen there in
    let has = known_version k.kept.shown c.args.ver c.number.result (c.is_none.ensures ∙ ap not c.if-is_none.false) c.number.ensures.place c.number.ensures.version in
    rw (← c.self.view_is)
    (sym (fault_here kept store c.args.r k requires c.index-reference.ensures c.self.invariant (deletion_fault c.args.ver test)
    ∙ lacking_deletion c.args.ver test seen.shown has (cc (chosen, c.if-not-has_chosen.true))))

pub returns : goal.returns
returns c =
    let kept = c.self.inside.references.items in
    let store = c.self.inside.store in
    let k = c.index-reference.result.now in
    let test = is_chosen c.args.choice.now in
    let requires = rw (← c.self.view_is) at c.requires in
    let seen = filled k (row_at store c.args.r) in
    let there = seen_here kept store c.args.r k requires c.index-reference.ensures c.self.invariant in
    let chosen = (rw (← c.self.view_is) at c.has_chosen.ensures) seen there in
    let has = known_version k.kept.shown c.args.ver c.number.result (c.is_none.ensures ∙ ap not c.if-is_none.false) c.number.ensures.place c.number.ensures.version in
    rw (← c.self.view_is)
    (sym (fault_here kept store c.args.r k requires c.index-reference.ensures c.self.invariant (deletion_fault c.args.ver test)
    ∙ chosen_deletion c.args.ver test seen.shown has (cc (chosen, c.if-not-has_chosen.false))))
