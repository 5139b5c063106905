use Rattle.std.proofs.Common.{ap, sym, ◌∙◌, arith}
use Rattle.std.specs.Prelude.{None}
use Rattle.std.proofs.lemmas.Result.{IfOk-weaker}
use Rattle.hx_sample.specs.Find.{found_entry}
use Rattle.hx_sample.specs.Seen.{value_of}
use Rattle.hx_versions.specs.Costs.{search_steps}
use Rattle.hx_refs.specs.Kept.{Kept}
use Rattle.hx_refs.specs.References.{version_entries}
use Rattle.hx_versions.specs.Rows.{first_entries, row_at, use_ways}
use Rattle.hx_refs.proofs.ChangeLemmas.{holds_here, seen_here}
use Rattle.hx_refs.proofs.FilledLemmas.{row_within, seen_from, filled_length}
use Rattle.hx_refs.proofs.ReferenceLemmas.{searched_first}
use Rattle.hx_refs.proofs.kept_references.KeptReferences.find.Goals as goal

pub find-requires-clause-row : goal.find-requires-clause-row
find-requires-clause-row g c =
    row_within c.self.inside.references.items c.self.inside.store c.args.r (rw (← c.self.view_is) at c.requires.r) c.self.invariant

pub find-requires-clause-way : goal.find-requires-clause-way
find-requires-clause-way g c =
    let kept = c.self.inside.references.items in
    let k = c.index-reference.result.now in
    let requires = rw (← c.self.view_is) at c.requires.r in
    let here = holds_here kept c.self.inside.store c.args.r k requires c.index-reference.ensures c.self.invariant in
    let known = rw (← c.self.view_is) at c.requires.known in (
      use_ways k.kept.uses,
      here.searched,
      known _ (seen_here kept c.self.inside.store c.args.r k requires c.index-reference.ensures c.self.invariant),
    )

pub returns-clause-found : goal.returns-clause-found
returns-clause-found g c =
    let kept = c.self.inside.references.items in
    let k = c.index-reference.result.now in
    let requires = rw (← c.self.view_is) at c.requires.r in
    let row = row_at c.self.inside.store c.args.r in
    let v = value_of c.args.sample.now in
    let here = holds_here kept c.self.inside.store c.args.r k requires c.index-reference.ensures c.self.invariant in
    IfOk-weaker c.find.result _ _
    (λ hit found seen is. found
    ∙ ap (λ n. found_entry c.args.by c.args.ci (first_entries n row) v) c.stored_first-number.ensures
    ∙ ap (λ entries. found_entry c.args.by c.args.ci entries v) (searched_first k row here)
    ∙ ap (λ (x : Kept). found_entry c.args.by c.args.ci (version_entries x.shown None) v)
    (sym (seen_from kept c.self.inside.store c.args.r k seen requires c.index-reference.ensures (rw (← c.self.view_is) at is))))
    c.find.ensures.found

pub returns-clause-cost : goal.returns-clause-cost
returns-clause-cost g c seen is =
    let kept = c.self.inside.references.items in
    let k = c.index-reference.result.now in
    let requires = rw (← c.self.view_is) at c.requires.r in
    let row = row_at c.self.inside.store c.args.r in
    let v = value_of c.args.sample.now in
    let here = holds_here kept c.self.inside.store c.args.r k requires c.index-reference.ensures c.self.invariant in
    let same = ap (λ n. search_steps c.args.by c.args.ci (first_entries n row) v) c.stored_first-number.ensures
    ∙ ap (λ entries. search_steps c.args.by c.args.ci entries v) (searched_first k row here)
    ∙ ap (λ (x : Kept). search_steps c.args.by c.args.ci (version_entries x.shown None) v)
    (sym (seen_from kept c.self.inside.store c.args.r k seen requires c.index-reference.ensures (rw (← c.self.view_is) at is))) in
    rw same at c.find.ensures.cost

pub index-reference-requires : goal.index-reference-requires
index-reference-requires g c =
    omega (arith, rw (← c.self.view_is) at c.requires.r, filled_length c.self.inside.references.items c.self.inside.store.rows, c.self.inside.references.ok.0)
