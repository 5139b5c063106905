use Rattle.std.proofs.Common.{◌++◌, ◌∷◌, [], ap, sym, ◌∙◌, arith}
use Rattle.std.proofs.lemmas.Result.{on_err_weaker, on_ok_weaker}
use Rattle.std.specs.Prelude.{slice_set}
use Rattle.hx_refs.specs.Kept.{all_filled, with_use, Kept}
use Rattle.hx_versions.specs.Rows.{row_at}
use Rattle.hx_refs.proofs.ChangeLemmas.{either, holds_here, seen_here}
use Rattle.hx_refs.proofs.FilledLemmas.{kept_at, kept_filled, kept_set, row_within, seen_from, filled_length, kept_same, state_of}
use Rattle.hx_refs.proofs.ReferenceLemmas.{filled_unused}
use Rattle.hx_refs.proofs.kept_references.KeptReferences.push_use.Goals as goal

pub invariant_of-self : goal.invariant_of-self
invariant_of-self c =
    let kept = c.self.inside.references.items in
    let store = c.self.inside.store in
    let k = c.index_mut-reference.result.now in
    let requires = rw (← c.self.view_is) at c.requires.r in
    let found = kept_at kept store.rows c.args.r k requires c.index_mut-reference.ensures.value in
    let here = holds_here kept store c.args.r k requires c.index_mut-reference.ensures.value c.self.invariant in
    let empty = (rw (← c.self.view_is) at c.requires.empty) _ (seen_here kept store c.args.r k requires c.index_mut-reference.ensures.value c.self.invariant) in
    either c.push_use.result
    (λ same. rw same
    (kept_filled kept store c.args.r k found (row_within kept store c.args.r requires c.self.invariant) c.self.invariant
    (with_use c.args.by c.args.ci c.args.head k)
    (filled_unused c.args.by c.args.ci c.args.head k (row_at store c.args.r) here empty)))
    (λ same. rw (kept_same kept c.args.r k _ found same) c.self.invariant)
    c.push_use.ensures.ok c.push_use.ensures.err

pub returns-clause-ok : goal.returns-clause-ok
returns-clause-ok c =
    let kept = c.self.inside.references.items in
    let store = c.self.inside.store in
    let k = c.index_mut-reference.result.now in
    let requires = rw (← c.self.view_is) at c.requires.r in
    let found = kept_at kept store.rows c.args.r k requires c.index_mut-reference.ensures.value in
    rw (← c.self.view_is)
    (on_ok_weaker c.push_use.result
    (λ same seen is. rw same
    (kept_set kept store c.args.r k found (row_within kept store c.args.r requires c.self.invariant) c.self.invariant (with_use c.args.by c.args.ci c.args.head k)
    ∙ ap (λ (x : Kept). slice_set (all_filled kept store.rows) c.args.r (record x { uses = x.uses ++ record { by = c.args.by; ci = c.args.ci; head = c.args.head } ∷ [] }))
    (sym (seen_from kept store c.args.r k seen requires c.index_mut-reference.ensures.value is))))
    c.push_use.ensures.ok)

pub returns-clause-err : goal.returns-clause-err
returns-clause-err c =
    let kept = c.self.inside.references.items in
    let store = c.self.inside.store in
    let k = c.index_mut-reference.result.now in
    let requires = rw (← c.self.view_is) at c.requires.r in
    let found = kept_at kept store.rows c.args.r k requires c.index_mut-reference.ensures.value in
    rw (← c.self.view_is)
    (on_err_weaker c.push_use.result
    (λ same. ap (λ xs. state_of xs store) (kept_same kept c.args.r k _ found same))
    c.push_use.ensures.err)

pub index_mut-reference-requires : goal.index_mut-reference-requires
index_mut-reference-requires c =
    omega (arith, rw (← c.self.view_is) at c.requires.r, filled_length c.self.inside.references.items c.self.inside.store.rows, c.self.inside.references.ok.0)
