use Rattle.std.proofs.Common.{refl, arith}
use Rattle.hx_refs.specs.References.{with_output, Reference}
use Rattle.hx_versions.specs.Rows.{row_at}
use Rattle.hx_refs.proofs.ChangeLemmas.{holds_here}
use Rattle.hx_refs.proofs.FilledLemmas.{kept_at, kept_changed, kept_filled, row_within, filled_length}
use Rattle.hx_refs.specs.Kept.{with_out}
use Rattle.hx_refs.proofs.ReferenceLemmas.{filled_read}
use Rattle.hx_refs.proofs.kept_references.KeptReferences.add_out.Goals as goal

pub invariant_of-self : goal.invariant_of-self
invariant_of-self c =
    let kept = c.self.inside.references.items in
    let store = c.self.inside.store in
    let k = c.index_mut-reference.result.now in
    let requires = rw (← c.self.view_is) at c.requires in
    let found = kept_at kept store.rows c.args.r k requires c.index_mut-reference.ensures.value in
    let here = holds_here kept store c.args.r k requires c.index_mut-reference.ensures.value c.self.invariant in
    rw c.add_out.ensures
    (kept_filled kept store c.args.r k found (row_within kept store c.args.r requires c.self.invariant) c.self.invariant
    (with_out c.args.out k) (filled_read c.args.out k (row_at store c.args.r) here))

pub returns : goal.returns
returns c =
    let kept = c.self.inside.references.items in
    let store = c.self.inside.store in
    let k = c.index_mut-reference.result.now in
    let requires = rw (← c.self.view_is) at c.requires in
    let found = kept_at kept store.rows c.args.r k requires c.index_mut-reference.ensures.value in
    rw (← c.self.view_is)
    (rw c.add_out.ensures
    (kept_changed kept store c.args.r k found (row_within kept store c.args.r requires c.self.invariant) c.self.invariant
    (with_out c.args.out k) (λ (old : Reference). record old { outputs = with_output c.args.out old.outputs }) refl))

pub index_mut-reference-requires : goal.index_mut-reference-requires
index_mut-reference-requires c =
    omega (arith, rw (← c.self.view_is) at c.requires, filled_length c.self.inside.references.items c.self.inside.store.rows, c.self.inside.references.ok.0)
