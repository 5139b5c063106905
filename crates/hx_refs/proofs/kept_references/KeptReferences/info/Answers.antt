use Rattle.std.proofs.Common.{ℕ, ap, sym, ◌∙◌, arith}
use Rattle.hx_refs.specs.declared.info.RefInfo.{RefInfo}
use Rattle.hx_refs.specs.Kept.{Kept}
use Rattle.hx_refs.specs.References.{info_of}
use Rattle.hx_versions.specs.Rows.{row_at}
use Rattle.hx_refs.proofs.ChangeLemmas.{holds_here}
use Rattle.hx_refs.proofs.FilledLemmas.{row_within, seen_from, filled_length}
use Rattle.hx_refs.proofs.ReferenceLemmas.{count_shown}
use Rattle.hx_refs.proofs.kept_references.KeptReferences.info.Goals as goal

pub total_count-count-requires-clause-row : goal.total_count-count-requires-clause-row
total_count-count-requires-clause-row c =
    row_within c.self.inside.references.items c.self.inside.store c.args.r (rw (← c.self.view_is) at c.requires) c.self.invariant

pub returns : goal.returns
returns c seen is =
    let kept = c.self.inside.references.items in
    let k = c.index-reference.result.now in
    let requires = rw (← c.self.view_is) at c.requires in
    let here = holds_here kept c.self.inside.store c.args.r k requires c.index-reference.ensures c.self.invariant in
    let told : ℕ → RefInfo = λ n. record {
      id = k.kept.shown.id;
      two_column = k.kept.shown.two_column;
      acl = k.kept.shown.acl;
      curr = k.kept.shown.curr;
      next = k.kept.shown.next;
      count = n;
    } in
    c.info.ensures
    ∙ ap told (c.total_count-count.ensures ∙ sym (count_shown k (row_at c.self.inside.store c.args.r) here))
    ∙ ap (λ (x : Kept). info_of x.shown)
    (sym (seen_from kept c.self.inside.store c.args.r k seen requires c.index-reference.ensures (rw (← c.self.view_is) at is)))

pub index-reference-requires : goal.index-reference-requires
index-reference-requires c =
    omega (arith, rw (← c.self.view_is) at c.requires, filled_length c.self.inside.references.items c.self.inside.store.rows, c.self.inside.references.ok.0)
