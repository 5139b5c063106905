use Rattle.std.proofs.Common.{◌++◌, ◌∷◌, [], ap, refl, ◌∙◌}
use Rattle.std.specs.Option.{option_copied}
use Rattle.hx_refs.specs.Kept.{all_filled, StoredReference, Kept}
use Rattle.hx_refs.specs.References.{new_reference}
use Rattle.hx_versions.specs.Rows.{StoreView}
use Rattle.hx_refs.proofs.FilledLemmas.{filled_more, filled_with_new}
use Rattle.hx_refs.proofs.ReferenceLemmas.{filled_new, new_shown}
use Rattle.hx_refs.proofs.kept_references.KeptReferences.push.Goals as goal

pub invariant_of-self : goal.invariant_of-self
invariant_of-self c = rw c.reserve.ensures.items c.self.invariant

pub invariant_of-self-2 : goal.invariant_of-self-2
invariant_of-self-2 c =
    rw (c.push_reserved.ensures.items, c.reserve.ensures.items, c.in_ok-reference.ensures)
    (filled_with_new c.self.inside.references.items c.self.inside.store c.push_row.new.self _ c.self.invariant
    (ap (λ (s : StoreView). s.rows) c.in_ok-push_row.ensures.ok) (filled_new _ (c.ranges.first.fits, c.ranges.first.fits)))

pub returns-clause-ok : goal.returns-clause-ok
returns-clause-ok c =
    let new : StoredReference = record {
      kept = record {
        shown = record (new_reference c.args.first c.args.id (option_copied c.args.file) c.args.two_column c.args.acl) { versions = [] };
        uses = [];
      };
      stored_first = c.args.first;
    } in
    rw (← c.self.view_is)
    (rw (c.push_reserved.ensures.items, c.reserve.ensures.items, c.in_ok-reference.ensures, c.in_ok-push_row.ensures.ok)
    (filled_more c.self.inside.references.items c.self.inside.store.rows new c.self.invariant.count
    ∙ ap (λ (k : Kept). all_filled c.self.inside.references.items c.self.inside.store.rows ++ k ∷ []) (new_shown new refl)))
