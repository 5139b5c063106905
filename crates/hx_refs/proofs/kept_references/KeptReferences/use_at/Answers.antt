use Rattle.std.proofs.Common.{ap, sym, ◌∙◌, arith}
use Rattle.std.specs.Prelude.{option_map, slice_get}
use Rattle.hx_refs.specs.Uses.{use_parts, uses_in_order}
use Rattle.hx_refs.specs.Kept.{Kept}
use Rattle.hx_refs.proofs.FilledLemmas.{seen_from, filled_length}
use Rattle.hx_refs.proofs.kept_references.KeptReferences.use_at.Goals as goal

pub returns : goal.returns
returns c seen is =
    c.use_at.ensures
    ∙ ap (λ (x : Kept). option_map use_parts (slice_get (uses_in_order x.uses) c.args.place))
    (sym (seen_from c.self.inside.references.items c.self.inside.store c.args.r c.index-reference.result.now seen
    (rw (← c.self.view_is) at c.requires) c.index-reference.ensures (rw (← c.self.view_is) at is)))

pub index-reference-requires : goal.index-reference-requires
index-reference-requires c =
    omega (arith, rw (← c.self.view_is) at c.requires, filled_length c.self.inside.references.items c.self.inside.store.rows, c.self.inside.references.ok.0)
