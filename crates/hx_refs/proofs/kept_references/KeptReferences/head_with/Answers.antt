use Rattle.std.proofs.Common.{ap, sym, ◌∙◌, arith}
use Rattle.std.specs.Prelude.{option_map}
use Rattle.hx_refs.specs.Uses.{use_with}
use Rattle.hx_refs.specs.Kept.{Kept}
use Rattle.hx_refs.proofs.FilledLemmas.{seen_from, filled_length}
use Rattle.hx_refs.proofs.kept_references.KeptReferences.head_with.Goals as goal

pub returns : goal.returns
returns c seen is =
    c.head_with.ensures
    ∙ ap (λ (x : Kept). option_map (λ u. u.head) (use_with c.args.by c.args.ci x.uses))
    (sym (seen_from c.self.inside.references.items c.self.inside.store c.args.r c.index-reference.result.now seen
    (rw (← c.self.view_is) at c.requires) c.index-reference.ensures (rw (← c.self.view_is) at is)))

pub index-reference-requires : goal.index-reference-requires
index-reference-requires c =
    omega (arith, rw (← c.self.view_is) at c.requires, filled_length c.self.inside.references.items c.self.inside.store.rows, c.self.inside.references.ok.0)
