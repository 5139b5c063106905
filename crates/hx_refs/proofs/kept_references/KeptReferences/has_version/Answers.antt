use Rattle.std.proofs.Common.{ap, sym, ◌∙◌, arith}
use Rattle.std.specs.Prelude.{is_some}
use Rattle.hx_refs.specs.Kept.{Kept}
use Rattle.hx_refs.specs.References.{version_place}
use Rattle.hx_refs.proofs.ChangeLemmas.{place_known}
use Rattle.hx_refs.proofs.FilledLemmas.{seen_from, filled_length}
use Rattle.hx_refs.proofs.kept_references.KeptReferences.has_version.Goals as goal

pub returns : goal.returns
returns c seen is =
    let k = c.index-reference.result.now in
    c.is_some.ensures
    ∙ place_known k.kept.shown c.args.ver c.number.result c.number.ensures.none c.number.ensures.place c.number.ensures.version
    ∙ ap (λ (x : Kept). is_some (version_place x.shown c.args.ver))
    (sym (seen_from c.self.inside.references.items c.self.inside.store c.args.r k seen
    (rw (← c.self.view_is) at c.requires) c.index-reference.ensures (rw (← c.self.view_is) at is)))

pub index-reference-requires : goal.index-reference-requires
index-reference-requires c =
    omega (arith, rw (← c.self.view_is) at c.requires, filled_length c.self.inside.references.items c.self.inside.store.rows, c.self.inside.references.ok.0)
