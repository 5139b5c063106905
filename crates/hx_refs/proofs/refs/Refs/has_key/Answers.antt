use Rattle.std.proofs.lemmas.List.{length-map}
use Rattle.std.proofs.lemmas.Option.{slice_get-map}
use Rattle.hx_refs.specs.Kept.{Kept}
use Rattle.hx_refs.specs.References.{Reference}
use Rattle.hx_refs.proofs.KeptLemmas.{found_within}
use Rattle.hx_refs.proofs.refs.Refs.has_key.Goals as goal

pub returns : goal.returns
returns c =
    let kept = c.self.inside.kept.kept in
    let within = rw (length-map kept (λ k. k.shown)) at (rw (← c.self.view_is) at c.requires) in
    let found = found_within kept c.args.r within in
    rw (← c.self.view_is)
    (rw (slice_get-map {A = Kept} {B = Reference} (λ k. k.shown) kept c.args.r, found.1) ((c.has_chosen.ensures found.0 found.1)))

pub has_chosen-requires : goal.has_chosen-requires
has_chosen-requires c = rw (length-map c.self.inside.kept.kept (λ k. k.shown)) at (rw (← c.self.view_is) at c.requires)
