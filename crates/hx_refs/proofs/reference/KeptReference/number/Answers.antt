use Rattle.std.proofs.Common.{◌≡◌, Some, ap, subst, sym, ◌∙◌}
use Rattle.hx_refs.specs.Kept.{StoredReference}
use Rattle.hx_refs.specs.Numbers.{HasShortNumbers}
use Rattle.hx_refs.specs.References.{version_place}
use Rattle.hx_refs.specs.Versions.{HasVersion}
use Rattle.hx_refs.proofs.ReferenceLemmas.{has_searched, searched_place}
use Rattle.hx_refs.proofs.reference.KeptReference.number.Goals as goal

pub returns-in-None-clause-place : goal.returns-in-None-clause-place
returns-in-None-clause-place c =
    let shown = c.args.self.now.kept.shown in
    let curr : c.self.inside.curr ≡ shown.curr = ap (λ (b : StoredReference). b.kept.shown.curr) c.self.view_is in
    let short : HasShortNumbers shown = rw (← c.self.view_is) c.self.invariant.short in
    rw c.in-None.is (searched_place shown short ∙ ap (λ n. version_place shown (Some n)) (sym curr))

pub returns-in-None-clause-version : goal.returns-in-None-clause-version
returns-in-None-clause-version c =
    let shown = c.args.self.now.kept.shown in
    let curr : c.self.inside.curr ≡ shown.curr = ap (λ (b : StoredReference). b.kept.shown.curr) c.self.view_is in
    let short : HasShortNumbers shown = rw (← c.self.view_is) c.self.invariant.short in
    subst (HasVersion shown) (sym curr) (has_searched shown short)
