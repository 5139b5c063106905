use Rattle.std.proofs.Common.{refl}
use Rattle.std.proofs.lemmas.List.{length-map}
use Rattle.std.proofs.lemmas.Option.{slice_get-map}
use Rattle.hx_refs.specs.Kept.{table_heads, Kept}
use Rattle.hx_refs.specs.References.{Reference}
use Rattle.hx_refs.proofs.KeptLemmas.{found_within}
use Rattle.std.proofs.lemmas.Result.{on_ok_weaker}
use Rattle.hx_refs.specs.Changes.{with_new_version}
use Rattle.hx_refs.proofs.KeptLemmas.{content_after, kept_after_answer}
use Rattle.hx_refs.proofs.refs.Refs.prepare.Goals as goal

pub invariant_of-self : goal.invariant_of-self
invariant_of-self c = record {
  all = kept_after_answer c.prepare.result (table_heads c.self.inside.heads.items) c.self.inside.kept c.prepare.new.self c.args.r with_new_version (λ x. (refl, refl))
      c.prepare.ensures.ok c.prepare.ensures.err c.self.invariant.all;
  placed = c.self.invariant.placed;
}

pub returns-clause-ok : goal.returns-clause-ok
returns-clause-ok c =
    rw (← c.self.view_is)
    (on_ok_weaker c.prepare.result
    (content_after c.self.inside.limits c.self.inside.first (table_heads c.self.inside.heads.items) c.self.inside.kept.kept c.prepare.new.self.kept c.args.r with_new_version)
    c.prepare.ensures.ok)

pub returns-clause-answer : goal.returns-clause-answer
returns-clause-answer c =
    let kept = c.self.inside.kept.kept in
    let within = rw (length-map kept (λ k. k.shown)) at (rw (← c.self.view_is) at c.requires) in
    let found = found_within kept c.args.r within in
    rw (← c.self.view_is)
    (rw (slice_get-map {A = Kept} {B = Reference} (λ k. k.shown) kept c.args.r, found.1) (c.prepare.ensures.answer found.0 found.1))

pub prepare-requires : goal.prepare-requires
prepare-requires c = rw (length-map c.self.inside.kept.kept (λ k. k.shown)) at (rw (← c.self.view_is) at c.requires)
