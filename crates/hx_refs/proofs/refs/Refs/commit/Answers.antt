use Rattle.std.proofs.Common.{ap, refl, sym, ◌∙◌}
use Rattle.std.proofs.lemmas.List.{length-map}
use Rattle.std.proofs.lemmas.Option.{slice_get-map}
use Rattle.hx_refs.specs.Kept.{table_heads, Kept}
use Rattle.hx_refs.specs.References.{Reference}
use Rattle.hx_refs.proofs.KeptLemmas.{found_within}
use Rattle.std.proofs.lemmas.Result.{on_ok_weaker}
use Rattle.hx_refs.specs.Changes.{answer, commit_fault, with_current_version}
use Rattle.hx_refs.proofs.KeptLemmas.{fault_shown}
use Rattle.hx_refs.proofs.KeptLemmas.{content_after, kept_after_answer}
use Rattle.hx_refs.proofs.refs.Refs.commit.Goals as goal

pub invariant_of-self : goal.invariant_of-self
invariant_of-self g c = record {
  all = kept_after_answer c.commit.result (table_heads c.self.inside.heads.items) c.self.inside.kept c.commit.new.self c.args.r (with_current_version c.args.ver) (λ x. (refl, refl))
      c.commit.ensures.ok c.commit.ensures.err c.self.invariant.all;
  placed = c.self.invariant.placed;
}

pub returns-clause-ok : goal.returns-clause-ok
returns-clause-ok g c =
    rw (← c.self.view_is)
    (on_ok_weaker c.commit.result
    (content_after c.self.inside.limits c.self.inside.first (table_heads c.self.inside.heads.items) c.self.inside.kept.kept c.commit.new.self.kept c.args.r (with_current_version c.args.ver))
    c.commit.ensures.ok)

pub returns-clause-answer : goal.returns-clause-answer
returns-clause-answer g c =
    rw (← c.self.view_is)
    (c.commit.ensures.answer
    ∙ ap (answer tt) (sym (fault_shown c.self.inside.limits c.self.inside.first (table_heads c.self.inside.heads.items) c.self.inside.kept.kept c.args.r (commit_fault c.args.ver))))

pub returns-clause-cost : goal.returns-clause-cost
returns-clause-cost g c =
    let kept = c.self.inside.kept.kept in
    let within = rw (length-map kept (λ k. k.shown)) at (rw (← c.self.view_is) at c.requires) in
    let found = found_within kept c.args.r within in
    rw (← c.self.view_is)
    (rw (slice_get-map {A = Kept} {B = Reference} (λ k. k.shown) kept c.args.r, found.1) (c.commit.ensures.cost found.0 found.1))

pub commit-requires : goal.commit-requires
commit-requires g c = rw (length-map c.self.inside.kept.kept (λ k. k.shown)) at (rw (← c.self.view_is) at c.requires)
