use Rattle.hx_rules.proofs.LawLemmas.{ended_rewrite, ends_there, passed_over, refused_laxly, refused_strictly}
use Rattle.hx_rules.specs.declared.verdict.Verdict.TheVariants as verdict
use Rattle.hx_rules.proofs.laws.refused_rewrite_is_an_error_in_strict_mode.Goals as goal

pub returns-clause-strict : goal.returns-clause-strict
returns-clause-strict g c = λ view conn program origin state before rule after at taken refused strict.
    ends_there verdict.Error state at (refused_strictly view conn program.acls rule state taken refused strict)

pub returns-clause-lax : goal.returns-clause-lax
returns-clause-lax g c = λ view conn program origin state before rule after at taken refused lax.
    passed_over at (refused_laxly view conn program.acls rule state taken refused lax)

pub returns-clause-only : goal.returns-clause-only
returns-clause-only g c = λ view conn does state last given is ends.
    ended_rewrite view conn does state last given is ends
