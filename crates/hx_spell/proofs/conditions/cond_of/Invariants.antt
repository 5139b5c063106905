use Rattle.std.proofs.Common.{◌≡◌, length}
use Rattle.hx_spell.specs.Conditions.{cond_from, no_terms}
use Rattle.hx_calls.specs.Known.{Extends}
use Rattle.hx_spell.specs.ConditionView.{terms_of}
use Rattle.hx_spell.proofs.conditions.cond_of.Given as goal

abbrev pub invariant-loop-rest : goal.invariant-loop-rest
invariant-loop-rest l =
    (cond_from l.line l.rest (terms_of l.terms) l.known
    ≡ cond_from l.line l.words no_terms l.fn.known)
    × Extends l.fn.known l.known

abbrev pub decreases-loop-rest : goal.decreases-loop-rest
decreases-loop-rest l = length l.rest
