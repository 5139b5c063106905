use Rattle.std.specs.Prelude.{drop}
use Rattle.hx_cases_acls.specs.Uses.{HasConjHeads}
use Rattle.hx_cases_acls.proofs.uses.Filled.has_conj_heads.Given as goal

-- where the heads of those that are left are there, all are
abbrev pub invariant-loop-term : goal.invariant-loop-term
invariant-loop-term l =
    HasConjHeads l.self.refs.content.heads (drop l.term-index l.conj) → HasConjHeads l.self.refs.content.heads l.conj
