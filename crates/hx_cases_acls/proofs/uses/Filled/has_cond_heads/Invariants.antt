use Rattle.std.specs.Prelude.{drop}
use Rattle.hx_cases_acls.specs.Uses.{HaveConjHeads}
use Rattle.hx_cases_acls.proofs.uses.Filled.has_cond_heads.Given as goal

-- where the heads of those that are left are there, all are
abbrev pub invariant-loop-conj : goal.invariant-loop-conj
invariant-loop-conj l =
    HaveConjHeads l.self.refs.content.heads (drop l.conj-index l.cond) → HaveConjHeads l.self.refs.content.heads l.cond
