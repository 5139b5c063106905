use Rattle.std.proofs.Common.{◌≡◌, ◌++◌, flat_map, length}
use Rattle.hx_lint.specs.Variables.{use_told}
use Rattle.hx_lint.proofs.variables.push_conj.Given as goal

abbrev pub invariant-loop-rest : goal.invariant-loop-rest
invariant-loop-rest l =
    l.out.items ++ flat_map (λ term. use_told l.lines l.number term.acl) l.rest
    ≡ l.fn.out.items ++ flat_map (λ term. use_told l.lines l.number term.acl) l.conj

abbrev pub decreases-loop-rest : goal.decreases-loop-rest
decreases-loop-rest l = length l.rest
