use Rattle.std.proofs.Common.{◌≡◌, ◌++◌, flat_map, length}
use Rattle.hx_lint.specs.Variables.{conv_told}
use Rattle.hx_lint.proofs.variables.push_convs.Given as goal

abbrev pub invariant-loop-rest : goal.invariant-loop-rest
invariant-loop-rest l =
    l.out.items ++ flat_map (conv_told l.lines l.number) l.rest
    ≡ l.fn.out.items ++ flat_map (conv_told l.lines l.number) l.convs

abbrev pub decreases-loop-rest : goal.decreases-loop-rest
decreases-loop-rest l = length l.rest
