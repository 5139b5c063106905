use Rattle.std.proofs.Common.{◌≡◌, ◌++◌, false, length}
use Rattle.hx_lint.specs.Report.{lines_told}
use Rattle.hx_lint.proofs.report.push_lines.Given as goal

abbrev pub invariant-loop-rest : goal.invariant-loop-rest
invariant-loop-rest l =
    l.out.items ++ lines_told l.lines l.heads l.above l.fn.anywhere l.rest
    ≡ l.fn.out.items ++ lines_told l.lines l.heads false l.fn.anywhere l.lines

abbrev pub decreases-loop-rest : goal.decreases-loop-rest
decreases-loop-rest l = length l.rest
