use Rattle.std.proofs.Common.{◌≡◌, ◌++◌, map, length}
use Rattle.hx_lint.specs.Topics.{context_view}
use Rattle.hx_lint.specs.Report.{rows_told}
use Rattle.hx_lint.proofs.report.push_rows.Given as goal

abbrev pub invariant-loop-rest : goal.invariant-loop-rest
invariant-loop-rest l =
    l.out.items ++ rows_told (context_view l.fn.context) l.fn.number l.words l.statement (map (λ row. (row.0, row.1.now)) l.rest)
    ≡ l.fn.out.items ++ rows_told (context_view l.fn.context) l.fn.number l.words l.statement (map (λ row. (row.0, row.1.now)) l.rows)

abbrev pub decreases-loop-rest : goal.decreases-loop-rest
decreases-loop-rest l = length l.rest
