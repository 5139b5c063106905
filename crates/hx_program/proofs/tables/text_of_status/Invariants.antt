use Rattle.std.proofs.Common.{◌≡◌, map, length}
use Rattle.hx_program.specs.Tables.{status_text}
use Rattle.hx_program.proofs.tables.text_of_status.Given as goal

abbrev pub invariant-loop-rows : goal.invariant-loop-rows
invariant-loop-rows l =
    status_text l.other (map (λ row. (row.0, row.1.now)) l.rows) l.status
    ≡ status_text l.other (map (λ row. (row.0, row.1.now)) l.fn.rows) l.status

abbrev pub decreases-loop-rows : goal.decreases-loop-rows
decreases-loop-rows l = length l.rows
