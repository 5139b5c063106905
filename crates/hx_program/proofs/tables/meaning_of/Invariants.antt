use Rattle.std.proofs.Common.{◌≡◌, map, length}
use Rattle.hx_program.specs.Tables.{meaning_of}
use Rattle.hx_program.proofs.tables.meaning_of.Given as goal

abbrev pub invariant-loop-rows : goal.invariant-loop-rows
invariant-loop-rows l =
    meaning_of (map (λ row. (row.0.now, row.1.now, row.2.now)) l.rows) l.code
    ≡ meaning_of (map (λ row. (row.0.now, row.1.now, row.2.now)) l.fn.rows) l.code

abbrev pub decreases-loop-rows : goal.decreases-loop-rows
decreases-loop-rows l = length l.rows
