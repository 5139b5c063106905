use Rattle.std.proofs.Common.{◌≡◌, map, length}
use Rattle.hx_calls.specs.Tables.{entry_at}
use Rattle.hx_calls.proofs.lookup.lookup.Given as goal

abbrev pub invariant-loop-table : goal.invariant-loop-table
invariant-loop-table g l =
    entry_at (map (λ row. (row.0.now, row.1)) l.table) l.name
    ≡ entry_at (map (λ row. (row.0.now, row.1)) l.fn.table) l.name

abbrev pub decreases-loop-table : goal.decreases-loop-table
decreases-loop-table g l = length l.table
