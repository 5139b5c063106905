use Rattle.std.proofs.Common.{◌≡◌, ◌++◌, drop}
use Rattle.hx_diff.specs.RowsView.{rows_of}
use Rattle.hx_diff.specs.Verdicts.{rows_text}
use Rattle.hx_diff.proofs.rows.append_entries.Given as goal

abbrev pub invariant-loop-at : goal.invariant-loop-at
invariant-loop-at l =
    l.text.items ++ rows_text (rows_of (drop l.at l.counts.entries))
    ≡ l.fn.text.items ++ rows_text (rows_of l.counts.entries)
