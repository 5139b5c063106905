use Rattle.std.proofs.Common.{length, ◌-◌, ◌+◌, ◌≡◌, ◌≤◌}
use Rattle.hx_lists.specs.HeaderValues.{Quoted}
use Rattle.hx_lists.specs.HeaderScan.{pieces_at}
use Rattle.hx_lists.proofs.header.string_end.Given as goal

abbrev pub invariant-loop-at : goal.invariant-loop-at
invariant-loop-at l =
    (l.start ≤ l.at) × (l.at ≤ length l.line + 1)
    × (pieces_at Quoted l.line l.at ≡ pieces_at Quoted l.line l.start)

abbrev pub decreases-loop-at : goal.decreases-loop-at
decreases-loop-at l = length l.line - l.at
