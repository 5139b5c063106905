use Rattle.std.proofs.Common.{length, ◌-◌, ◌≡◌, ◌≤◌}
use Rattle.hx_lists.specs.HeaderValues.{Outside}
use Rattle.hx_lists.specs.HeaderScan.{pieces_at}
use Rattle.hx_lists.proofs.header.next_mark.Given as goal

abbrev pub invariant-loop-at : goal.invariant-loop-at
invariant-loop-at l =
    (l.start ≤ l.at) × (l.at ≤ length l.line)
    × (pieces_at Outside l.line l.at ≡ pieces_at Outside l.line l.start)

abbrev pub decreases-loop-at : goal.decreases-loop-at
decreases-loop-at l = length l.line - l.at

abbrev pub invariant-loop-at-2 : goal.invariant-loop-at-2
invariant-loop-at-2 l =
    (l.start ≤ l.at) × (l.at ≤ length l.line)
    × (pieces_at Outside l.line l.at ≡ pieces_at Outside l.line l.start)

abbrev pub decreases-loop-at-2 : goal.decreases-loop-at-2
decreases-loop-at-2 l = length l.line - l.at
