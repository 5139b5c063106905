use Rattle.std.proofs.Common.{◌≡◌, ◌+◌, ◌≤◌, length, drop}
use Rattle.std.specs.Net.Text.{zero_run, longest_zero_run}
use Rattle.hx_text.proofs.printing.longest_zero_run.Given as goal

-- the groups from `at` on have this longest run, and begin with so many zeros
abbrev pub invariant-loop-at : goal.invariant-loop-at
invariant-loop-at l =
    (l.at ≤ length l.groups)
    × (l.start ≡ (longest_zero_run (drop l.at l.groups)).0 + l.at)
    × (l.len ≡ (longest_zero_run (drop l.at l.groups)).1)
    × (l.run ≡ zero_run (drop l.at l.groups))
    × (l.start + l.len ≤ length l.groups)
    × (l.at + l.run ≤ length l.groups)

abbrev pub decreases-loop-at : goal.decreases-loop-at
decreases-loop-at l = l.at
