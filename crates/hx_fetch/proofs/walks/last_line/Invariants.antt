use Rattle.std.proofs.Common.{◌≡◌, ◌≤◌, [], drop, length}
use Rattle.std.specs.Option.{option_copied}
use Rattle.hx_fetch.specs.Views.{lines_under}
use Rattle.hx_fetch.proofs.walks.last_line.Given as goal

abbrev pub invariant-loop-left : goal.invariant-loop-left
invariant-loop-left l =
    (lines_under (option_copied l.name) (drop l.left l.message.headers) ≡ []) × (l.left ≤ length l.message.headers)

abbrev pub decreases-loop-left : goal.decreases-loop-left
decreases-loop-left l = l.left
