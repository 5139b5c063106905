use Rattle.std.proofs.Common.{◌≡◌, drop}
use Rattle.std.specs.Option.{option_copied}
use Rattle.hx_fetch.specs.Views.{lines_under}
use Rattle.hx_fetch.proofs.lines.next_line.Given as goal

abbrev pub invariant-loop-at : goal.invariant-loop-at
invariant-loop-at l =
    lines_under (option_copied l.name) (drop l.at l.message.headers) ≡ lines_under (option_copied l.name) (drop l.fn.start l.message.headers)
