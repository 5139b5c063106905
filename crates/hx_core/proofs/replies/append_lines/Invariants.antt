use Rattle.std.proofs.Common.{◌≡◌, ◌++◌, take}
use Rattle.std.specs.List.{flat_map}
use Rattle.hx_core.specs.Answers.{told_line}
use Rattle.hx_core.proofs.replies.append_lines.Given as goal

abbrev pub invariant-loop-at : goal.invariant-loop-at
invariant-loop-at l = l.bytes.items ≡ l.fn.bytes.items ++ flat_map (told_line l.session) (take l.at l.reply.lines)
