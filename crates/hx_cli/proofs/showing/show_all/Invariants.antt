use Rattle.std.proofs.Common.{◌≡◌, length, map}
use Rattle.hx_cli.specs.Effects.{told_references}
use Rattle.hx_cli.proofs.ReplyLemmas.{with_lines}
use Rattle.hx_cli.proofs.showing.show_all.Given as goal

-- with the lines that are left it is the reply
abbrev pub invariant-loop-line : goal.invariant-loop-line
invariant-loop-line l =
    with_lines l.reply (map (λ entry. entry.1) l.lines.entries) ≡ record { code = 0; lines = told_references l.is_map l.refs.content }

abbrev pub decreases-loop-line : goal.decreases-loop-line
decreases-loop-line l = length l.lines.entries
