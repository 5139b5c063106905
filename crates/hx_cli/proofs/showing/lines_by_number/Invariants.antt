use Rattle.std.proofs.Common.{◌≡◌, drop}
use Rattle.hx_cli.proofs.ReferenceLineLemmas.{numbered_lines}
use Rattle.hx_cli.proofs.showing.lines_by_number.Given as goal

-- the lines are those of the references from a position on
abbrev pub invariant-loop-r : goal.invariant-loop-r
invariant-loop-r l = l.lines.entries ≡ numbered_lines l.is_map (drop l.r l.refs.content.references)
