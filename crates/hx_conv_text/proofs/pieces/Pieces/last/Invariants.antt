use Rattle.std.proofs.Common.{◌+◌, ◌-◌, ◌≤◌, length}
use Rattle.hx_conv_text.specs.Scanning.{pieces_left}
use Rattle.hx_conv_text.proofs.PieceLemmas.{IsComeTo}
use Rattle.hx_conv_text.proofs.pieces.Pieces.last.Given as goal

abbrev pub invariant-loop-span : goal.invariant-loop-span
invariant-loop-span l =
    (l.last.0 ≤ l.last.1) × (l.last.1 ≤ length l.self.text.now)
    × IsComeTo (pieces_left l.self 0) l.last (pieces_left l.self (l.last.1 + 1))

abbrev pub decreases-loop-span : goal.decreases-loop-span
decreases-loop-span l = length l.self.text.now - l.last.1
