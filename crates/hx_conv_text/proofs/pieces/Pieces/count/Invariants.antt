use Rattle.std.proofs.Common.{◌≡◌, ◌+◌, ◌-◌, ◌≤◌, length}
use Rattle.hx_conv_text.specs.Scanning.{pieces_left}
use Rattle.hx_conv_text.proofs.pieces.Pieces.count.Given as goal

abbrev pub invariant-loop-span : goal.invariant-loop-span
invariant-loop-span l = record {
  left : l.count + length (pieces_left l.self l.at) ≡ length (pieces_left l.self 0);
  within : l.count ≤ l.at;
  ends : l.at ≤ length l.self.text.now + 1;
}

abbrev pub decreases-loop-span : goal.decreases-loop-span
decreases-loop-span l = length l.self.text.now + 1 - l.at
