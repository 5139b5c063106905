use Rattle.std.proofs.Common.{◌≡◌, ◌+◌, ◌-◌, ◌≤◌, length, take}
use Rattle.hx_conv_text.specs.Scanning.{last_end, pieces_left}
use Rattle.hx_conv_text.proofs.pieces.Pieces.end_after.Given as goal

abbrev pub invariant-loop-i : goal.invariant-loop-i
invariant-loop-i l = record {
  left : last_end l.last (take (l.more - l._i) (pieces_left l.self (l.last + 1)))
      ≡ last_end l.end (take l.more (pieces_left l.self (l.end + 1)));
  within : l.last ≤ length l.self.text.now;
  later : l.end ≤ l.last;
}
