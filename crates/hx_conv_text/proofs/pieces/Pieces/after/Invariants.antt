use Rattle.std.proofs.Common.{◌≡◌, drop}
use Rattle.hx_conv_text.specs.Scanning.{pieces_left}
use Rattle.hx_conv_text.proofs.pieces.Pieces.after.Given as goal

abbrev pub invariant-loop-i : goal.invariant-loop-i
invariant-loop-i l = pieces_left l.self l.at ≡ drop l._i (pieces_left l.self 0)
