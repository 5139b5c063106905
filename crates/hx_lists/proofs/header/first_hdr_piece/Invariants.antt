use Rattle.std.proofs.Common.{length, ◌-◌, ◌≡◌, ◌≤◌}
use Rattle.hx_lists.specs.HeaderValues.{hdr_pieces, Outside}
use Rattle.hx_lists.specs.HeaderScan.{pieces_at}
use Rattle.hx_lists.proofs.header.first_hdr_piece.Given as goal

abbrev pub invariant-loop-at : goal.invariant-loop-at
invariant-loop-at l = (l.at ≤ length l.line) × (pieces_at Outside l.line l.at ≡ hdr_pieces l.line)

abbrev pub decreases-loop-at : goal.decreases-loop-at
decreases-loop-at l = length l.line - l.at
