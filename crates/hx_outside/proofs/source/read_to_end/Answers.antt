use Rattle.std.proofs.Common.{arith, length-append}
use Rattle.std.proofs.lemmas.List.{length-take-le}
use Rattle.hx_outside.proofs.PrefixLemmas.{took_more}
use Rattle.hx_outside.proofs.source.read_to_end.Goals as goal

pub returns-then-count-room-clause-too_long : goal.returns-then-count-room-clause-too_long
returns-then-count-room-clause-too_long g c _ =
    took_more _ _ _ _ _ _ c.pieces.invariant.consumed c.in_ok-count.ensures.bytes.0
    (grind (arith, length-append, length-take-le))

pub returns-then-count-room-clause-prefix : goal.returns-then-count-room-clause-prefix
returns-then-count-room-clause-prefix g c =
    took_more _ _ _ _ _ _ c.pieces.invariant.consumed c.in_ok-count.ensures.bytes.0
    (grind (arith, length-append, length-take-le))

pub returns-in_err-extend_from_slice-clause-prefix :
    goal.returns-in_err-extend_from_slice-clause-prefix
returns-in_err-extend_from_slice-clause-prefix g c =
    took_more _ _ _ _ _ _ c.pieces.invariant.consumed c.in_ok-count.ensures.bytes.0
    (grind (arith, length-append, length-take-le))
