use Rattle.std.proofs.Common.{arith}
use Rattle.hx_conv_val.proofs.HexLemmas.{has_room}
use Rattle.hx_conv_val.proofs.hex_number.digits_value.Goals as goal

pub overflow_mul-value : goal.overflow_mul-value
overflow_mul-value c =
    let room = has_room _ _ c.loop-i.invariant.within (omega arith) in
    record { fits = omega (arith, room) }

pub overflow_add-value : goal.overflow_add-value
overflow_add-value c =
    let room = has_room _ _ c.loop-i.invariant.within (omega arith) in
    record { fits = omega (arith, room, c.digit_value.ensures.within) }
