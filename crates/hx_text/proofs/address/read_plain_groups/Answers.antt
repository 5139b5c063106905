use Rattle.std.proofs.Common.{sym}
use Rattle.hx_text.proofs.ColonHexLemmas.{plain_spelled, plain_none}
use Rattle.hx_text.proofs.address.read_plain_groups.Goals as goal

pub returns-in-Ok : goal.returns-in-Ok
returns-in-Ok c =
    rw c.segments.ensures (sym
    (plain_spelled c.args.text.now c.in-Ok.address.segments c.in-Ok.ensures))

pub returns-in-Err : goal.returns-in-Err
returns-in-Err c =
    plain_none c.args.text.now
    (λ groups spelled. c.in-Err.ensures (record { segments = groups }) spelled)
