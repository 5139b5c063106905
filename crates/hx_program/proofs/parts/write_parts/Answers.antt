use Rattle.std.proofs.Common.{[], take, drop, ◌+◌}
use Rattle.hx_program.specs.Parts.{all_of}
use Rattle.hx_program.proofs.PartsLemmas.{around_part}
use Rattle.hx_program.proofs.parts.write_parts.Goals as goal

pub returns-in_err-write_all-clause-prefix : goal.returns-in_err-write_all-clause-prefix
returns-in_err-write_all-clause-prefix g c =
    let parts = c.args.parts.now in
    let i = c.loop-part.part-index in
    c.write_all.ensures.stays_front (g.K.Sink.written c.args.out.now) (all_of (take i parts)) (all_of (drop (i + 1) parts)) (all_of parts)
    c.loop-part.invariant.appended (around_part parts i (record { ref_ptr = (0, 0); now = [] }) c.loop-part-test.true)
