use Rattle.std.proofs.Common.{arith}
use Rattle.std.proofs.lemmas.List.{take_rest}
use Rattle.hx_outside.proofs.PrefixLemmas.{more_appended}
use Rattle.hx_outside.proofs.sink.write_all.Goals as goal

pub pieces-preserved : goal.pieces-preserved
pieces-preserved g c =
    let rest = c.pieces.rest.now in
    let n = c.in_ok-count.count in
    record {
      appended =
          rw take_rest
          (more_appended _ _ _ _ rest n c.pieces.invariant.appended c.in_ok-count.ensures.bytes);
      later = omega arith;
    }
