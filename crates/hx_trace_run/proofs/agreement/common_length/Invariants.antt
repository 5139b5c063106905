use Rattle.std.proofs.Common.{◌≡◌, ◌+◌, length}
use Rattle.hx_trace_run.specs.Comparing.{common_length}
use Rattle.hx_trace_run.proofs.agreement.common_length.Given as goal

abbrev pub invariant-loop-rest : goal.invariant-loop-rest
invariant-loop-rest l = record {
  common : common_length l.rest l.other_rest + l.common ≡ common_length l.fn.text l.fn.other;
  within : l.common + length l.rest ≡ length l.fn.text;
}

abbrev pub decreases-loop-rest : goal.decreases-loop-rest
decreases-loop-rest l = length l.rest
