use Rattle.std.proofs.Common.{◌≡◌, ◌+◌, length}
use Rattle.hx_config.specs.Accounts.{test_length}
use Rattle.hx_config.proofs.accounts.test_length.Given as goal

abbrev pub invariant-loop-rest : goal.invariant-loop-rest
invariant-loop-rest l = record {
  counted : l.count + test_length l.rest ≡ test_length l.after;
  within : l.count + length l.rest ≡ length l.after;
}

abbrev pub decreases-loop-rest : goal.decreases-loop-rest
decreases-loop-rest l = length l.rest
