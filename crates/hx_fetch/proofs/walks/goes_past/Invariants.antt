use Rattle.std.proofs.Common.{◌≡◌, ◌≤◌, length, drop}
use Rattle.hx_fetch.proofs.walks.goes_past.Given as goal

abbrev pub invariant-loop-passed : goal.invariant-loop-passed
invariant-loop-passed l =
    record { rest : l.texts ≡ drop l._passed l.fn.texts; within : l._passed ≤ length l.fn.texts }
