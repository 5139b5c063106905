use Rattle.std.proofs.Common.{◌≡◌, ◌<◌, ◌^◌}
use Rattle.hx_gen.specs.Numbers.{random_number}
use Rattle.hx_gen.proofs.numbers.random_number.Given as goal

abbrev pub invariant-loop-step : goal.invariant-loop-step
invariant-loop-step l = record {
  number : l.x ≡ random_number l.first l._step;
  within : l.x < 2 ^ 31;
}
