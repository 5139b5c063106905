use Rattle.std.proofs.Common.{◌≡◌, ◌+◌, ◌<◌, ◌^◌}
use Rattle.std.specs.List.{concat}
use Rattle.hx_gen.specs.Numbers.{for_each_to, random_number}
use Rattle.hx_gen.specs.Record.{step_events}
use Rattle.hx_gen.proofs.record.record_text.Given as goal

abbrev pub invariant-loop-before : goal.invariant-loop-before
invariant-loop-before l = record {
  number : l.y ≡ random_number l.size (l.size + l.before);
  within : l.y < 2 ^ 31;
  items : l.text.items ≡ concat (for_each_to l.before (step_events l.size));
}
