use Rattle.std.proofs.Common.{◌≡◌, ◌<◌, ◌^◌}
use Rattle.hx_gen.specs.Files.{entry_line}
use Rattle.hx_gen.specs.Numbers.{for_each_to, random_number}
use Rattle.hx_gen.proofs.files.paths_text.Given as goal

abbrev pub invariant-loop-before : goal.invariant-loop-before
invariant-loop-before l = record {
  number : l.x ≡ random_number l.size l.before;
  within : l.x < 2 ^ 31;
  items : l.text.items ≡ for_each_to l.before (entry_line l.size);
}
