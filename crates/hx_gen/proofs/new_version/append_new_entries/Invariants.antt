use Rattle.std.proofs.Common.{◌≡◌, ◌+◌, ◌*◌, ◌<◌, ◌^◌, ◌++◌, [], ◌∷◌}
use Rattle.std.specs.List.{concat}
use Rattle.hx_gen.specs.Numbers.{for_each_to, random_number}
use Rattle.hx_gen.specs.Record.{new_entry}
use Rattle.hx_gen.proofs.new_version.append_new_entries.Given as goal

abbrev pub invariant-loop-before : goal.invariant-loop-before
invariant-loop-before l = record {
  number : l.x ≡ random_number l.size (2 * l.size + l.before);
  within : l.x < 2 ^ 31;
  items : l.text.items ≡ l.fn.text.items ++ concat (for_each_to l.before (λ j. new_entry l.size j ∷ []));
}
