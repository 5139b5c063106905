-- How the code keeps a list of occurrences: the first as it is, then texts of one kind, then
-- others.
use Rattle.std.specs.Prelude.{ℕ, List, ◌++◌, map, Option}
use Rattle.std.specs.Borrow.{Bor}
use Rattle.std.specs.Option.{option_to_list}
use Rattle.hx_text.specs.declared.kinds.Kind.{Kind}
use Rattle.hx_sample.specs.declared.sample.Sample.{Sample}
use Rattle.hx_sample.specs.declared.sample.Value.{Value}
use Rattle.hx_sample.specs.declared.sample.Value.TheVariants as value
use Rattle.hx_sample.specs.Cast.{cast_of}
use Rattle.hx_sample.specs.Seen.{occurrence_values}

-- lent texts as values of a kind, each an occurrence
abbrev pub lent_occurrences : Kind → List (Bor (List ℕ)) → List (Option Value)
lent_occurrences kind texts = map (λ text. cast_of (value.Str text.now) kind) texts

abbrev pub listed_occurrences
    : Option (Option Sample) → Kind → List (Bor (List ℕ)) → List (Option Sample)
    → List (Option Value)
listed_occurrences first kind texts others =
    occurrence_values (option_to_list first)
    ++ (lent_occurrences kind texts ++ occurrence_values others)
