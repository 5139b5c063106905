-- What the code keeps of the occurrences of a fetch while they are given one after the other.
use Rattle.std.specs.Prelude.{List, Option, option_map}
use Rattle.std.specs.Option.{option_to_list}
use Rattle.hx_sample.specs.declared.sample.Value.{Value}
use Rattle.hx_sample.specs.Seen.{occurrence_value}
use Rattle.hx_text.specs.declared.kinds.Kind.{Kind}
use Rattle.hx_fetch.specs.declared.occurrence_reader.Left.{Left}
use Rattle.hx_fetch.specs.declared.occurrence_reader.Left.TheVariants.{One, Texts}
use Rattle.hx_fetch.specs.Fetches.{text_occurrences}

-- the occurrences that are left, those of texts as values of a kind
abbrev pub left_occurrences : Kind → Left → List (Option Value)
left_occurrences kind (One occurrence) = option_to_list (option_map occurrence_value occurrence)
left_occurrences kind (Texts texts) = text_occurrences kind texts
