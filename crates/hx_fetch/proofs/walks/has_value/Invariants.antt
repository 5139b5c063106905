use Rattle.std.proofs.Common.{◌≡◌, is_some}
use Rattle.std.specs.List.{list_any}
use Rattle.hx_fetch.specs.Fetches.{text_occurrences}
use Rattle.hx_fetch.specs.Views.{source_texts}
use Rattle.hx_fetch.proofs.walks.has_value.Given as goal

abbrev pub invariant-loop-text : goal.invariant-loop-text
invariant-loop-text l =
    list_any is_some (text_occurrences l.kind l.text-iterator) ≡ list_any is_some (text_occurrences l.kind (source_texts l.fn.source))
