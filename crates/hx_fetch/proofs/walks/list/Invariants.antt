use Rattle.std.proofs.Common.{◌≡◌, ◌++◌}
use Rattle.hx_fetch.specs.Fetches.{text_occurrences}
use Rattle.hx_fetch.specs.Views.{source_texts}
use Rattle.hx_fetch.proofs.walks.list.Given as goal

abbrev pub invariant-loop-text : goal.invariant-loop-text
invariant-loop-text l =
    l.occurrences ++ text_occurrences l.kind l.text-iterator ≡ text_occurrences l.kind (source_texts l.fn.source)
