use Rattle.std.proofs.Common.{◌≡◌, None}
use Rattle.std.specs.Option.{option_copied}
use Rattle.hx_fetch.specs.Views.{source_texts}
use Rattle.hx_fetch.proofs.StepLemmas.{last_after}
use Rattle.hx_fetch.proofs.walks.last_of_all.Given as goal

abbrev pub invariant-loop-text : goal.invariant-loop-text
invariant-loop-text l =
    last_after (option_copied l.last) l.text-iterator ≡ last_after None (source_texts l.fn.source)
