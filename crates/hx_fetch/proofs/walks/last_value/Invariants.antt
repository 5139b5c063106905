use Rattle.std.proofs.Common.{◌≡◌, None}
use Rattle.std.specs.Option.{option_copied}
use Rattle.hx_lists.specs.HeaderValues.{hdr_values}
use Rattle.hx_fetch.proofs.StepLemmas.{last_after}
use Rattle.hx_fetch.proofs.walks.last_value.Given as goal

abbrev pub invariant-loop-value : goal.invariant-loop-value
invariant-loop-value l =
    last_after (option_copied l.last) l.value-iterator ≡ last_after None (hdr_values l.line)
