use Rattle.std.proofs.Common.{◌≡◌, length}
use Rattle.std.specs.Option.{option_copied}
use Rattle.hx_config.specs.Tables.{pairs_in}
use Rattle.hx_config.specs.Options.{value_from, value_of}
use Rattle.hx_config.proofs.options.value_of.Given as goal

abbrev pub invariant-loop-rest : goal.invariant-loop-rest
invariant-loop-rest l =
    value_from (pairs_in l.table) l.name (option_copied l.found) l.skip l.rest
    ≡ value_of (pairs_in l.table) l.name l.words

abbrev pub decreases-loop-rest : goal.decreases-loop-rest
decreases-loop-rest l = length l.rest
