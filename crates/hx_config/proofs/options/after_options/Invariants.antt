use Rattle.std.proofs.Common.{◌≡◌, length}
use Rattle.hx_config.specs.Tables.{pairs_in}
use Rattle.hx_config.specs.Options.{after_options}
use Rattle.hx_config.proofs.options.after_options.Given as goal

abbrev pub invariant-loop-rest : goal.invariant-loop-rest
invariant-loop-rest l =
    after_options (pairs_in l.table) l.skip l.rest
    ≡ after_options (pairs_in l.table) 0 l.words

abbrev pub decreases-loop-rest : goal.decreases-loop-rest
decreases-loop-rest l = length l.rest
