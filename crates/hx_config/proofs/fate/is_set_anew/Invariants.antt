use Rattle.std.proofs.Common.{◌≡◌, length}
use Rattle.hx_config.specs.Fates.{is_one_set_anew, is_set_anew}
use Rattle.hx_config.specs.Tables.{pairs_in}
use Rattle.hx_config.proofs.fate.is_set_anew.Given as goal

abbrev pub invariant-loop-singles : goal.invariant-loop-singles
invariant-loop-singles l =
    is_one_set_anew l.sections l.below l.words (pairs_in l.singles) ≡ is_set_anew l.sections l.below l.words

abbrev pub decreases-loop-singles : goal.decreases-loop-singles
decreases-loop-singles l = length l.singles
