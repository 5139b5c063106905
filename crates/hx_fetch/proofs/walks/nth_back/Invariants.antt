use Rattle.std.proofs.Common.{◌≡◌, ◌+◌, ◌<◌, length, drop, reverse, slice_get}
use Rattle.hx_fetch.specs.Views.{source_texts}
use Rattle.hx_fetch.proofs.walks.nth_back.Given as goal

abbrev pub invariant-loop-ahead : goal.invariant-loop-ahead
invariant-loop-ahead l =
    record {
      distance : l.ahead ≡ drop (l.after + 1) l.texts;
      within : l.after < length l.texts;
      same : slice_get (reverse l.texts) l.after ≡ slice_get (reverse (source_texts l.fn.source)) l.after;
    }

abbrev pub decreases-loop-ahead : goal.decreases-loop-ahead
decreases-loop-ahead l = length l.ahead
