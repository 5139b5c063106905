use Rattle.std.proofs.Common.{◌+◌, ◌-◌, ◌*◌, length}
use Rattle.hx_sample.specs.Keys.{folded}
use Rattle.hx_match.specs.Needles.{IsCandidate}
use Rattle.hx_match.proofs.search.next_place.Given as goal

abbrev pub invariant-loop-count : goal.invariant-loop-count
invariant-loop-count l = IsCandidate (folded l.ci l.text) l.key l.start l.place l.count

-- each byte that matches and each place that is passed brings the end nearer
abbrev pub decreases-loop-count : goal.decreases-loop-count
decreases-loop-count l = 2 * length l.text + 1 - (2 * l.place + l.count)
