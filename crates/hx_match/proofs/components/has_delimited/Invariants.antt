use Rattle.std.proofs.Common.{◌+◌, ◌-◌, length}
use Rattle.hx_sample.specs.Keys.{folded}
use Rattle.hx_match.specs.Read.{is_delim}
use Rattle.hx_match.specs.Needles.{IsComponentCandidate}
use Rattle.hx_match.proofs.components.has_delimited.Given as goal

abbrev pub invariant-loop-place : goal.invariant-loop-place
invariant-loop-place l =
    IsComponentCandidate (is_delim l.delims) (folded l.ci l.text) l.part.bytes.items l.start l.matched

abbrev pub decreases-loop-place : goal.decreases-loop-place
decreases-loop-place l = length l.text + 1 - l.start
