use Rattle.std.proofs.Common.{◌≡◌, ◌+◌, ◌-◌, length}
use Rattle.regex.specs.Bytes.{matcher_pattern}
use Rattle.hx_conv_text.proofs.ExpandedLemmas.{IsWrittenTo}
use Rattle.hx_conv_text.proofs.substitution.with_each_expanded.Given as goal

abbrev pub invariant-loop-made : goal.invariant-loop-made
invariant-loop-made l =
    (matcher_pattern l.matcher ≡ matcher_pattern l.fn.matcher)
    × IsWrittenTo l.sub l.input (matcher_pattern l.fn.matcher) l.after l.made.items

abbrev pub decreases-loop-made : goal.decreases-loop-made
decreases-loop-made l = length l.input + 1 - l.after
