use Rattle.std.proofs.Common.{◌≡◌, IfSome, option_map}
use Rattle.regex.specs.Bytes.{match_haystack, match_span, matcher_pattern}
use Rattle.hx_conv_text.proofs.FixedLemmas.{IsReplacedTo, left_after}
use Rattle.hx_conv_text.proofs.replacing.from_first.Given as goal

abbrev pub invariant-loop-next : goal.invariant-loop-next
invariant-loop-next l =
    (matcher_pattern l.matcher ≡ matcher_pattern l.fn.matcher)
    × IfSome l.next (λ found. match_haystack found ≡ l.input)
    × IsReplacedTo (matcher_pattern l.fn.matcher) l.input l.text l.last
    (option_map match_span l.next) l.made.items

abbrev pub decreases-loop-next : goal.decreases-loop-next
decreases-loop-next l =
    left_after l.input (option_map match_span l.next)
