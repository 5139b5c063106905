use Rattle.std.proofs.Common.{◌≡◌, map, length}
use Rattle.hx_calls.specs.Known.{nothing_known}
use Rattle.hx_lint.specs.Judging.{go_on, known_after, one_turns}
use Rattle.hx_lint.proofs.refused_word.go_on.Given as goal

abbrev pub invariant-loop-probes : goal.invariant-loop-probes
invariant-loop-probes l = record {
  kept : l.speller ≡ known_after l.before nothing_known;
  same : one_turns l.fn.number l.fn.code l.words (known_after l.before nothing_known) (map (λ text. text.now) l.probes)
      ≡ go_on l.fn.number l.fn.code l.words (known_after l.before nothing_known);
}

abbrev pub decreases-loop-probes : goal.decreases-loop-probes
decreases-loop-probes l = length l.probes
