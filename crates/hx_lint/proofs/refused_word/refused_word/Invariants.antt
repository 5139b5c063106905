use Rattle.std.proofs.Common.{◌≡◌, ◌≤◌, length}
use Rattle.hx_lint.specs.Judging.{right_words}
use Rattle.hx_lint.proofs.refused_word.refused_word.Given as goal

abbrev pub invariant-loop-count : goal.invariant-loop-count
invariant-loop-count l = record {
  within : l.count ≤ length l.words;
  kept : l.speller ≡ l.fn.speller;
  same : right_words l.number l.code l.words l.fn.speller l.count
      ≡ right_words l.number l.code l.words l.fn.speller (length l.words);
}

abbrev pub decreases-loop-count : goal.decreases-loop-count
decreases-loop-count l = l.count
