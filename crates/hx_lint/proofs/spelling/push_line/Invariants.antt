use Rattle.std.proofs.Common.{◌≡◌, ◌++◌, length}
use Rattle.hx_lint.specs.Spelling.{line_text, words_after}
use Rattle.hx_lint.proofs.spelling.push_line.Given as goal

abbrev pub invariant-loop-rest : goal.invariant-loop-rest
invariant-loop-rest l = l.text.items ++ words_after l.rest ≡ l.fn.text.items ++ line_text l.words

abbrev pub decreases-loop-rest : goal.decreases-loop-rest
decreases-loop-rest l = length l.rest
