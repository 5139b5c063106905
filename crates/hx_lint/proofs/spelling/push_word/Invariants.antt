use Rattle.std.proofs.Common.{◌≡◌, ◌++◌, length, flat_map}
use Rattle.hx_lint.specs.Spelling.{byte_text, word_text}
use Rattle.hx_lint.proofs.spelling.push_word.Given as goal

abbrev pub invariant-loop-rest : goal.invariant-loop-rest
invariant-loop-rest l = l.text.items ++ flat_map byte_text l.rest ≡ l.fn.text.items ++ word_text l.word

abbrev pub decreases-loop-rest : goal.decreases-loop-rest
decreases-loop-rest l = length l.rest
