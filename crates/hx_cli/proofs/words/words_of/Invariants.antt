use Rattle.std.proofs.Common.{length}
use Rattle.hx_cli.proofs.WordLemmas.{KeepsWords}
use Rattle.hx_cli.proofs.words.words_of.Given as goal

abbrev pub invariant-loop-byte : goal.invariant-loop-byte
invariant-loop-byte l = KeepsWords l.line l.left l.words l.word

abbrev pub decreases-loop-byte : goal.decreases-loop-byte
decreases-loop-byte l = length l.left
