use Rattle.std.proofs.Common.{length}
use Rattle.hx_words.specs.TokenView.{quote_state_of}
use Rattle.hx_words.proofs.ArgumentLemmas.{KeepsArguments}
use Rattle.hx_words.proofs.argument.read_arguments.Given as goal

abbrev pub invariant-items : goal.invariant-items
invariant-items l = KeepsArguments l.text l.rest (quote_state_of l.mode) l.parts.done.items l.parts.word

abbrev pub decreases-items : goal.decreases-items
decreases-items l = length l.rest
