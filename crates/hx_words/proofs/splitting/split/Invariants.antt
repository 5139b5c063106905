use Rattle.std.proofs.Common.{length}
use Rattle.hx_base.specs.Pairs.{pairs_of}
use Rattle.hx_words.specs.TokenView.{quote_state_of}
use Rattle.hx_words.proofs.WordLemmas.{KeepsWords}
use Rattle.hx_words.proofs.splitting.split.Given as goal

abbrev pub invariant-items : goal.invariant-items
invariant-items l =
    KeepsWords (pairs_of l.env) l.line l.rest (quote_state_of l.mode) l.parts.done.items l.parts.word

abbrev pub decreases-items : goal.decreases-items
decreases-items l = length l.rest
