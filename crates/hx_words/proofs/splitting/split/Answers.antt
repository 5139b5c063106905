use Rattle.std.proofs.Common.{rules}
use Rattle.hx_words.specs.TokenView.{quote_state_of}
use Rattle.hx_words.proofs.WordLemmas.{words_gap, words_part}
use Rattle.hx_words.proofs.splitting.split.Goals as goal

pub items-preserved-in-Gap : goal.items-preserved-in-Gap
items-preserved-in-Gap c =
    let done = c.in_ok-end_word-in-Gap.ensures in
    rw (c.skip-rest.ensures, done.done, done.word)
    (words_gap _ _ _ _ _ _ c.in-Some.byte _ c.in-Gap.count c.items.invariant
    c.in-Some.ensures c.in-Gap.ensures.item)

pub items-preserved : goal.items-preserved
items-preserved c =
    let appended = c.in_ok-append-in-Part.ensures in
    rw (c.skip-rest-in-Part.ensures, appended.done, appended.word)
    (words_part _ _ _ _ _ _ c.in-Some.byte _ c.in-Part.count _
    (quote_state_of c.in-Part.next) c.items.invariant c.in-Some.ensures c.in-Part.ensures.item
    (λ full. search rules))
