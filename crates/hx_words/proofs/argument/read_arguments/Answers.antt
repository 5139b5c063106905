use Rattle.hx_words.specs.TokenView.{quote_state_of}
use Rattle.hx_words.proofs.ArgumentLemmas.{arguments_comma, arguments_part}
use Rattle.hx_words.proofs.argument.read_arguments.Goals as goal

pub items-preserved-in-Comma : goal.items-preserved-in-Comma
items-preserved-in-Comma c =
    let done = c.in_ok-separate-in-Comma.ensures in
    rw (done.done, done.word)
    (arguments_comma _ _ _ _ _ c.in-Some.byte _ c.items.invariant c.in-Some.ensures
    c.in-Comma.ensures.item)

pub items-preserved : goal.items-preserved
items-preserved c =
    let appended = c.in_ok-append-in-Part.ensures in
    rw (c.skip-rest.ensures, appended.done, appended.word)
    (arguments_part _ _ _ _ _ c.in-Some.byte _ c.in-Part.count _
    (quote_state_of c.in-Part.next) c.items.invariant c.in-Some.ensures c.in-Part.ensures.item)
