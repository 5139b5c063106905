use Rattle.hx_fetch.proofs.NamedLemmas.{some_named, none_named, left_named}
use Rattle.hx_fetch.proofs.texts.next_cookie.Goals as goal

pub returns-in-Some-clause-some : goal.returns-in-Some-clause-some
returns-in-Some-clause-some c =
    rw c.in-Some.is (some_named c.in-Some.name.now c.args.pairs.now c.next_named.new.self
    c.next_named.ensures.left c.next_named.result c.next_named.ensures.value)

pub returns-in-Some-clause-none : goal.returns-in-Some-clause-none
returns-in-Some-clause-none c =
    rw c.in-Some.is (none_named c.in-Some.name.now c.args.pairs.now c.next_named.new.self
    c.next_named.ensures.left c.next_named.result c.next_named.ensures.value)

pub returns-in-Some-clause-left : goal.returns-in-Some-clause-left
returns-in-Some-clause-left c =
    left_named c.in-Some.name.now c.args.pairs.now c.next_named.new.self
    c.next_named.ensures.left c.next_named.result c.next_named.ensures.value
