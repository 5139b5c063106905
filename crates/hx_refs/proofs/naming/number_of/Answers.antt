use Rattle.std.proofs.Common.{length, sym, ◌∙◌, arith}
use Rattle.std.proofs.lemmas.Bool.{eqb-false}
use Rattle.hx_refs.proofs.NamingLemmas.{given_above, given_within}
use Rattle.hx_refs.proofs.naming.number_of.Goals as goal

pub returns-in-Some : goal.returns-in-Some
returns-in-Some c =
    given_within c.from.result c.in-Some.number c.args.digits.now (omega (arith, c.from.ensures)) c.in-Some.ensures.value

pub returns-then-has_digits_alone : goal.returns-then-has_digits_alone
returns-then-has_digits_alone c =
    given_above c.from.result c.args.digits.now (omega (arith, c.from.ensures)) c.in_default.ensures.value
    (sym c.has_digits_alone.ensures ∙ c.if-has_digits_alone.true)
    (let some = eqb-false (length c.args.digits.now) 0 (sym c.is_empty.ensures ∙ c.if-not-is_empty.true) in omega (arith, some))
