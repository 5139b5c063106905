use Rattle.std.proofs.Common.{arith}
use Rattle.std.proofs.lemmas.Bool.{both_ways}
use Rattle.hx_cli.proofs.VersionLemmas.{version_kept, version_refused}
use Rattle.hx_cli.proofs.reading.version_of_digits.Goals as goal

pub returns-then-has_leading_zero : goal.returns-then-has_leading_zero
returns-then-has_leading_zero c =
    let zero = c.has_leading_zero.ensures.0 c.if-has_leading_zero.true in
    version_refused c.from.result c.in_ok-number.number c.args.digits.now
    (omega (arith, c.from.ensures)) c.in_ok-number.ensures.value zero.0 zero.1

pub returns : goal.returns
returns c =
    version_kept c.from.result c.in_ok-number.number c.args.digits.now
    (omega (arith, c.from.ensures)) c.in_ok-number.ensures.value
    (λ zero. both_ways c.has_leading_zero.result c.if-has_leading_zero.false
    (c.has_leading_zero.ensures.1 zero))
