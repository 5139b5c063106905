use Rattle.std.proofs.Common.{◌≡◌, ◌+◌, ◌-◌, length, subst, arith}
use Rattle.hx_match.specs.Needles.{IsLeastPeriod}
use Rattle.hx_match.proofs.PeriodLemmas.{of_last, repeats_later, repeats_never, repeats_on}
use Rattle.hx_match.proofs.periods.next_period.Goals as goal

pub loop-period-init : goal.loop-period-init
loop-period-init c =
    of_last c.args.key.now (length c.args.periods.now - 1) c.args.last c.requires.first.last

pub loop-period-preserved : goal.loop-period-preserved
loop-period-preserved c =
    let at = length c.args.periods.now - 1 in
    let period = c.loop-period.period in
    let some = c.requires.first.some in
    repeats_later c.args.key.now at period _ c.loop-period.invariant c.loop-period-test.true c.if-key-at.true
    (c.requires.first.each (at - period) (omega arith))

pub returns-else-key-at : goal.returns-else-key-at
returns-else-key-at c =
    let at = length c.args.periods.now - 1 in
    let count : at + 1 ≡ length c.args.periods.now = omega (arith, c.requires.first.some) in
    subst (λ n. IsLeastPeriod c.args.key.now n c.loop-period.period) count
    (repeats_on c.args.key.now at c.loop-period.period c.loop-period.invariant c.loop-period-test.true c.if-key-at.false)

pub returns-after-loop-period : goal.returns-after-loop-period
returns-after-loop-period c =
    let at = length c.args.periods.now - 1 in
    let count : at + 1 ≡ length c.args.periods.now = omega (arith, c.requires.first.some) in
    subst (λ n. IsLeastPeriod c.args.key.now n c.loop-period.period) count
    (repeats_never c.args.key.now at c.loop-period.period c.loop-period.invariant (omega (arith, c.loop-period-test.false)))
