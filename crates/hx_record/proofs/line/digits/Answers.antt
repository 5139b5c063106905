use Rattle.std.proofs.Common.{arith}
use Rattle.std.proofs.lemmas.Bool.Decides.{nat_tests}
use Rattle.hx_record.proofs.DigitLemmas.{empty_word, another_byte, too_large, all_digits}
use Rattle.hx_record.proofs.line.digits.Goals as goal

pub returns-then-is_empty-clause-value : goal.returns-then-is_empty-clause-value
returns-then-is_empty-clause-value c = empty_word c.args.most c.args.word.now (grind (arith, nat_tests))

pub returns-then-not-is_ascii_digit-clause-value : goal.returns-then-not-is_ascii_digit-clause-value
returns-then-not-is_ascii_digit-clause-value c =
    another_byte c.args.most c.loop-byte.n c.loop-byte.byte-index c.args.word.now c.loop-byte-test.true c.loop-byte.invariant.value (grind arith)

pub returns-then-n-from-clause-value : goal.returns-then-n-from-clause-value
returns-then-n-from-clause-value c =
    too_large c.args.most c.loop-byte.n c.loop-byte.byte-index c.args.word.now c.loop-byte-test.true c.loop-byte.invariant.value (grind arith) (grind arith)

pub returns-clause-value : goal.returns-clause-value
returns-clause-value c =
    all_digits c.args.most c.loop-byte.n c.loop-byte.byte-index c.args.word.now (grind (arith, nat_tests)) (omega (arith, c.loop-byte-test.false)) c.loop-byte.invariant.value c.loop-byte.invariant.within
