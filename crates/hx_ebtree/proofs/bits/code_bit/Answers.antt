use Rattle.std.proofs.Common.{arith, ◌∙◌}
use Rattle.hx_ebtree.proofs.BitLemmas.{code_bit_even, code_bit_odd}
use Rattle.hx_ebtree.proofs.bits.code_bit.Goals as goal

pub returns-then-at-eq0 : goal.returns-then-at-eq0
returns-then-at-eq0 c =
    let even = c.if-at-eq0.true in
    code_bit_even c.args.bytes.now c.args.bits c.args.at (omega arith)

pub returns-else-at-eq0 : goal.returns-else-at-eq0
returns-else-at-eq0 c =
    let odd = c.if-at-eq0.false in let within = c.requires.at in
    c.bit.ensures ∙ code_bit_odd c.args.bytes.now c.args.bits c.args.at (omega arith) (omega arith)
