use Rattle.std.proofs.Common.{sym, ◌∙◌, arith}
use Rattle.hx_filling.proofs.FreeNumberLemmas.{has_one_more, stands_beyond}
use Rattle.hx_filling.proofs.tables.first_free.Goals as goal

pub loop-free-init : goal.loop-free-init
loop-free-init c = record { least = omega arith; all = λ n least below. absurd (omega (arith, least, below)) }

pub overflow_add-free : goal.overflow_add-free
overflow_add-free c =
    let beyond = stands_beyond c.args.given.now c.args.from c.loop-free.free c.requires.0
    c.loop-free.invariant (sym c.contains.ensures ∙ c.loop-free-test.true) c.requires.1 c.requires.3 in
    omega (arith, beyond, c.requires.2)

pub loop-free-preserved : goal.loop-free-preserved
loop-free-preserved c =
    has_one_more c.args.given.now c.args.from c.loop-free.free c.loop-free.invariant
    (sym c.contains.ensures ∙ c.loop-free-test.true)
