use Rattle.std.proofs.Common.{sym}
use Rattle.hx_diff.proofs.VerdictLemmas.{cut_after, uncut_after}
use Rattle.hx_diff.proofs.rows.after.Goals as goal

pub returns-in-Some : goal.returns-in-Some
returns-in-Some c = cut_after c.args.byte c.args.text.now c.in-Some.field-0-0.now c.in-Some.after.now (sym c.in-Some.ensures.value)

pub returns-in-None : goal.returns-in-None
returns-in-None c = uncut_after c.args.byte c.args.text.now (sym c.in-None.ensures.value)
