use Rattle.std.proofs.Common.{sym}
use Rattle.hx_diff.proofs.VerdictLemmas.{before_lacks, cut_before, uncut_before, whole_lacks}
use Rattle.hx_diff.proofs.rows.before.Goals as goal

pub returns-in-Some-clause-before : goal.returns-in-Some-clause-before
returns-in-Some-clause-before c =
    cut_before c.args.byte c.args.text.now c.in-Some.before.now c.in-Some.field-0-1.now (sym c.in-Some.ensures.value)

pub returns-in-Some-clause-without : goal.returns-in-Some-clause-without
returns-in-Some-clause-without c =
    before_lacks c.args.byte c.args.text.now c.in-Some.before.now c.in-Some.field-0-1.now (sym c.in-Some.ensures.value)

pub returns-in-None-clause-before : goal.returns-in-None-clause-before
returns-in-None-clause-before c = uncut_before c.args.byte c.args.text.now (sym c.in-None.ensures.value)

pub returns-in-None-clause-without : goal.returns-in-None-clause-without
returns-in-None-clause-without c = whole_lacks c.args.byte c.args.text.now (sym c.in-None.ensures.value)
