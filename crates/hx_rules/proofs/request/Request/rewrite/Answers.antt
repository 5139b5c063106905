use Rattle.hx_rules.proofs.request.Request.rewrite.Goals as goal

pub returns-in-ReplaceValue-clause-ok : goal.returns-in-ReplaceValue-clause-ok
returns-in-ReplaceValue-clause-ok g c =
    rw c.in-ReplaceValue.is c.replace-in-ReplaceValue.ensures.ok

pub returns-in-ReplaceValue-clause-none : goal.returns-in-ReplaceValue-clause-none
returns-in-ReplaceValue-clause-none g c =
    rw c.in-ReplaceValue.is c.replace-in-ReplaceValue.ensures.none

pub returns-in-ReplaceValue-clause-refused : goal.returns-in-ReplaceValue-clause-refused
returns-in-ReplaceValue-clause-refused g c =
    rw c.in-ReplaceValue.is c.replace-in-ReplaceValue.ensures.refused
