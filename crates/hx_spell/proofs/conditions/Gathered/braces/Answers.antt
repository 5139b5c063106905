use Rattle.std.proofs.Common.{◌∙◌, sym}
use Rattle.std.proofs.lemmas.List.{take_rest}
use Rattle.std.proofs.lemmas.Result.{err_from_is_err_and}
use Rattle.hx_spell.specs.ConditionView.{terms_of}
use Rattle.hx_spell.proofs.ConditionStepLemmas.{closed_read, closed_refused, open_refused}
use Rattle.hx_spell.proofs.conditions.Gathered.braces.Goals as goal

pub returns-in_default-clause-refused : goal.returns-in_default-clause-refused
returns-in_default-clause-refused c =
    open_refused c.args.line c.args.words.now (terms_of c.args.self.now) c.args.known.now
    c.unclosed.result (sym c.closing.ensures.at ∙ c.in_default.is) c.unclosed.ensures.refused

pub returns-in_err-decl-clause-refused : goal.returns-in_err-decl-clause-refused
returns-in_err-decl-clause-refused c =
    let p = err_from_is_err_and c.from_residual.result c.from_residual.ensures.1 in
    rw (p.1, p.2) (λ memory. closed_refused c.args.line c.in-Some.end c.args.words.now
    (terms_of c.args.self.now) c.args.known.now c.in_err-decl.field-0.0
    (sym c.closing.ensures.at ∙ c.in-Some.is) (c.in_err-decl.ensures.answers memory))

pub returns-clause-ok : goal.returns-clause-ok
returns-clause-ok c =
    rw (take_rest, c.in_ok-term.ensures)
    (closed_read c.args.line c.in-Some.end c.args.words.now (terms_of c.args.self.now)
    c.args.known.now c.own_decl.new.known c.in_ok-decl.decl
    (sym c.closing.ensures.at ∙ c.in-Some.is) c.in_ok-decl.ensures.answers)
