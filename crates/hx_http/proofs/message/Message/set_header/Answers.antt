use Rattle.std.proofs.Common.{sym, ap, ◌∙◌, arith}
use Rattle.hx_http.specs.Edits.{with_header}
use Rattle.hx_http.proofs.LineLemmas.{few_enough, too_many, without_none}
use Rattle.hx_http.proofs.message.Message.set_header.Goals as goal

pub returns-then-kept-ge-MAX_HEADERS-clause-refused :
    goal.returns-then-kept-ge-MAX_HEADERS-clause-refused
returns-then-kept-ge-MAX_HEADERS-clause-refused c =
    too_many c.args.name.now c.args.value.now c.args.self.now
    (sym c.has_bad_value_byte.ensures ∙ c.if-has_bad_value_byte.false) (omega (arith, c.count_others-kept.ensures))

pub returns-in_ok-replace_lines-clause-none : goal.returns-in_ok-replace_lines-clause-none
returns-in_ok-replace_lines-clause-none c =
    few_enough c.args.name.now c.args.value.now c.args.self.now
    (sym c.has_bad_value_byte.ensures ∙ c.if-has_bad_value_byte.false) (omega (arith, c.count_others-kept.ensures))

pub returns-in_ok-push_line-clause-ok : goal.returns-in_ok-push_line-clause-ok
returns-in_ok-push_line-clause-ok c =
    c.in_ok-push_line.ensures.ok
    ∙ ap (with_header c.args.name.now c.args.value.now)
    (sym (without_none c.args.name.now c.args.self.now (omega (arith, c.count_others-kept.ensures, c.len.ensures))))

pub returns-in_ok-push_line-clause-none : goal.returns-in_ok-push_line-clause-none
returns-in_ok-push_line-clause-none c =
    few_enough c.args.name.now c.args.value.now c.args.self.now
    (sym c.has_bad_value_byte.ensures ∙ c.if-has_bad_value_byte.false) (omega (arith, c.count_others-kept.ensures))
