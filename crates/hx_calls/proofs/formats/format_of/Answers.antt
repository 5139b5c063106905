use Rattle.std.proofs.Common.{◌∙◌}
use Rattle.std.proofs.lemmas.Result.{err_from_is_err_and}
use Rattle.hx_calls.proofs.FormatSteps.{byte_on, ended, percent_on, refused_on}
use Rattle.hx_calls.proofs.KnownLemmas.{extends_trans}
use Rattle.hx_calls.proofs.formats.format_of.Goals as goal

pub returns-in_err-left-clause-answers : goal.returns-in_err-left-clause-answers
returns-in_err-left-clause-answers c =
    let p = err_from_is_err_and c.from_residual.result c.from_residual.ensures.1 in
    rw (p.1, p.2)
    (λ known. c.loop-left.invariant.0
    ∙ refused_on c.loop-left.read.parts c.loop-left.read.text.items c.args.line
    c.loop-left.left.now c.loop-left.known c.in_err-left.field-0.0 c.in-len1-up.len_at_least
    c.if-byte-eq37.true (c.in_err-left.ensures.answers known))

pub loop-left-preserved-then-byte-eq37 : goal.loop-left-preserved-then-byte-eq37
loop-left-preserved-then-byte-eq37 c = (
  c.loop-left.invariant.0
      ∙ percent_on c.loop-left.read.parts c.loop-left.read.text.items
      c.after_percent.new.self.parts c.after_percent.new.self.text.items c.args.line
      c.loop-left.left.now c.in_ok-left.left.now c.loop-left.known c.after_percent.new.known
      c.in-len1-up.len_at_least c.if-byte-eq37.true c.in_ok-left.ensures.answers,
  extends_trans c.args.known.now c.loop-left.known c.after_percent.new.known
      c.loop-left.invariant.1 c.after_percent.ensures.extends,
)

pub loop-left-preserved : goal.loop-left-preserved
loop-left-preserved c = (
  rw (c.in_ok-push_byte.ensures.parts, c.in_ok-push_byte.ensures.text)
      (c.loop-left.invariant.0
      ∙ byte_on c.loop-left.read.parts c.loop-left.read.text.items c.args.line
      c.loop-left.left.now c.loop-left.known c.in-len1-up.len_at_least c.if-byte-eq37.false),
  c.loop-left.invariant.1,
)

pub returns-clause-answers : goal.returns-clause-answers
returns-clause-answers c =
    rw c.in_ok-end_text.ensures.parts
    (c.loop-left.invariant.0
    ∙ ended c.loop-left.read.parts c.loop-left.read.text.items c.args.line c.loop-left.left.now
    c.loop-left.known c.in_default.len_below)
