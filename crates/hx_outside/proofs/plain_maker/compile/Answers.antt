use Rattle.hx_outside.proofs.ExpressionLemmas.{builder_with_case, made_expression, pattern_expression, refused_expression}
use Rattle.hx_outside.proofs.plain_maker.compile.Goals as goal

pub returns-in-Ok-clause-made : goal.returns-in-Ok-clause-made
returns-in-Ok-clause-made c =
    let cased = c.case_insensitive-builder in
    made_expression c.args.ci c.args.text.now cased.result c.in-Ok.made
    (builder_with_case c.args.ci c.args.text.now c.new.result cased.result
    c.new.ensures.source c.new.ensures.config cased.ensures)
    c.in-Ok.ensures.source c.in-Ok.ensures.config c.in-Ok.ensures.read

pub returns-in-Err-Syntax-clause-bad : goal.returns-in-Err-Syntax-clause-bad
returns-in-Err-Syntax-clause-bad c _ =
    let cased = c.case_insensitive-builder in
    refused_expression c.args.ci c.args.text.now cased.result c.in-Err-Syntax.field-0-0.kind
    (builder_with_case c.args.ci c.args.text.now c.new.result cased.result
    c.new.ensures.source c.new.ensures.config cased.ensures)
    (rw c.in-Err-Syntax.field-0-is at c.in-Err-Syntax.ensures.kind)
    (c.in-Err-Syntax.ensures.refused c.in-Err-Syntax.field-0-0 c.in-Err-Syntax.field-0-is)

pub returns-in-Err-CompiledTooBig-clause-large : goal.returns-in-Err-CompiledTooBig-clause-large
returns-in-Err-CompiledTooBig-clause-large c _ =
    let cased = c.case_insensitive-builder in
    pattern_expression c.args.ci c.args.text.now cased.result
    (builder_with_case c.args.ci c.args.text.now c.new.result cased.result
    c.new.ensures.source c.new.ensures.config cased.ensures)
    (rw c.in-Err-CompiledTooBig.field-0-is at c.in-Err-CompiledTooBig.ensures.kind)
