use Rattle.regex.specs.Bytes.{matcher_pattern}
use Rattle.hx_conv_text.proofs.FixedLemmas.{none_replaced_at_all}
use Rattle.hx_conv_text.proofs.replacing.with_each_fixed.Goals as goal

pub returns-in-None-clause-value : goal.returns-in-None-clause-value
returns-in-None-clause-value c =
    none_replaced_at_all (matcher_pattern c.args.matcher.now) c.args.input.now c.args.text.now
    c.in-None.ensures.found
