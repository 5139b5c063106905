use Rattle.std.proofs.Common.{◌∙◌}
use Rattle.hx_base.specs.Bytes.{is_bad_value_byte}
use Rattle.hx_text.proofs.ValueLemmas.{list_any-found}
use Rattle.hx_text.proofs.values.has_bad_value_byte.Goals as goal

pub returns-in_default : goal.returns-in_default
returns-in_default c =
    c.is_some.ensures
    ∙ list_any-found is_bad_value_byte c.args.value.now c.memchr3.result c.memchr3.ensures
