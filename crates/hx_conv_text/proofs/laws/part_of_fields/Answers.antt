use Rattle.hx_conv_text.proofs.FieldLemmas.{part_of_fields}
use Rattle.hx_conv_text.proofs.laws.part_of_fields.Goals as goal

pub returns : goal.returns
returns c = part_of_fields c.args.delims.now c.args.index c.args.count c.args.text.now
