use Rattle.hx_conv_text.proofs.WordLemmas.{part_of_words}
use Rattle.hx_conv_text.proofs.laws.part_of_words.Goals as goal

pub returns : goal.returns
returns c = part_of_words c.args.delims.now c.args.index c.args.count c.args.text.now
