use Rattle.hx_conv_text.proofs.UrlLemmas.{unmarked_text}
use Rattle.hx_conv_text.proofs.laws.text_without_escapes_stays.Goals as goal

pub returns : goal.returns
returns c = unmarked_text c.args.form c.args.text.now
