use Rattle.hx_match.proofs.RefusalLemmas.{refused_misses}
use Rattle.hx_match.proofs.laws.refused_text_hits_nothing.Goals as goal

pub returns : goal.returns
returns c v fault = refused_misses c.args.by c.args.ci c.args.text.now v fault
