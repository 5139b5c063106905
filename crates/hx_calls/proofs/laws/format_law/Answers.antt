use Rattle.hx_calls.proofs.FormatReadLemmas.{format_read}
use Rattle.hx_calls.proofs.FormatSpellLemmas.{format_writes}
use Rattle.hx_calls.proofs.laws.format_law.Goals as goal

pub returns : goal.returns
returns c = λ line before read.
    (format_writes line before c.args.text.now read, format_read line before c.args.text.now read)
