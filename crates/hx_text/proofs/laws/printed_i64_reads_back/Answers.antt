use Rattle.hx_text.proofs.NumberLemmas.{int_of-signed_decimal}
use Rattle.hx_text.proofs.laws.printed_i64_reads_back.Goals as goal

pub returns : goal.returns
returns c = int_of-signed_decimal c.args.n c.ranges.n
