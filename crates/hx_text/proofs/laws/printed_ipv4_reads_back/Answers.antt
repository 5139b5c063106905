use Rattle.hx_text.proofs.RoundTripLemmas.{ipv4_reads_back}
use Rattle.hx_text.proofs.laws.printed_ipv4_reads_back.Goals as goal

pub returns : goal.returns
returns c = ipv4_reads_back c.args.address c.ranges.address.fits
