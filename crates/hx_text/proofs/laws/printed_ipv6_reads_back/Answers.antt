use Rattle.hx_text.proofs.RoundTripLemmas.{ipv6_reads_back}
use Rattle.hx_text.proofs.laws.printed_ipv6_reads_back.Goals as goal

pub returns : goal.returns
returns c = ipv6_reads_back c.args.address c.ranges.address.fits
