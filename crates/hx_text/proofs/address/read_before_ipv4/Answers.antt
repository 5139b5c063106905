use Rattle.hx_text.proofs.ColonHexLemmas.{too_long}
use Rattle.hx_text.proofs.address.read_before_ipv4.Goals as goal

pub returns-then-before-gt49 : goal.returns-then-before-gt49
returns-then-before-gt49 c = too_long c.args.ipv4 c.args.before.now _ c.if-before-gt49.true
