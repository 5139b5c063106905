use Rattle.std.proofs.Common.{rules}
use Rattle.hx_acl.proofs.LocalLemmas.{local_bits}
use Rattle.hx_acl.proofs.predefined.is_local.Goals as goal

pub returns-in-Some : goal.returns-in-Some
returns-in-Some c = rw (local_bits c.args.ip, ← c.as_ipv4.ensures, c.in-Some.is) (search rules)

pub returns-in-None : goal.returns-in-None
returns-in-None c = rw (local_bits c.args.ip, ← c.as_ipv4.ensures, c.in-None.is) (search rules)
