use Rattle.std.proofs.Common.{sym}
use Rattle.hx_ebtree.specs.KeyBytes.{kept_bytes}
use Rattle.hx_ebtree.proofs.BitLemmas.{bits_length}
use Rattle.hx_ebtree.proofs.key.BitKey.len.Goals as goal

pub returns : goal.returns
returns c = rw (← c.self.view_is) (sym (bits_length (kept_bytes c.self.inside.bytes) c.self.inside.bits))
