use Rattle.hx_ebtree.specs.Bits.{bits_of}
use Rattle.hx_index.proofs.prepared.no_key.Goals as goal

pub returns : goal.returns
unfolding bits_of
returns c = c.new.ensures
