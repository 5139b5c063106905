use Rattle.hx_ebtree.proofs.BitLemmas.{bits_length}
use Rattle.hx_ebtree.proofs.key.BitKey.bytes.Goals as goal

pub returns-clause-bits : goal.returns-clause-bits
returns-clause-bits c = rw (← c.self.view_is, bits_length, c.as_slice.ensures)

pub returns-clause-enough : goal.returns-clause-enough
returns-clause-enough c =
    let fits = c.self.invariant.enough in
    rw (← c.self.view_is, bits_length, c.as_slice.ensures) fits

pub returns-clause-few : goal.returns-clause-few
returns-clause-few c =
    let few = c.self.invariant.few in
    rw (← c.self.view_is, bits_length) few
