use Rattle.std.proofs.lemmas.Nat.{leading_le}
use Rattle.hx_text.proofs.NetworkLemmas.{prefix_twice}
use Rattle.hx_text.proofs.network.masked_network.Goals as goal

pub returns-then-mask-mask_of_width-clause-kept : goal.returns-then-mask-mask_of_width-clause-kept
returns-then-mask-mask_of_width-clause-kept c =
    rw (c.prefix_of_v4.ensures, c.leading_ones-bits.ensures) (leading_le 32 _, prefix_twice 32 _ _)
