use Rattle.std.proofs.Common.{Some, ap}
use Rattle.hx_text.proofs.NetworkLemmas.{masked_prefix}
use Rattle.hx_text.specs.declared.address.Ip.TheVariants.{V4}
use Rattle.hx_conv_val.proofs.laws.mask_of_bits.Goals as goal

pub returns : goal.returns
returns c = λ within. ap (λ a. Some (V4 a)) (masked_prefix _ _ c.ranges.address.fits within)
