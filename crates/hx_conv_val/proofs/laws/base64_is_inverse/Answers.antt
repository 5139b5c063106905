use Rattle.hx_conv_val.proofs.Base64Lemmas.{base64_inverse, base64url_inverse}
use Rattle.hx_conv_val.proofs.laws.base64_is_inverse.Goals as goal

pub returns : goal.returns
returns c = record {
  padded = base64_inverse _ _ (λ i. (c.type_inv.text i).fits) (λ i. (c.type_inv.bytes i).fits);
  url_safe = base64url_inverse _ _ (λ i. (c.type_inv.text i).fits) (λ i. (c.type_inv.bytes i).fits);
}
