-- No sample is cast to an integer or an address by printing it.
use Rattle.std.proofs.Common.{◌≡◌, false, refl}
use Rattle.hx_sample.specs.Cast.{is_printed}
use Rattle.hx_sample.specs.declared.sample.Value.{Value}
use Rattle.hx_sample.specs.declared.sample.Value.TheVariants as value
use Rattle.hx_text.specs.declared.kinds.Kind.TheVariants as kind

pub int_unprinted : (input : Value) → is_printed input kind.Int ≡ false
int_unprinted (value.Bool b) = refl
int_unprinted (value.Int n) = refl
int_unprinted (value.Ip ip) = refl
int_unprinted (value.Str text) = refl
int_unprinted (value.Bin bytes) = refl
int_unprinted (value.Method name) = refl

pub ip_unprinted : (input : Value) → is_printed input kind.Ip ≡ false
ip_unprinted (value.Bool b) = refl
ip_unprinted (value.Int n) = refl
ip_unprinted (value.Ip ip) = refl
ip_unprinted (value.Str text) = refl
ip_unprinted (value.Bin bytes) = refl
ip_unprinted (value.Method name) = refl

pub ruleset unprinted = (int_unprinted, ip_unprinted)
