use Rattle.std.proofs.Common.{◌≡◌, drop}
use Rattle.hx_conv_text.specs.UrlDecoding.{is_encoded}
use Rattle.hx_conv_text.proofs.url.is_encoded.Given as goal

abbrev pub invariant-loop-i : goal.invariant-loop-i
invariant-loop-i l = is_encoded l.text ≡ is_encoded (drop l.i l.text)
