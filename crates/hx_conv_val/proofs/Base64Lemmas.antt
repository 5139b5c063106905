-- A text is decoded exactly where it is an encoding.
use Rattle.std.proofs.Common.{◌≡◌, ◌↔◌, ℕ, List, Some, Result, Ok, Err, refl, ap}
use Rattle.std.proofs.lemmas.Option.{same_Some, none-some}
use Rattle.std.specs.Result.{result_ok}
use Rattle.base64.specs.Engines.{standard, url_safe_no_pad}
use Rattle.base64.specs.GeneralPurpose.{IsBytes}
use Rattle.base64.proofs.EngineFacts.{decode_of_iff}
use Rattle.hx_conv_val.specs.Encodings.{base64_text, base64_bytes, base64url_text, base64url_bytes}

result_is_ok : {A E : Type 0} (r : Result A E) (x : A) → result_ok r ≡ Some x → r ≡ Ok x
result_is_ok (Ok y) x same = ap Ok (same_Some y x same)
result_is_ok (Err e) x same = absurd (none-some x same)

pub base64_inverse : (text bytes : List ℕ) → IsBytes text → IsBytes bytes
    → (base64_bytes text ≡ Some bytes) ↔ (text ≡ base64_text bytes)
unfolding base64_bytes base64_text
base64_inverse text bytes ts bs =
    let both = decode_of_iff standard text bytes (refl, refl) ts bs in
    (λ decoded. both.0 (result_is_ok _ bytes decoded), λ encoded. ap result_ok (both.1 encoded))

pub base64url_inverse : (text bytes : List ℕ) → IsBytes text → IsBytes bytes
    → (base64url_bytes text ≡ Some bytes) ↔ (text ≡ base64url_text bytes)
unfolding base64url_bytes base64url_text
base64url_inverse text bytes ts bs =
    let both = decode_of_iff url_safe_no_pad text bytes (refl, refl) ts bs in
    (λ decoded. both.0 (result_is_ok _ bytes decoded), λ encoded. ap result_ok (both.1 encoded))
