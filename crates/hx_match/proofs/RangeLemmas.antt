-- The range of a text without a colon, which is both bounds.
use Rattle.std.proofs.Common.{◌≡◌, ℕ, List, [], ◌∷◌, Some, None, refl, sym, ap, ◌∙◌}
use Rattle.std.specs.Prelude.{ℤ, option_map}
use Rattle.std.specs.Option.{option_zip, unwrap_or}
use Rattle.hx_base.specs.Bytes.{ascii}
use Rattle.hx_text.specs.Cut.{cut_of}
use Rattle.hx_text.specs.Number.{int_of}
use Rattle.hx_sample.specs.Keys.{range_between, range_of}

no_number : int_of [] ≡ None
unfolding int_of
no_number = refl

twice : (text : List ℕ) (n : ℤ) → int_of text ≡ Some n → range_between (text, text) ≡ Some (Some n, Some n)
twice [] n h = let never : None ≡ Some n = sym no_number ∙ h in cc
twice (b ∷ text) n h = ap (λ o. option_zip (option_map Some o) (option_map Some o)) h

pub range_of_number : (text : List ℕ) (n : ℤ) → cut_of (ascii ":") text ≡ None → int_of text ≡ Some n
    → range_of text ≡ Some (Some n, Some n)
range_of_number text n whole h =
    ap (λ cut. range_between (unwrap_or cut (text, text))) whole ∙ twice text n h
