-- The texts of the numbers beyond those of 64 bits and a sign.
use Rattle.std.proofs.Common.{◌≡◌, ℕ, ℤ, ap, ◌∙◌, sym, w64, of_z, to_z, FitsSigned}
use Rattle.std.specs.Prelude.{◌+ℤ◌, ◌-ℤ◌, pos, codes}
use Rattle.std.specs.Fmt.{digits, signed_decimal}
use Rattle.std.proofs.lemmas.Int.{to_z-of_z}

-- a number by its bits
by_bits : (n : ℤ) (bits : ℕ) → FitsSigned w64 n → of_z w64 n ≡ bits → n ≡ to_z w64 bits
by_bits n bits fits is = sym (to_z-of_z w64 n fits) ∙ ap (λ b. to_z w64 b) is

pub after_greatest : (n : ℤ) → FitsSigned w64 n → of_z w64 n ≡ 9223372036854775807
    → signed_decimal (n +ℤ pos 1) ≡ codes "9223372036854775808"
unfolding digits
after_greatest n fits is =
    ap (λ m. signed_decimal (m +ℤ pos 1)) (by_bits n 9223372036854775807 fits is)

pub before_least : (n : ℤ) → FitsSigned w64 n → of_z w64 n ≡ 9223372036854775808
    → signed_decimal (n -ℤ pos 1) ≡ codes "-9223372036854775809"
unfolding digits
before_least n fits is =
    ap (λ m. signed_decimal (m -ℤ pos 1)) (by_bits n 9223372036854775808 fits is)
