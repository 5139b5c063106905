-- Signed numbers that are tested.
use Rattle.std.proofs.Common.{◌≡◌, zero, suc, Some, None, refl, arith}
use Rattle.std.specs.Prelude.{ℤ, pos, negsuc, ◌<ℤ◌, ◌≤ℤ◌}
use Rattle.std.proofs.lemmas.Int.{ints}
use Rattle.hx_calls.specs.Values.{nonzero, nonnegative}

pub nonzero_other : (n : ℤ) → (n ≡ pos 0 → ⊥) → nonzero n ≡ Some n
nonzero_other (pos zero) other = absurd (other refl)
nonzero_other (pos (suc n)) other = refl
nonzero_other (negsuc n) other = refl

pub nonnegative_other : (n : ℤ) → pos 0 ≤ℤ n → nonnegative n ≡ Some n
nonnegative_other (pos n) above = refl
nonnegative_other (negsuc n) above = absurd (omega (arith, ints, above))

pub negative_none : (n : ℤ) → n <ℤ pos 0 → nonnegative n ≡ None
negative_none (pos n) below = absurd (omega (arith, ints, below))
negative_none (negsuc n) below = refl
