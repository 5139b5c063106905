-- One digit more.
use Rattle.std.proofs.Common.{◌≡◌, ℕ, suc, ◌+◌, ◌*◌, ◌^◌, ◌<◌, ◌≤◌, ap, ◌∙◌, add-one, arith}
use Rattle.std.proofs.Math.Nat.{pow-le-pow_right}
use native.Mathlib.Numerals.{unary_clauses}

-- a number of fewer than 16 digits
pub has_room : (n i : ℕ) → n < 16 ^ i → i < 16 → n < 2 ^ 60
has_room n i within small =
    let grows : 16 ^ i ≤ 16 ^ 15 = pow-le-pow_right (omega arith) {j = 15} (omega arith) in
    omega (arith, within, grows)

next_power : (i : ℕ) → 16 ^ suc i ≡ 16 ^ i * 16
next_power i = simp unary_clauses (omega arith)

pub one_digit_more : (n i d : ℕ) → n < 16 ^ i → d < 16 → n * 16 + d < 16 ^ (i + 1)
one_digit_more n i d within digit =
    let next : 16 ^ (i + 1) ≡ 16 ^ i * 16 = ap (λ k. 16 ^ k) (add-one i) ∙ next_power i in
    omega (arith, within, digit, next)

pub ruleset hex_digits = (has_room, one_digit_more)
