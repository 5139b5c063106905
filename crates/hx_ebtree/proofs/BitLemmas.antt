-- Bits of bytes and codes of keys, by position.
use Rattle.std.proofs.Common.{◌≡◌, ℕ, zero, suc, ◌+◌, ◌-◌, ◌*◌, ◌/◌, ◌<◌, ◌≤◌, Bool, true, false, nat_lt, List, [], ◌∷◌, length, get_or, Option, Some, None, refl, sym, ap, ◌∙◌, arith, true≢false}
use Rattle.std.proofs.lemmas.Bool.Decides.{nat_tests}
use mathlib.Core.Bool.{not, beq}
use Rattle.std.specs.Option.{option_map}
use Rattle.hx_ebtree.specs.Bits.{bit_of, bits_from, bits_of, code_of, is_same_bit, split_of}

bits_from_length : (bytes : List ℕ) (i n : ℕ) → length (bits_from bytes i n) ≡ n
bits_from_length bytes i zero = refl
bits_from_length bytes i (suc n) = ap suc (bits_from_length bytes (i + 1) n)

pub bits_length : (bytes : List ℕ) (n : ℕ) → length (bits_of bytes n) ≡ n
unfolding bits_of
bits_length bytes n = bits_from_length bytes 0 n

bits_from_get : (bytes : List ℕ) (i n k : ℕ) → k < n → get_or (bits_from bytes i n) k false ≡ bit_of bytes (i + k)
bits_from_get bytes i zero k lt = absurd (omega arith)
bits_from_get bytes i (suc n) zero lt = let e : i ≡ i + 0 = omega arith in ap (bit_of bytes) e
bits_from_get bytes i (suc n) (suc k) lt = let e : i + 1 + k ≡ i + suc k = omega arith in bits_from_get bytes (i + 1) n k (omega arith) ∙ ap (bit_of bytes) e

pub bits_get : (bytes : List ℕ) (n k : ℕ) → k < n → get_or (bits_of bytes n) k false ≡ bit_of bytes k
unfolding bits_of
bits_get bytes n k lt = let e : 0 + k ≡ k = omega arith in bits_from_get bytes 0 n k lt ∙ ap (bit_of bytes) e

none_below : (n : ℕ) → false ≡ nat_lt n 0
none_below n = grind (arith, nat_tests)

some_below : (n : ℕ) → true ≡ nat_lt 0 (suc n)
some_below n = grind (arith, nat_tests)

both_up : (k n : ℕ) → nat_lt k n ≡ nat_lt (suc k) (suc n)
both_up k n = grind (arith, nat_tests)

pub code_even : (xs : List Bool) (k : ℕ) → get_or (code_of xs) (2 * k) false ≡ nat_lt k (length xs)
code_even [] zero = refl
code_even [] (suc k) = let e : 2 * suc k ≡ suc (suc (2 * k)) = omega arith in rw e (none_below (suc k))
code_even (x ∷ xs) zero = some_below (length xs)
code_even (x ∷ xs) (suc k) = let e : 2 * suc k ≡ suc (suc (2 * k)) = omega arith in rw e (code_even xs k ∙ both_up k (length xs))

pub code_odd : (xs : List Bool) (k : ℕ) → get_or (code_of xs) (2 * k + 1) false ≡ get_or xs k false
code_odd [] k = let e : 2 * k + 1 ≡ suc (2 * k) = omega arith in rw e refl
code_odd (x ∷ xs) zero = refl
code_odd (x ∷ xs) (suc k) = let e : 2 * suc k + 1 ≡ suc (suc (2 * k + 1)) = omega arith in rw e (code_odd xs k)

pub code_length : (xs : List Bool) → length (code_of xs) ≡ 2 * length xs + 1
code_length [] = refl
code_length (x ∷ xs) = omega (arith, code_length xs)

-- the split of what is left of two keys, from a bit on
abbrev pub split_from : List ℕ → List ℕ → ℕ → ℕ → ℕ → Option ℕ
split_from a b m n i = option_map (λ at. at + i * 2) (split_of (bits_from a i (m - i)) (bits_from b i (n - i)))

shifted : (i : ℕ) (o : Option ℕ) → option_map (λ at. at + i * 2) (option_map (λ at. at + 2) o) ≡ option_map (λ at. at + (i + 1) * 2) o
shifted i None = refl
shifted i (Some at) = let e : at + 2 + i * 2 ≡ at + (i + 1) * 2 = omega arith in ap Some e

unshifted : (o : Option ℕ) → option_map (λ at. at + 0 * 2) o ≡ o
unshifted None = refl
unshifted (Some at) = let e : at + 0 * 2 ≡ at = omega arith in ap Some e

pub split_start : (a b : List ℕ) (m n : ℕ) → split_of (bits_of a m) (bits_of b n) ≡ split_from a b m n 0
unfolding bits_of
split_start a b m n = let e : m - 0 ≡ m = omega arith in let f : n - 0 ≡ n = omega arith in rw (e, f) (sym (unshifted (split_of (bits_from a 0 m) (bits_from b 0 n))))

pub split_on : (a b : List ℕ) (m n i : ℕ) → i < m → i < n → is_same_bit (bit_of a i) (bit_of b i) ≡ true → split_from a b m n i ≡ split_from a b m n (i + 1)
split_on a b m n i lm ln same =
    let e : m - i ≡ suc (m - (i + 1)) = omega arith in let f : n - i ≡ suc (n - (i + 1)) = omega arith in
    rw (e, f, same) (shifted i (split_of (bits_from a (i + 1) (m - (i + 1))) (bits_from b (i + 1) (n - (i + 1)))))

pub split_here : (a b : List ℕ) (m n i : ℕ) → i < m → i < n → is_same_bit (bit_of a i) (bit_of b i) ≡ false → split_from a b m n i ≡ Some (i * 2 + 1)
split_here a b m n i lm ln differs =
    let e : m - i ≡ suc (m - (i + 1)) = omega arith in let f : n - i ≡ suc (n - (i + 1)) = omega arith in
    let g : 1 + i * 2 ≡ i * 2 + 1 = omega arith in
    rw (e, f, differs) (ap Some g)

pub split_none : (a b : List ℕ) (m n i : ℕ) → m ≤ i → n ≤ i → split_from a b m n i ≡ None
split_none a b m n i lm ln =
    let e : m - i ≡ 0 = omega arith in let f : n - i ≡ 0 = omega arith in rw (e, f)

pub split_end : (a b : List ℕ) (m n i : ℕ) → i ≤ m → i ≤ n → (i < m → i < n → ⊥) → (m ≡ n → ⊥) → split_from a b m n i ≡ Some (i * 2)
split_end a b m n i lm ln past differ = by (m - i) (n - i) refl refl
  where
    by : (r s : ℕ) → m - i ≡ r → n - i ≡ s → split_from a b m n i ≡ Some (i * 2)
    by zero zero e f = absurd (differ (omega arith))
    by zero (suc s) e f = let g : 0 + i * 2 ≡ i * 2 = omega arith in rw (e, f) (ap Some g)
    by (suc r) zero e f = let g : 0 + i * 2 ≡ i * 2 = omega arith in rw (e, f) (ap Some g)
    by (suc r) (suc s) e f = absurd (past (omega arith) (omega arith))

bits_differ : (x y : Bool) → not (beq x y) ≡ true → is_same_bit x y ≡ false
bits_differ false false e = absurd (true≢false (sym e))
bits_differ true true e = absurd (true≢false (sym e))
bits_differ false true e = refl
bits_differ true false e = refl

bits_agree : (x y : Bool) → not (beq x y) ≡ false → is_same_bit x y ≡ true
bits_agree false false e = refl
bits_agree true true e = refl
bits_agree false true e = absurd (true≢false e)
bits_agree true false e = absurd (true≢false e)

pub differ_at : (a b : List ℕ) (i : ℕ) (x y : Bool) → x ≡ bit_of a i → y ≡ bit_of b i → not (beq x y) ≡ true → is_same_bit (bit_of a i) (bit_of b i) ≡ false
differ_at a b i x y ex ey e = rw (← ex, ← ey) (bits_differ x y e)

pub agree_at : (a b : List ℕ) (i : ℕ) (x y : Bool) → x ≡ bit_of a i → y ≡ bit_of b i → not (beq x y) ≡ false → is_same_bit (bit_of a i) (bit_of b i) ≡ true
agree_at a b i x y ex ey e = rw (← ex, ← ey) (bits_agree x y e)

pub code_bit_even : (bytes : List ℕ) (n at : ℕ) → at ≡ 2 * (at / 2) → nat_lt (at / 2) n ≡ get_or (code_of (bits_of bytes n)) at false
code_bit_even bytes n at e =
    ap (nat_lt (at / 2)) (sym (bits_length bytes n)) ∙ sym (code_even (bits_of bytes n) (at / 2)) ∙ ap (λ k. get_or (code_of (bits_of bytes n)) k false) (sym e)

pub code_bit_odd : (bytes : List ℕ) (n at : ℕ) → at ≡ 2 * (at / 2) + 1 → at / 2 < n → bit_of bytes (at / 2) ≡ get_or (code_of (bits_of bytes n)) at false
code_bit_odd bytes n at e lt =
    sym (bits_get bytes n (at / 2) lt) ∙ sym (code_odd (bits_of bytes n) (at / 2)) ∙ ap (λ k. get_or (code_of (bits_of bytes n)) k false) (sym e)
