-- Where two keys differ first, from a bit on before which they don't.
use Rattle.std.proofs.Common.{◌≡◌, ◌≢◌, ◌⊎◌, ℕ, zero, suc, ◌+◌, ◌-◌, ◌*◌, ◌/◌, ◌<◌, ◌≤◌, Bool, true, false, cond, nat_lt, is_some, List, [], ◌∷◌, ◌++◌, length, get_or, Option, Some, None, refl, sym, ap, ◌∙◌, inl, inr, arith}
use mathlib.Core.Bool.{not}
use Rattle.std.proofs.lemmas.Bool.Decides.{nat_tests}
use Rattle.std.specs.Option.{option_map}
use Rattle.hx_ebtree.specs.Bits.{bit_of, bits_from, bits_of, code_of, IsPrefix, is_same_bit, split_of, HaveInCommon}
use Rattle.hx_ebtree.specs.Seat.{split_before_of}
use Rattle.hx_ebtree.proofs.BitLemmas.{bits_length, bits_get, code_odd, code_length, split_from, split_start, split_on, split_here, split_none, split_end}
use Rattle.hx_ebtree.specs.KeyList.{is_same_key}
use Rattle.hx_ebtree.proofs.CodeLemmas.{prefix_length, split_same}
use Rattle.hx_ebtree.proofs.PairLemmas.{key_self, key_differs}

-- bytes that are the same have the same bits
pub same_byte : (a b : List ℕ) (i j x y : ℕ) → j / 8 ≡ i / 8 → x ≡ get_or a (i / 8) 0 → y ≡ get_or b (i / 8) 0 → x ≡ y → bit_of a j ≡ bit_of b j
same_byte a b i j x y at ea eb e = rw (at, ← ea, ← eb, e)

self_same : (x : Bool) → is_same_bit x x ≡ true
self_same true = refl
self_same false = refl

same_bit : (x y : Bool) → x ≡ y → is_same_bit x y ≡ true
same_bit x y e = rw e (self_same y)

other_bit : (x y : Bool) → x ≢ y → is_same_bit x y ≡ false
other_bit true true d = absurd (d refl)
other_bit false false d = absurd (d refl)
other_bit true false d = refl
other_bit false true d = refl

lt_or : (i n : ℕ) → (i < n) ⊎ (n ≤ i)
lt_or i zero = inr (omega arith)
lt_or zero (suc n) = inl (omega arith)
lt_or (suc i) (suc n) = elim (lt_or i n) [ inl lt ↦ inl (omega arith) | inr le ↦ inr (omega arith) ]

-- the bits before a difference are the same
pub same_before : (a b : List ℕ) (m n from at : ℕ) → HaveInCommon a m b n from → ((i : ℕ) → from ≤ i → i < at → bit_of a i ≡ bit_of b i) → (i : ℕ) → i < at → bit_of a i ≡ bit_of b i
same_before a b m n from at common same i lt = elim (lt_or i from) as (λ _. bit_of a i ≡ bit_of b i) [
  | inl before ↦ common.bits i before
  | inr after ↦ same i after lt
]

module _ (a b : List ℕ) (m n : ℕ) where
  split_to : (k : ℕ) → k ≤ m → k ≤ n → ((i : ℕ) → i < k → bit_of a i ≡ bit_of b i) → split_from a b m n 0 ≡ split_from a b m n k
  split_to zero lm ln same = refl
  split_to (suc k) lm ln same =
      let next : k + 1 ≡ suc k = omega arith in
      split_to k (omega arith) (omega arith) (λ i lt. same i (omega arith))
      ∙ split_on a b m n k (omega arith) (omega arith) (same_bit (bit_of a k) (bit_of b k) (same k (omega arith)))
      ∙ ap (split_from a b m n) next

  -- the bits before k are the same in both
  module _ (k : ℕ) (lm : k ≤ m) (ln : k ≤ n) (same : (i : ℕ) → i < k → bit_of a i ≡ bit_of b i) where
    whole : split_of (bits_of a m) (bits_of b n) ≡ split_from a b m n k
    whole = split_start a b m n ∙ split_to k lm ln same

    pub splits_here : k < m → k < n → bit_of a k ≢ bit_of b k → split_of (bits_of a m) (bits_of b n) ≡ Some (k * 2 + 1)
    splits_here km kn d = whole ∙ split_here a b m n k km kn (other_bit (bit_of a k) (bit_of b k) d)

    pub splits_none : m ≡ k → n ≡ k → split_of (bits_of a m) (bits_of b n) ≡ None
    splits_none em en = whole ∙ split_none a b m n k (omega arith) (omega arith)

    pub splits_at_end : (k < m → k < n → ⊥) → (m ≡ n → ⊥) → split_of (bits_of a m) (bits_of b n) ≡ Some (k * 2)
    splits_at_end past differ = whole ∙ split_end a b m n k lm ln past differ

    later : (x : Bool) (xs : List Bool) (y : Bool) (ys : List Bool) (at : ℕ) → option_map (λ i. i + k * 2) (split_of (x ∷ xs) (y ∷ ys)) ≡ Some at → k * 2 < at
    later x xs y ys at e = by (is_same_bit x y) (split_of xs ys) e
      where
        by : (s : Bool) (o : Option ℕ) → option_map (λ i. i + k * 2) (cond s (option_map (λ i. i + 2) o) (Some 1)) ≡ Some at → k * 2 < at
        by true None e = cc
        by true (Some i) e = let same : i + 2 + k * 2 ≡ at = cc in omega arith
        by false o e = let same : 1 + k * 2 ≡ at = cc in omega arith

    -- both go on, so they split after the bit that says so
    pub splits_later : k < m → k < n → (at : ℕ) → split_of (bits_of a m) (bits_of b n) ≡ Some at → k * 2 < at
    splits_later km kn at e = by (m - k) (n - k) refl refl (sym whole ∙ e)
      where
        by : (r s : ℕ) → m - k ≡ r → n - k ≡ s → option_map (λ i. i + k * 2) (split_of (bits_from a k r) (bits_from b k s)) ≡ Some at → k * 2 < at
        by zero s er es e = absurd (omega arith)
        by (suc r) zero er es e = absurd (omega arith)
        by (suc r) (suc s) er es e = later (bit_of a k) (bits_from a (k + 1) r) (bit_of b k) (bits_from b (k + 1) s) at e

before_by : (limit at : ℕ) (b : Bool) → nat_lt at limit ≡ b → at < limit → Some at ≡ cond b (Some at) None
before_by limit at true e lt = refl
before_by limit at false e lt = absurd (grind (arith, nat_tests))

pub split_early : (limit at : ℕ) (o : Option ℕ) → o ≡ Some at → at < limit → Some at ≡ split_before_of limit o
split_early limit at o e lt = rw e (before_by limit at (nat_lt at limit) refl lt)

after_by : (limit at : ℕ) (b : Bool) → nat_lt at limit ≡ b → limit ≤ at → None ≡ cond b (Some at) None
after_by limit at true e le = absurd (grind (arith, nat_tests))
after_by limit at false e le = refl

pub split_late : (limit : ℕ) (o : Option ℕ) → ((at : ℕ) → o ≡ Some at → limit ≤ at) → None ≡ split_before_of limit o
split_late limit None late = refl
split_late limit (Some at) late = after_by limit at (nat_lt at limit) refl (late at refl)

pub none_late : (limit : ℕ) (o : Option ℕ) → o ≡ None → None ≡ split_before_of limit o
none_late limit o e = rw e

pub split_at_late : (limit at : ℕ) (o : Option ℕ) → o ≡ Some at → limit ≤ at → None ≡ split_before_of limit o
split_at_late limit at o e le = rw e (after_by limit at (nat_lt at limit) refl le)

get_left : (p r : List Bool) (j : ℕ) → j < length p → get_or (p ++ r) j false ≡ get_or p j false
get_left [] r j lt = absurd (omega arith)
get_left (x ∷ p) r zero lt = refl
get_left (x ∷ p) r (suc j) lt = get_left p r j (omega arith)

prefix_get : (p xs : List Bool) (j : ℕ) → IsPrefix p xs → j < length p → get_or xs j false ≡ get_or p j false
prefix_get p xs j q lt = ap (λ l. get_or l j false) q.1 ∙ get_left p q.0 j lt

-- the bit of a key that its code has in common with others
common_bit : (p : List Bool) (a : List ℕ) (m i : ℕ) → IsPrefix p (code_of (bits_of a m)) → i < m → 2 * i + 1 < length p → bit_of a i ≡ get_or p (2 * i + 1) false
common_bit p a m i q lt lp =
    sym (bits_get a m i lt) ∙ sym (code_odd (bits_of a m) i) ∙ prefix_get p (code_of (bits_of a m)) (2 * i + 1) q lp

-- keys whose codes begin alike have their first bits in common
pub have_in_common : (p : List Bool) (a : List ℕ) (m : ℕ) (b : List ℕ) (n depth : ℕ) → depth ≡ length p → IsPrefix p (code_of (bits_of a m)) → IsPrefix p (code_of (bits_of b n)) → HaveInCommon a m b n (depth / 2)
have_in_common p a m b n depth deep qa qb =
    let long = prefix_length p (code_of (bits_of a m)) qa in
    let also = prefix_length p (code_of (bits_of b n)) qb in
    let la : length (code_of (bits_of a m)) ≡ 2 * m + 1 = code_length (bits_of a m) ∙ ap (λ k. 2 * k + 1) (bits_length a m) in
    let lb : length (code_of (bits_of b n)) ≡ 2 * n + 1 = code_length (bits_of b n) ∙ ap (λ k. 2 * k + 1) (bits_length b n) in
    record {
      first = omega arith;
      second = omega arith;
      bits = λ i lt. common_bit p a m i qa (omega arith) (omega arith) ∙ sym (common_bit p b n i qb (omega arith) (omega arith));
    }

pub in_common_back : (a : List ℕ) (m : ℕ) (b : List ℕ) (n k : ℕ) → HaveInCommon a m b n k → HaveInCommon b n a m k
in_common_back a m b n k s = record { first = s.second; second = s.first; bits = λ i lt. sym (s.bits i lt) }

split_self : (x : List Bool) → split_of x x ≡ None
split_self [] = refl
split_self (b ∷ x) = rw (self_same b, split_self x)

-- two keys are the same where their codes don't split
pub same_by_split : (x y : List Bool) (o : Option ℕ) (none : Bool) → o ≡ split_of x y → is_some o ≡ not none → none ≡ is_same_key x y
same_by_split x y None true e is = rw (← split_same x y (sym e)) (sym (key_self x))
same_by_split x y None false e is = cc
same_by_split x y (Some at) true e is = cc
same_by_split x y (Some at) false e is = sym (key_differs x y (λ same. some_none at (e ∙ ap (split_of x) (sym same) ∙ split_self x)))
  where
    some_none : (at : ℕ) → Some at ≡ None → ⊥
    some_none at e = cc

pub other_lengths : (a b : List ℕ) (m n : ℕ) → m ≢ n → false ≡ is_same_key (bits_of a m) (bits_of b n)
other_lengths a b m n d = sym (key_differs (bits_of a m) (bits_of b n) (λ same. d (sym (bits_length a m) ∙ ap length same ∙ bits_length b n)))
