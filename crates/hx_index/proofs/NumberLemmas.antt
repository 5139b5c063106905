-- Lists of distinct numbers, filtered and without one of them.
use Rattle.std.proofs.Common.{◌≡◌, ℕ, zero, suc, ◌+◌, ◌<◌, ◌≤◌, ◌==◌, Bool, true, false, cond, not, List, [], ◌∷◌, ◌++◌, length, filter, take, refl, sym, ap, subst, ◌∙◌, inl, inr, arith, length-append, true≢false, ne_eqb, eq-eqb}
use Rattle.std.proofs.lemmas.Bool.{cases_eq}
use Rattle.hx_pool.specs.Chain.{IsIn, AreDistinct}
use Rattle.hx_pool.proofs.ChainLemmas.{in_right}

-- ---- filters

filtered_step : (p : ℕ → Bool) (x k : ℕ) (xs : List ℕ) (b : Bool) → p x ≡ b → IsIn k (cond b (x ∷ filter p xs) (filter p xs)) → (IsIn k (filter p xs) → IsIn k xs × (p k ≡ true)) → IsIn k (x ∷ xs) × (p k ≡ true)
filtered_step p x k xs true e (inl same) rest = (inl same, subst (λ n. p n ≡ true) (sym same) e)
filtered_step p x k xs true e (inr there) rest = let r = rest there in (inr r.0, r.1)
filtered_step p x k xs false e there rest = let r = rest there in (inr r.0, r.1)

-- a number that a filter leaves passes, and is one of the list
pub in_filtered : (p : ℕ → Bool) (xs : List ℕ) (k : ℕ) → IsIn k (filter p xs) → IsIn k xs × (p k ≡ true)
in_filtered p [] k there = absurd there
in_filtered p (x ∷ xs) k there = filtered_step p x k xs (p x) refl there (in_filtered p xs k)

distinct_step : (p : ℕ → Bool) (x : ℕ) (xs : List ℕ) (b : Bool) → (IsIn x xs → ⊥) → AreDistinct (filter p xs) → AreDistinct (cond b (x ∷ filter p xs) (filter p xs))
distinct_step p x xs true off rest = (λ there. off (in_filtered p xs x there).0, rest)
distinct_step p x xs false off rest = rest

pub distinct_filtered : (p : ℕ → Bool) (xs : List ℕ) → AreDistinct xs → AreDistinct (filter p xs)
distinct_filtered p [] d = tt
distinct_filtered p (x ∷ xs) d = distinct_step p x xs (p x) d.0 (distinct_filtered p xs d.1)

-- ---- without a number

abbrev pub less : ℕ → List ℕ → List ℕ
less id xs = filter (λ x. not (x == id)) xs

not_true : (b : Bool) → not b ≡ true → b ≡ false
not_true true e = absurd (true≢false (sym e))
not_true false e = refl

pub in_less : (id : ℕ) (xs : List ℕ) (k : ℕ) → IsIn k (less id xs) → IsIn k xs × (k ≡ id → ⊥)
in_less id xs k there =
    let r = in_filtered (λ x. not (x == id)) xs k there in
    (r.0, λ same. true≢false (sym (eq-eqb k id same) ∙ not_true (k == id) r.1))

pub less_off : (id : ℕ) (xs : List ℕ) → (IsIn id xs → ⊥) → less id xs ≡ xs
less_off id [] off = refl
less_off id (x ∷ xs) off =
    let other : (x ≡ id) → ⊥ = λ same. off (inl (sym same)) in
    rw (ne_eqb x id other) (ap (λ ys. x ∷ ys) (less_off id xs (λ there. off (inr there))))

pub less_split : (before : List ℕ) (id : ℕ) (after : List ℕ) → AreDistinct (before ++ id ∷ after) → less id (before ++ id ∷ after) ≡ before ++ after
less_split [] id after d = rw (eq-eqb id id refl) (less_off id after d.0)
less_split (x ∷ before) id after d =
    let other : (x ≡ id) → ⊥ = λ same. d.0 (in_right before (id ∷ after) x (inl same)) in
    rw (ne_eqb x id other) (ap (λ ys. x ∷ ys) (less_split before id after d.1))

-- the list around one of its numbers
pub record Around (id : ℕ) (xs : List ℕ) : Type 0 where
  pub before : List ℕ
  pub after : List ℕ
  pub is : xs ≡ before ++ id ∷ after

pub around : (id : ℕ) (xs : List ℕ) → IsIn id xs → Around id xs
around id [] there = absurd there
around id (x ∷ xs) (inl same) = record { before = []; after = xs; is = ap (λ y. y ∷ xs) (sym same) }
around id (x ∷ xs) (inr there) =
    let a = around id xs there in
    record { before = x ∷ a.before; after = a.after; is = ap (λ ys. x ∷ ys) a.is }

pub less_around : (id : ℕ) (xs : List ℕ) (a : Around id xs) → AreDistinct xs → less id xs ≡ a.before ++ a.after
less_around id xs a d = ap (less id) a.is ∙ less_split a.before id a.after (subst AreDistinct a.is d)

pub length_less : (id : ℕ) (xs : List ℕ) → AreDistinct xs → IsIn id xs → length (less id xs) + 1 ≡ length xs
length_less id xs d there =
    let a = around id xs there in
    rw (less_around id xs a d) (omega (arith, ap length a.is, length-append a.before a.after, length-append a.before (id ∷ a.after)))

length_most : (id : ℕ) (xs : List ℕ) → AreDistinct xs → length xs ≤ length (less id xs) + 1
length_most id [] d = omega arith
length_most id (x ∷ xs) d = elim (cases_eq x id) [
  | inl same ↦
      let off : IsIn id xs → ⊥ = λ there. d.0 (subst (λ k. IsIn k xs) (sym same) there) in
      rw (eq-eqb x id same, less_off id xs off) (omega arith)
  | inr other ↦ rw (ne_eqb x id other) (omega (arith, length_most id xs d.1))
]

below_less : (n k : ℕ) → k < suc n → (k ≡ n → ⊥) → k < n
below_less n k below other = omega (arith, other)

-- distinct numbers below a bound are at most so many
pub distinct_few : (n : ℕ) (xs : List ℕ) → AreDistinct xs → ((k : ℕ) → IsIn k xs → k < n) → length xs ≤ n
distinct_few zero [] d below = omega arith
distinct_few zero (x ∷ xs) d below = absurd (omega (arith, below x (inl refl)))
distinct_few (suc n) xs d below =
    let rest = distinct_few n (less n xs) (distinct_filtered (λ x. not (x == n)) xs d) (λ k there. let r = in_less n xs k there in below_less n k (below k r.0) r.1) in
    omega (arith, rest, length_most n xs d)

-- ---- the first items of a list

pub cut_length : (n : ℕ) (xs : List ℕ) → n ≤ length xs → length (take n xs) ≡ n
cut_length zero xs few = refl
cut_length (suc n) [] few = absurd (omega (arith, few))
cut_length (suc n) (x ∷ xs) few = ap suc (cut_length n xs (omega (arith, few)))

pub cut_whole : (n : ℕ) (xs : List ℕ) → length xs ≤ n → xs ≡ take n xs
cut_whole zero [] few = refl
cut_whole zero (x ∷ xs) few = absurd (omega (arith, few))
cut_whole (suc n) [] few = refl
cut_whole (suc n) (x ∷ xs) few = ap (λ ys. x ∷ ys) (cut_whole n xs (omega (arith, few)))
