-- Places of which the first so many hold a value.
use Rattle.std.proofs.Common.{◌≡◌, ℕ, zero, suc, ◌<◌, List, [], ◌∷◌, ◌++◌, length, get_or, set, replicate, slice_get, Option, Some, None, refl, sym, ap, ◌∙◌, subst, arith}
use Rattle.std.proofs.lemmas.List.{length-replicate}
use Rattle.hx_pool.specs.Memory.{HoldsAt, values_in, IsFilled}

filled_none : (X : Type 0) (n : ℕ) → IsFilled {X = X} (replicate n None) 0
filled_none X zero = refl
filled_none X (suc n) = (refl, filled_none X n)

module _ {X : Type 0} where
  pub none_places : (vs : List (Option X)) (n : ℕ) → vs ≡ replicate n None → (length vs ≡ n) × IsFilled vs 0
  none_places vs n e = (ap length e ∙ length-replicate n None, subst (λ ws. IsFilled ws 0) (sym e) (filled_none X n))

  none_in : (vs : List (Option X)) → IsFilled vs 0 → values_in vs ≡ []
  none_in [] f = refl
  none_in (None ∷ vs) f = none_in vs f.1
  none_in (Some x ∷ vs) f = absurd f

  pub filled_count : (vs : List (Option X)) (n : ℕ) → IsFilled vs n → length (values_in vs) ≡ n
  filled_count [] n f = sym f
  filled_count (None ∷ vs) n f = filled_count vs 0 f.1 ∙ sym f.0
  filled_count (Some x ∷ vs) zero f = absurd f
  filled_count (Some x ∷ vs) (suc n) f = ap suc (filled_count vs n f)

  -- the index of a value is that of its place
  pub filled_read : (vs : List (Option X)) (n i : ℕ) → IsFilled vs n → i < n → get_or vs i None ≡ slice_get (values_in vs) i
  filled_read [] n i f lt = absurd (omega (arith, f))
  filled_read (None ∷ vs) n i f lt = absurd (omega (arith, f.0))
  filled_read (Some x ∷ vs) zero i f lt = absurd f
  filled_read (Some x ∷ vs) (suc n) zero f lt = refl
  filled_read (Some x ∷ vs) (suc n) (suc i) f lt = filled_read vs n i f (omega arith)

  pub filled_holds : (vs : List (Option X)) (n i : ℕ) → IsFilled vs n → i < n → HoldsAt vs i
  filled_holds [] n i f lt = absurd (omega (arith, f))
  filled_holds (None ∷ vs) n i f lt = absurd (omega (arith, f.0))
  filled_holds (Some x ∷ vs) zero i f lt = absurd f
  filled_holds (Some x ∷ vs) (suc n) zero f lt = (x, refl)
  filled_holds (Some x ∷ vs) (suc n) (suc i) f lt = filled_holds vs n i f (omega arith)

  pub filled_room : (vs : List (Option X)) (n : ℕ) → IsFilled vs n → get_or vs n None ≡ None
  filled_room [] n f = refl
  filled_room (None ∷ vs) n f = rw f.0 refl
  filled_room (Some x ∷ vs) zero f = absurd f
  filled_room (Some x ∷ vs) (suc n) f = filled_room vs n f

  -- the next value goes into the first place that has room
  pub filled_push : (vs : List (Option X)) (n : ℕ) (x : X) → IsFilled vs n → n < length vs → IsFilled (set vs n (Some x)) (suc n) × (values_in (set vs n (Some x)) ≡ values_in vs ++ x ∷ [])
  filled_push [] n x f lt = absurd (omega arith)
  filled_push (None ∷ vs) zero x f lt = (f.1, ap (λ l. x ∷ l) (none_in vs f.1) ∙ ap (λ l. l ++ x ∷ []) (sym (none_in vs f.1)))
  filled_push (None ∷ vs) (suc n) x f lt = absurd (omega (arith, f.0))
  filled_push (Some y ∷ vs) zero x f lt = absurd f
  filled_push (Some y ∷ vs) (suc n) x f lt =
      let pushed = filled_push vs n x f (omega arith) in (pushed.0, ap (λ l. y ∷ l) pushed.1)

  pub filled_set : (vs : List (Option X)) (n i : ℕ) (x : X) → IsFilled vs n → i < n → IsFilled (set vs i (Some x)) n × (values_in (set vs i (Some x)) ≡ set (values_in vs) i x)
  filled_set [] n i x f lt = absurd (omega (arith, f))
  filled_set (None ∷ vs) n i x f lt = absurd (omega (arith, f.0))
  filled_set (Some y ∷ vs) zero i x f lt = absurd f
  filled_set (Some y ∷ vs) (suc n) zero x f lt = (f, refl)
  filled_set (Some y ∷ vs) (suc n) (suc i) x f lt =
      let kept = filled_set vs n i x f (omega arith) in (kept.0, ap (λ l. y ∷ l) kept.1)

  -- the last value is taken out
  pub filled_pop : (vs : List (Option X)) (n m : ℕ) → n ≡ suc m → IsFilled vs n → IsFilled (set vs m None) m
  filled_pop [] n m e f = absurd (omega (arith, f))
  filled_pop (None ∷ vs) n m e f = absurd (omega (arith, f.0))
  filled_pop (Some x ∷ vs) zero m e f = absurd f
  filled_pop (Some x ∷ vs) (suc n) zero e f = let none : n ≡ 0 = omega arith in (refl, subst (IsFilled vs) none f)
  filled_pop (Some x ∷ vs) (suc n) (suc m) e f = filled_pop vs n m (omega arith) f

  -- places without values are all alike
  pub none_filled : (vs : List (Option X)) (n : ℕ) → length vs ≡ n → IsFilled vs 0 → vs ≡ replicate n None
  none_filled [] zero e f = refl
  none_filled [] (suc n) e f = absurd (omega arith)
  none_filled (None ∷ vs) zero e f = absurd (omega arith)
  none_filled (None ∷ vs) (suc n) e f = ap (λ l. None ∷ l) (none_filled vs n (omega arith) f.1)
  none_filled (Some x ∷ vs) n e f = absurd f
