-- What a pool's callers know of a pool that has one value written.
use Rattle.std.proofs.Common.{◌≡◌, ◌≢◌, ◌∙◌, ℕ, zero, suc, ◌<◌, List, [], ◌∷◌, ◌++◌, length, get_or, set, Option, Some, None, arith, refl, sym, ap}
use Rattle.std.proofs.lemmas.List.{get_or-set_same, get_or-set_other, get_or_past}
use Rattle.hx_pool.specs.Pool.{Pool, IsLive, Updates, with_value}

module _ {T : Type 0} where
  pub Updates-set : (old new : Pool T) (id : ℕ) (value : Option T) → id < length old.slots → new.slots ≡ set old.slots id value → Updates old new id value
  Updates-set old new id value within written =
      record {
        changed = rw written (get_or-set_same old.slots id value None within);
        others = λ k differs. rw written (get_or-set_other old.slots id k value None differs);
      }

  pub live_within : (p : Pool T) (id : ℕ) → IsLive p id → id < length p.slots
  live_within p id live = grind (arith, get_or_past)

  pub Updates-with_value : (p : Pool T) (id : ℕ) (value : T) → IsLive p id → Updates p (with_value p id value) id (Some value)
  Updates-with_value p id value live = Updates-set p _ id (Some value) (live_within p id live) refl

  push_here : (os : List (Option T)) (o : Option T) → get_or (os ++ o ∷ []) (length os) None ≡ o
  push_here [] o = refl
  push_here (x ∷ os) o = push_here os o

  push_other : (os : List (Option T)) (o : Option T) (k : ℕ) → k ≢ length os → get_or (os ++ o ∷ []) k None ≡ get_or os k None
  push_other [] o zero other = absurd (other refl)
  push_other [] o (suc k) other = refl
  push_other (x ∷ os) o zero other = refl
  push_other (x ∷ os) o (suc k) other = push_other os o k (λ e. other (ap suc e))

  -- one more slot
  pub Updates-push : (old new : Pool T) (id : ℕ) (value : Option T) → id ≡ length old.slots → new.slots ≡ old.slots ++ value ∷ [] → Updates old new id value
  Updates-push old new id value at pushed =
      record {
        changed = rw (pushed, at) (push_here old.slots value);
        others = λ k other. rw pushed (push_other old.slots value k (λ e. other (e ∙ sym at)));
      }
