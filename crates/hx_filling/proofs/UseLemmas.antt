-- The use of a reference that is found by a method and a case is one by these.
use Rattle.std.proofs.Common.{◌≡◌, Bool, true, false, List, [], ◌∷◌, refl, arith, inl, inr}
use Rattle.std.specs.Prelude.{Some}
use Rattle.std.proofs.lemmas.Bool.{cases_Bool, eqb-true}
use Rattle.hx_text.specs.declared.kinds.By.{By}
use Rattle.hx_text.proofs.MethodLemmas.{same_method}
use Rattle.hx_refs.specs.Uses.{Use, is_use, use_place, use_with}

same_place : (a b : By) (c d : Bool) → use_place a c ≡ use_place b d → (a ≡ b) × (c ≡ d)
same_place a b true true same = (same_method a b (omega arith), refl)
same_place a b false false same = (same_method a b (omega arith), refl)
same_place a b true false same = absurd (omega arith)
same_place a b false true same = absurd (omega arith)

pub use_is : (method : By) (ci : Bool) (uses : List Use) (u : Use) → use_with method ci uses ≡ Some u
    → (u.by ≡ method) × (u.ci ≡ ci)
use_is method ci [] u is = absurd (cc)
use_is method ci (v ∷ uses) u is =
    elim (cases_Bool (is_use method ci v)) [
      | inr passed ↦ use_is method ci uses u (rw passed at is)
      | inl this ↦
          let same : Some v ≡ Some u = rw this at is in
          let v_is : v ≡ u = cc in
          rw v_is at (same_place v.by method v.ci ci (eqb-true (use_place v.by v.ci) (use_place method ci) this))
    ]
