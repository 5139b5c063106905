-- How a head searches, by the uses of the reference that it searches.
use Rattle.std.proofs.Common.{◌≡◌, ℕ, zero, suc, ◌+◌, ◌==◌, Bool, List, [], ◌∷◌, refl, sym, ap, ◌∙◌, arith, inl, inr}
use Rattle.std.specs.Prelude.{option_map, slice_get, Option, None, Some, ⊤}
use Rattle.std.specs.List.{filter}
use Rattle.std.proofs.lemmas.Bool.{cases_Bool}
use Rattle.std.proofs.lemmas.Bool.Decides.{Decides-eqb}
use Rattle.hx_text.specs.declared.kinds.By.{By}
use Rattle.hx_text.specs.Methods.{pattern_methods}
use Rattle.hx_sample.specs.Find.{first_item}
use Rattle.hx_sample.specs.Tables.{TableHead}
use Rattle.hx_refs.specs.Uses.{use_parts, use_with, uses_by, uses_from, uses_in_order, uses_of, with_cases, with_first, Use}

-- the head of a use is that by which its method searches a list
abbrev IsHeadOf : List TableHead → ℕ → Use → Type 0
IsHeadOf heads r u = slice_get heads u.head ≡ Some (record { by = u.by; ci = u.ci; list = r })

abbrev Each : (Use → Type 0) → List Use → Type 0
Each P [] = ⊤
Each P (u ∷ uses) = P u × Each P uses

each_at : (P : Use → Type 0) (uses : List Use) (k : ℕ) (u : Use) → Each P uses → slice_get uses k ≡ Some u → P u
each_at P [] k u all is = absurd (cc)
each_at P (v ∷ uses) zero u all is =
    let same : v ≡ u = cc in rw same at all.0
each_at P (v ∷ uses) (suc k) u all is = each_at P uses k u all.1 is

first_chosen : (P : Use → Type 0) (test : Use → Bool) (uses : List Use) (u : Use) → Each P uses
    → first_item (filter test uses) ≡ Some u → P u
first_chosen P test [] u all is = absurd (cc)
first_chosen P test (v ∷ uses) u all is = elim (cases_Bool (test v)) [
  | inl this ↦
      let found : Some v ≡ Some u = rw this at is in
      let same : v ≡ u = cc in rw same at all.0
  | inr passed ↦ first_chosen P test uses u all.1 (rw passed at is)
]

each_first : (P : Use → Type 0) (found : Option Use) (uses : List Use) → ((u : Use) → found ≡ Some u → P u) → Each P uses
    → Each P (with_first found uses)
each_first P None uses first all = all
each_first P (Some u) uses first all = (first u refl, all)

each_by : (P : Use → Type 0) (ways : List (By × Bool)) (uses : List Use) → Each P uses → Each P (uses_by ways uses)
each_by P [] uses all = tt
each_by P (way ∷ ways) uses all =
    each_first P (use_with way.0 way.1 uses) (uses_by ways uses)
    (λ u is. first_chosen P _ uses u all is) (each_by P ways uses all)

-- heads from a number on
each_from : (heads rest : List TableHead) (number r : ℕ)
    → ((i : ℕ) → slice_get rest i ≡ slice_get heads (number + i))
    → Each (IsHeadOf heads r) (uses_from number rest r)
each_from heads [] number r same = tt
each_from heads (h ∷ rest) number r same =
    let more : (i : ℕ) → slice_get rest i ≡ slice_get heads (number + 1 + i) =
    λ i. let place : number + suc i ≡ number + 1 + i = omega arith in rw place at (same (suc i)) in
    let others = each_from heads rest (number + 1) r more in
    let here : slice_get heads number ≡ Some h =
    let place : number + 0 ≡ number = omega arith in sym (rw place at (same 0)) in
    elim (cases_Bool (h.list == r)) [
      | inl this ↦
          let list : h.list ≡ r = (Decides-eqb h.list r).0 this in
          rw this (rw list at here, others)
      | inr other ↦ rw other others
    ]

-- ---- the uses in their order

-- the definition by all methods, which is long, isn't seen through this
ordered : List TableHead → ℕ → List Use
ordered heads r = uses_in_order (uses_of heads r)

ordered_is : (heads : List TableHead) (r : ℕ) → ordered heads r ≡ uses_in_order (uses_of heads r)
unfolding ordered
ordered_is heads r = refl

ordered_heads : (heads : List TableHead) (r : ℕ) → Each (IsHeadOf heads r) (ordered heads r)
unfolding ordered
ordered_heads heads r =
    each_by (IsHeadOf heads r) (with_cases pattern_methods) (uses_of heads r)
    (each_from heads heads 0 r (λ i. let place : 0 + i ≡ i = omega arith in rw place refl))

abbrev parts : By → Bool → ℕ → By × Bool × ℕ
parts method ci head = (method, ci, head)

-- the head of the use that stands at a place
pub head_at : (heads : List TableHead) (r k : ℕ) (method : By) (ci : Bool) (number head : ℕ)
    → Some (parts method ci number) ≡ option_map use_parts (slice_get (uses_in_order (uses_of heads r)) k)
    → number ≡ head → slice_get heads head ≡ Some (record { by = method; ci = ci; list = r })
head_at heads r k method ci number head is same =
    go (slice_get (ordered heads r) k) refl (rw (← ordered_is heads r) at is)
  where
    go : (found : Option Use) → slice_get (ordered heads r) k ≡ found
        → Some (parts method ci number) ≡ option_map use_parts found
        → slice_get heads head ≡ Some (record { by = method; ci = ci; list = r })
    go None at said = absurd (cc)
    go (Some u) at said =
        let all : parts method ci number ≡ use_parts u = cc in
        let by_is : u.by ≡ method = sym (ap (λ p. p.0) all) in
        let ci_is : u.ci ≡ ci = sym (ap (λ p. p.1) all) in
        let head_is : u.head ≡ head = sym (ap (λ p. p.2) all) ∙ same in
        rw (by_is, ci_is, head_is) at (each_at (IsHeadOf heads r) (ordered heads r) k u (ordered_heads heads r) at)
