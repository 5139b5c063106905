-- The uses of a reference have its heads.
use Rattle.std.proofs.Common.{◌≡◌, ℕ, zero, suc, ◌+◌, ◌==◌, Bool, List, [], ◌∷◌, refl, ap, arith, inl, inr}
use Rattle.std.specs.Prelude.{Option, None, Some, IfSome, slice_get, option_map, ⊤}
use Rattle.std.proofs.lemmas.Bool.{cases_Bool}
use Rattle.hx_text.specs.declared.kinds.By.{By}
use Rattle.hx_sample.specs.Tables.{TableHead}
use Rattle.hx_expr.specs.Values.{IsHeadBy}
use Rattle.hx_text.specs.Methods.{pattern_methods}
use Rattle.hx_refs.specs.Uses.{Use, is_use, use_parts, use_with, uses_by, uses_from, uses_in_order, uses_of, with_cases, with_first}

-- the head of the use is one of these, which are numbered from `number` on
abbrev IsOf : ℕ → List TableHead → Use → Type 0
IsOf number heads u = (i : ℕ) × (u.head ≡ number + i) × IsHeadBy heads i u.by

abbrev Each : (Use → Type 0) → List Use → Type 0
Each P [] = ⊤
Each P (u ∷ uses) = P u × Each P uses

later : (number : ℕ) (g : TableHead) (heads : List TableHead) (u : Use) → IsOf (number + 1) heads u
    → IsOf number (g ∷ heads) u
later number g heads u (i, head, is) = (suc i, omega (arith, head), record { head = omega (arith, is.head); by = is.by })

each_later : (number : ℕ) (g : TableHead) (heads : List TableHead) (uses : List Use)
    → Each (IsOf (number + 1) heads) uses → Each (IsOf number (g ∷ heads)) uses
each_later number g heads [] each = tt
each_later number g heads (u ∷ uses) each =
    (later number g heads u each.0, each_later number g heads uses each.1)

each_from : (number : ℕ) (heads : List TableHead) (r : ℕ) → Each (IsOf number heads) (uses_from number heads r)
each_from number [] r = tt
each_from number (g ∷ heads) r =
    let rest = each_later number g heads (uses_from (number + 1) heads r) (each_from (number + 1) heads r) in
    elim (cases_Bool (g.list == r)) [
      | inl same ↦ rw same ((0, omega arith, record { head = omega arith; by = refl }), rest)
      | inr other ↦ rw other rest
    ]

use_with_is : (P : Use → Type 0) (method : By) (ci : Bool) (uses : List Use) → Each P uses
    → IfSome (use_with method ci uses) P
use_with_is P method ci [] each = tt
use_with_is P method ci (u ∷ uses) each =
    elim (cases_Bool (is_use method ci u)) [
      | inl this ↦ rw this each.0
      | inr other ↦ rw other (use_with_is P method ci uses each.1)
    ]

each_with_first : (P : Use → Type 0) (o : Option Use) (uses : List Use) → IfSome o P → Each P uses
    → Each P (with_first o uses)
each_with_first P None uses first each = each
each_with_first P (Some u) uses first each = (first, each)

each_by : (P : Use → Type 0) (ways : List (By × Bool)) (uses : List Use) → Each P uses → Each P (uses_by ways uses)
each_by P [] uses each = tt
each_by P (way ∷ ways) uses each =
    each_with_first P (use_with way.0 way.1 uses) (uses_by ways uses)
    (use_with_is P way.0 way.1 uses each) (each_by P ways uses each)

each_at : (P : Use → Type 0) (uses : List Use) (k : ℕ) → Each P uses → IfSome (slice_get uses k) P
each_at P [] k each = tt
each_at P (u ∷ uses) zero each = each.0
each_at P (u ∷ uses) (suc k) each = each_at P uses k each.1

abbrev Parts : Type 0
Parts = By × Bool × ℕ

head_of_parts : (heads : List TableHead) (o : Option Use) (parts : Parts) → IfSome o (IsOf 0 heads)
    → Some parts ≡ option_map use_parts o → IsHeadBy heads parts.2 parts.0
head_of_parts heads None parts is same = absurd (cc)
head_of_parts heads (Some u) parts (i, place, is) same =
    let whole : parts ≡ use_parts u = cc in
    let number : u.head ≡ i = omega (arith, place) in
    let head : parts.2 ≡ u.head = ap (λ (p : Parts). p.2) whole in
    let method : parts.0 ≡ u.by = ap (λ (p : Parts). p.0) whole in
    rw (head, number, method) is

-- a use that is told has a head of these, by its method
pub told_use_has_head : (heads : List TableHead) (r k : ℕ) (method : By) (ci : Bool) (head : ℕ)
    → Some (method, ci, head) ≡ option_map use_parts (slice_get (uses_in_order (uses_of heads r)) k)
    → IsHeadBy heads head method
told_use_has_head heads r k method ci head parts =
    head_of_parts heads (slice_get (uses_in_order (uses_of heads r)) k) (method, ci, head)
    (each_at (IsOf 0 heads) (uses_in_order (uses_of heads r)) k
    (each_by (IsOf 0 heads) (with_cases pattern_methods) (uses_of heads r) (each_from 0 heads r))) parts
