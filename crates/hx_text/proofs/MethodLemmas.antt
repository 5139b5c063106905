-- A match method is known by its number.
use Rattle.std.proofs.Common.{◌≡◌, refl, sym, ap, ◌∙◌}
use Rattle.std.specs.Prelude.{Some, slice_get}
use Rattle.hx_text.specs.declared.kinds.By.{By}
use Rattle.hx_text.specs.declared.kinds.By.TheVariants as by
use Rattle.hx_text.specs.Methods.{method_number, methods}

method_in_place : (method : By) → slice_get methods (method_number method) ≡ Some method
method_in_place by.Found = refl
method_in_place by.Bool = refl
method_in_place by.Int = refl
method_in_place by.Ip = refl
method_in_place by.Bin = refl
method_in_place by.Len = refl
method_in_place by.Str = refl
method_in_place by.Beg = refl
method_in_place by.End = refl
method_in_place by.Sub = refl
method_in_place by.Dir = refl
method_in_place by.Dom = refl
method_in_place by.Reg = refl

-- methods with one number are one
pub same_method : (a b : By) → method_number a ≡ method_number b → a ≡ b
same_method a b same =
    let first : slice_get methods (method_number a) ≡ Some a = method_in_place a in
    let second : slice_get methods (method_number b) ≡ Some b = method_in_place b in
    let both : Some a ≡ Some b = sym first ∙ ap (λ n. slice_get methods n) same ∙ second in
    cc
