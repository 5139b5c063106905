-- The head of a use takes a value of the kind that its method reads.
use Rattle.std.proofs.Common.{◌≡◌, ℕ, List, subst, sym}
use Rattle.std.specs.Prelude.{Option, None, Some, IfSome, slice_get}
use Rattle.hx_text.specs.declared.kinds.By.{By}
use Rattle.hx_sample.specs.declared.sample.Value.{Value}
use Rattle.hx_sample.specs.Keys.{kind_by, IsOfKind}
use Rattle.hx_sample.specs.Tables.{TableHead, TakesValue}
use Rattle.hx_expr.specs.Values.{IsHeadBy}

takes_at : (found : Option TableHead) (method : By) (v : Value)
    → IfSome found (λ h. h.by ≡ method) → IsOfKind (kind_by method) v
    → IfSome found (λ h. IsOfKind (kind_by h.by) v)
takes_at None method v is kind = tt
takes_at (Some h) method v is kind = subst (λ (m : By). IsOfKind (kind_by m) v) (sym is) kind

pub head_takes : (heads : List TableHead) (head : ℕ) (method : By) (v : Value)
    → IsHeadBy heads head method → IsOfKind (kind_by method) v → TakesValue heads head v
head_takes heads head method v is kind = takes_at (slice_get heads head) method v is.by kind
