-- Heads of a method take the values of the type that it looks at.
use Rattle.std.proofs.Common.{◌≡◌, ◌≢◌, ℕ, List, Option, None, Some, sym, subst}
use Rattle.std.specs.Prelude.{IfSome, slice_get, slice_index_or}
use Rattle.std.specs.List.{All}
use Rattle.hx_acl.specs.Tests.{TakesHead}
use Rattle.hx_expr.specs.Values.{IsHeadBy}
use Rattle.hx_sample.specs.Cast.{kind_of}
use Rattle.hx_sample.specs.Keys.{IsOfKind, kind_by}
use Rattle.hx_sample.specs.Tables.{TableHead}
use Rattle.hx_sample.specs.declared.sample.Value.{Value}
use Rattle.hx_text.specs.declared.kinds.By.{By}
use Rattle.hx_text.specs.declared.kinds.Kind.{Kind}
use Rattle.hx_text.specs.declared.kinds.Kind.TheVariants as kind

-- a value that has the type, unless that is any
of_kind : (k : Kind) (v : Value) → (k ≢ kind.Any → kind_of v ≡ k) → IsOfKind k v
of_kind kind.Any v is = tt
of_kind kind.Bool v is = is (λ e. cc e)
of_kind kind.Int v is = is (λ e. cc e)
of_kind kind.Ip v is = is (λ e. cc e)
of_kind kind.Str v is = is (λ e. cc e)
of_kind kind.Bin v is = is (λ e. cc e)
of_kind kind.Method v is = is (λ e. cc e)

head_takes : (method : By) (v : Value) → IsOfKind (kind_by method) v → (o : Option TableHead) → IfSome o (λ h. h.by ≡ method) → IfSome o (λ h. IsOfKind (kind_by h.by) v)
head_takes method v is None by = tt
head_takes method v is (Some h) by = subst (λ (m : By). IsOfKind (kind_by m) v) (sym by) is

pub heads_take : (heads : List TableHead) (method : By) (v : Value) (positions : List ℕ) → (kind_by method ≢ kind.Any → kind_of v ≡ kind_by method) → All (λ position. IsHeadBy heads position method) positions → All (TakesHead heads v) positions
heads_take heads method v positions is all = λ k d within.
    record {
      head = (all k d within).head;
      value = head_takes method v (of_kind (kind_by method) v is) (slice_get heads (slice_index_or positions k d)) (all k d within).by;
    }
