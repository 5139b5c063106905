-- Faults of parts are faults of the statements that they stand in.
use Rattle.std.proofs.Common.{◌≡◌, ◌↔◌, ℕ, Bool, true, false, inl, inr, List, Option, None, Some, Result, Ok, Err, refl, sym, ◌∙◌, subst, IsSomeAnd, Contains, IsErrOf}
use Rattle.hx_expr.specs.Faults.{CompileCountsLarge}
use Rattle.hx_expr.specs.declared.PlanFault.{PlanFault}
use Rattle.hx_expr.specs.declared.PlanFault.TheVariants as plan
use Rattle.hx_outside.specs.Count.{Rose}
use Rattle.hx_outside.specs.Makers.{ExpressionText, LastIsAsked, MakerState}
use Rattle.hx_load.specs.Judging.{FaultOf, IsCodeFor, JudgedAs, StaysSmall}
use Rattle.hx_load.specs.Loading.{fault_of_plan}
use Rattle.hx_load.specs.declared.line_fault.LineFault.{LineFault}
use Rattle.hx_load.specs.declared.line_fault.LineFault.TheVariants as line

-- ---- states of a maker

pub stays : (before : MakerState) → StaysSmall before before
stays before = record { count = refl; last = refl }

pub then_stays : (before mid now : MakerState) → StaysSmall before mid → StaysSmall mid now
    → StaysSmall before now
then_stays before mid now first more =
    record { count = more.count ∙ first.count; last = more.last ∙ first.last }

pub some_as : (P Q : ExpressionText → Type 0) (large : Option ExpressionText)
    → ((text : ExpressionText) → P text → Q text) → IsSomeAnd large P → IsSomeAnd large Q
some_as P Q None reads is = is
some_as P Q (Some text) reads is = reads text is

-- ---- the fault of a part is one of the whole

code_as : (typed readable typed' readable' : Bool) (code : ℕ) → typed ≡ typed'
    → (readable ≡ false → readable' ≡ false) → IsCodeFor typed readable code
    → IsCodeFor typed' readable' code
code_as typed readable typed' readable' code same none (inl (wrong, is)) = inl (sym same ∙ wrong, is)
code_as typed readable typed' readable' code same none (inr (fits, wrong, is)) =
    inr (sym same ∙ fits, none wrong, is)

pub fault_as : (typed readable typed' readable' : Bool) (P Q : ExpressionText → Type 0)
    (before mid now : MakerState) (fault : LineFault) → typed ≡ typed'
    → (readable ≡ false → readable' ≡ false) → ((text : ExpressionText) → P text → Q text)
    → StaysSmall before mid → FaultOf typed readable P mid now fault
    → FaultOf typed' readable' Q before now fault
fault_as typed readable typed' readable' P Q before mid now (line.Refused code) same none reads small (is, more) =
    (code_as typed readable typed' readable' code same none is, then_stays before mid now small more)
fault_as typed readable typed' readable' P Q before mid now line.TooLarge same none reads small (fits, rose, last) =
    (sym same ∙ fits, subst (λ (n : ℕ). Rose n now.too_large) small.count rose, some_as P Q now.large reads last)
fault_as typed readable typed' readable' P Q before mid now line.NoMemory same none reads small more =
    then_stays before mid now small more

-- a part that is judged last, where the types fit
pub judged_as : {T : Type 0} (typed readable typed' readable' : Bool) (P Q : ExpressionText → Type 0)
    (before mid now : MakerState) (r : Result T LineFault) → typed ≡ typed'
    → readable ≡ readable' → ((text : ExpressionText) → P text → Q text)
    → StaysSmall before mid → JudgedAs typed readable P mid now r
    → JudgedAs typed' readable' Q before now r
judged_as typed readable typed' readable' P Q before mid now (Ok x) same also reads small (fits, readable_so, more) =
    (sym same ∙ fits, sym also ∙ readable_so, then_stays before mid now small more)
judged_as typed readable typed' readable' P Q before mid now (Err fault) same also reads small is =
    fault_as typed readable typed' readable' P Q before mid now fault same (λ wrong. sym also ∙ wrong) reads small is

-- ---- expressions

not_false : (b : Bool) → (b ≡ false → ⊥) → b ≡ true
not_false true wrong = refl
not_false false wrong = absurd (wrong refl)

pattern_not_type : {T : Type 0} → IsErrOf {T = T} (Err plan.BadPattern) plan.BadType → ⊥
pattern_not_type is = cc is

large_not_type : {T : Type 0} → IsErrOf {T = T} (Err plan.TooLarge) plan.BadType → ⊥
large_not_type is = cc is

large_text : (texts : List ExpressionText) (P : ExpressionText → Type 0) (state : MakerState)
    → ((text : ExpressionText) → Contains texts text → P text)
    → LastIsAsked (Contains texts) state → IsSomeAnd state.large P
large_text texts P state reads last = rw last.is (reads last.text last.asked)

-- types that don't fit, and a text that is no expression
pub plan_fault : {T : Type 0} (typed expressions readable : Bool) (texts : List ExpressionText)
    (P : ExpressionText → Type 0) (fault : PlanFault) (before now : MakerState)
    → ((IsErrOf {T = T} (Err fault) plan.BadType) ↔ (typed ≡ false))
    → (IsErrOf {T = T} (Err fault) plan.BadPattern → expressions ≡ false)
    → CompileCountsLarge {T = T} (Err fault) (Contains texts) before now
    → (expressions ≡ false → readable ≡ false)
    → ((text : ExpressionText) → Contains texts text → P text)
    → FaultOf typed readable P before now (fault_of_plan fault)
plan_fault typed expressions readable texts P plan.BadType before now types bad counts none reads =
    (inl (types.0 refl, refl), record { count = counts.0; last = counts.1 })
plan_fault typed expressions readable texts P plan.BadPattern before now types bad counts none reads =
    (inr (not_false typed (λ wrong. pattern_not_type (types.1 wrong)), none (bad refl), refl), record { count = counts.0; last = counts.1 })
plan_fault typed expressions readable texts P plan.TooLarge before now types bad counts none reads =
    (not_false typed (λ wrong. large_not_type (types.1 wrong)), counts.0, large_text texts P now reads counts.1)
plan_fault typed expressions readable texts P plan.NoMemory before now types bad counts none reads =
    record { count = counts.0; last = counts.1 }
