-- What a maker of regular expressions knows after a part was compiled, it knows after the whole.
use Rattle.std.proofs.Common.{◌≡◌, ℕ, ◌∙◌, subst, true}
use Rattle.std.specs.Prelude.{Err}
use Rattle.hx_outside.specs.Count.{Rose}
use Rattle.hx_outside.specs.Makers.{CountsLarge, ExpressionText, MakerState}
use Rattle.hx_expr.specs.Faults.{CompileCountsLarge}
use Rattle.hx_expr.specs.declared.fault.PlanFault.{PlanFault}
use Rattle.hx_expr.specs.declared.fault.PlanFault.TheVariants.{BadType, BadPattern, TooLarge, NoMemory}

-- a text of a part that is too large is one of the whole
large_within : (Part Whole : ExpressionText → Type 0) (before now : MakerState)
    → ((text : ExpressionText) → Part text → Whole text)
    → CountsLarge true Part before now → CountsLarge true Whole before now
large_within Part Whole before now within counts = (
  counts.0,
  record { text = counts.1.text; is = counts.1.is; asked = within counts.1.text counts.1.asked },
)

-- a fault of a part, before which the count and the last text stayed, is one of the whole
pub counts_within : (fault : PlanFault) (Part Whole : ExpressionText → Type 0) (first before now : MakerState)
    → ((text : ExpressionText) → Part text → Whole text)
    → before.too_large ≡ first.too_large → before.large ≡ first.large
    → CompileCountsLarge {T = Unit {0}} (Err fault) Part before now
    → CompileCountsLarge {T = Unit {0}} (Err fault) Whole first now
counts_within BadType Part Whole first before now within count last counts =
    (counts.0 ∙ count, counts.1 ∙ last)
counts_within BadPattern Part Whole first before now within count last counts =
    (counts.0 ∙ count, counts.1 ∙ last)
counts_within TooLarge Part Whole first before now within count last counts =
    let whole = large_within Part Whole before now within counts in
    (subst (λ (n : ℕ). Rose n now.too_large) count whole.0, whole.1)
counts_within NoMemory Part Whole first before now within count last counts =
    (counts.0 ∙ count, counts.1 ∙ last)
