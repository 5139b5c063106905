-- What a maker of regular expressions knows after an expression was compiled.
use Rattle.std.specs.Prelude.{true, false, Result, Err}
use Rattle.hx_outside.specs.Makers.{CountsLarge, ExpressionText, MakerState}
use Rattle.hx_expr.specs.declared.fault.PlanFault.{PlanFault}
use Rattle.hx_expr.specs.declared.fault.PlanFault.TheVariants.{TooLarge}

-- what it knows before and after a call that reads such texts
abbrev pub CompileCountsLarge :
    {T : Type 0} → Result T PlanFault → (ExpressionText → Type 0) → MakerState → MakerState → Type 0
CompileCountsLarge (Err TooLarge) Asked before now = CountsLarge true Asked before now
CompileCountsLarge _ Asked before now = CountsLarge false Asked before now
