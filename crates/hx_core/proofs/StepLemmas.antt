-- Laws of one step.
use Rattle.std.proofs.Common.{◌≡◌, ℕ, List, Result, Ok, Err, refl}
use Rattle.hx_outside.specs.Makers.{ExpressionText, MakerState}
use Rattle.hx_core.specs.Steps.{StepCountsLarge}
use Rattle.hx_core.specs.declared.fault.StepFault.{StepFault}
use Rattle.hx_core.specs.declared.fault.StepFault.TheVariants.{UnknownConn, ConnOpen, TooLarge, NoMemory}

-- where no key is added, a maker stays as it was
pub unasked_counts : (result : Result (List ℕ) StepFault) (Asked : ExpressionText → Type 0) (state : MakerState)
    → ¬ (result ≡ Err TooLarge) → StepCountsLarge result Asked state state
unasked_counts (Ok text) Asked state kind = (refl, refl)
unasked_counts (Err UnknownConn) Asked state kind = (refl, refl)
unasked_counts (Err ConnOpen) Asked state kind = (refl, refl)
unasked_counts (Err TooLarge) Asked state kind = absurd (kind refl)
unasked_counts (Err NoMemory) Asked state kind = (refl, refl)
