-- What is known of a maker of regular expressions after each of its answers.
use Rattle.std.specs.Prelude.{◌≡◌, ℕ, Bool, true, false, List, Option, Some, Result, Ok, Err}
use Rattle.hx_outside.specs.Count.{next_count, Rose}
use Rattle.hx_outside.specs.declared.pattern_fault.ReFault.{ReFault}
use Rattle.hx_outside.specs.declared.pattern_fault.ReFault.TheVariants.{BadRegex, TooLarge, NoMemory}

-- a text that is to be a regular expression, and whether the case of letters is ignored
pub record ExpressionText : Type 0 where
  pub text : List ℕ
  pub ci : Bool

-- the count of texts that were too large, before and after this answer: it rose with `TooLarge`,
-- and stays with any other
abbrev pub CountsTooLarge : {T : Type 0} → Result T ReFault → ℕ → ℕ → Type 0
CountsTooLarge (Ok _) before now = now ≡ before
CountsTooLarge (Err BadRegex) before now = now ≡ before
CountsTooLarge (Err TooLarge) before now = Rose before now
CountsTooLarge (Err NoMemory) before now = now ≡ before

-- the last text that was too large, after this answer for the text `asked`
abbrev pub last_large :
    {T : Type 0} → Result T ReFault → ExpressionText → Option ExpressionText → Option ExpressionText
last_large (Ok _) asked last = last
last_large (Err BadRegex) asked last = last
last_large (Err TooLarge) asked last = Some asked
last_large (Err NoMemory) asked last = last

-- how many texts were too large for a maker, and the last of them
pub record MakerState : Type 0 where
  pub too_large : ℕ
  pub large : Option ExpressionText

-- the last text that was too large for a maker is one that was asked for
pub record LastIsAsked (Asked : ExpressionText → Type 0) (state : MakerState) : Type 0 where
  pub text : ExpressionText
  pub is : state.large ≡ Some text
  pub asked : Asked text

-- The state of a maker before and after an answer. Where the answer is that a text is too large,
-- the count rose, and the last such text is one that was asked for. With any other both stay.
abbrev pub CountsLarge : Bool → (ExpressionText → Type 0) → MakerState → MakerState → Type 0
CountsLarge true Asked before now =
    Rose before.too_large now.too_large × LastIsAsked Asked now
CountsLarge false Asked before now =
    (now.too_large ≡ before.too_large) × (now.large ≡ before.large)

-- the maker's state after this answer for the text `asked`
abbrev pub maker_after : {T : Type 0} → MakerState → ExpressionText → Result T ReFault → MakerState
maker_after state asked (Ok _) = state
maker_after state asked (Err BadRegex) = state
maker_after state asked (Err TooLarge) =
    record { too_large = next_count state.too_large; large = Some asked }
maker_after state asked (Err NoMemory) = state

-- a maker that fails at the calls of these numbers (the first call is 1), how many calls were made,
-- and what it knows as a maker
pub record FailMakerState : Type 0 where
  pub fails : List ℕ
  pub calls : ℕ
  pub maker : MakerState
