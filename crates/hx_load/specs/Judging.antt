-- What is judged of a statement: whether its types fit, and then whether its regular expressions
-- and inline patterns are some. Views of the code, for private contracts.
use Rattle.std.specs.Prelude.{◌≡◌, ℕ, ◌⊎◌, Bool, true, false, List, IsSomeAnd, Result, Ok, Err}
use Rattle.hx_ast.specs.declared.Decl.{Decl}
use Rattle.hx_outside.specs.Count.{Rose}
use Rattle.hx_outside.specs.Makers.{ExpressionText, MakerState}
use Rattle.hx_text.specs.declared.By.TheVariants as method
use Rattle.hx_filling.specs.Refusals.{bad_pattern}
use Rattle.hx_load.specs.Configuration.{bad_type}
use Rattle.hx_load.specs.declared.line_fault.LineFault.{LineFault}
use Rattle.hx_load.specs.declared.line_fault.LineFault.TheVariants as line

-- an inline pattern of an ACL is this one, and read as this regular expression
abbrev pub IsTextOfWord : Decl → List ℕ → ExpressionText → Type 0
IsTextOfWord decl word text = (decl.by ≡ method.Reg) × (text.text ≡ word) × (text.ci ≡ decl.ci)

-- the code of a part of a statement whose types fit or not, and whose regular expressions and
-- patterns are some or not
abbrev pub IsCodeFor : Bool → Bool → ℕ → Type 0
IsCodeFor typed readable code =
    ((typed ≡ false) × (code ≡ bad_type))
    ⊎ ((typed ≡ true) × (readable ≡ false) × (code ≡ bad_pattern))

-- nothing was too large for a maker between two states
pub record StaysSmall (before now : MakerState) : Type 0 where
  pub count : now.too_large ≡ before.too_large
  pub last : now.large ≡ before.large

-- a part is judged with a fault: its code; that a text which it reads is too large; out of memory
abbrev pub FaultOf : Bool → Bool → (ExpressionText → Type 0) → MakerState → MakerState
    → LineFault → Type 0
FaultOf typed readable Reads before now (line.Refused code) =
    IsCodeFor typed readable code × StaysSmall before now
FaultOf typed readable Reads before now line.TooLarge =
    (typed ≡ true) × Rose before.too_large now.too_large × IsSomeAnd now.large Reads
FaultOf typed readable Reads before now line.NoMemory = StaysSmall before now

-- a part is judged: it has no fault, or one of these
abbrev pub JudgedAs : {T : Type 0} → Bool → Bool → (ExpressionText → Type 0)
    → MakerState → MakerState → Result T LineFault → Type 0
JudgedAs typed readable Reads before now (Ok _) =
    (typed ≡ true) × (readable ≡ true) × StaysSmall before now
JudgedAs typed readable Reads before now (Err fault) =
    FaultOf typed readable Reads before now fault
