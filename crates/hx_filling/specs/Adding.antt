-- Views of the code that adds the entries of one reference, for private contracts.
use Rattle.std.specs.Prelude.{◌≡◌, ℕ, List, length, None, Some, Result, Ok, Err, IsSomeAnd}
use Rattle.hx_outside.specs.Count.{Rose}
use Rattle.hx_outside.specs.Makers.{ExpressionText, MakerState}
use Rattle.hx_refs.specs.Additions.{AdditionAsksFor, Pair, addition_fault, after_addition}
use Rattle.hx_refs.specs.References.{References}
use Rattle.hx_refs.specs.declared.RefFault.{RefFault}
use Rattle.hx_filling.specs.References.{entry_code}
use Rattle.hx_filling.specs.declared.load_fault.LoadFault.{LoadFault}
use Rattle.hx_filling.specs.declared.load_fault.LoadFault.TheVariants as load

-- no text was too large for a maker between two of its states
abbrev pub IsUncounted : (before now : MakerState) → Type 0
IsUncounted before now = (now.too_large ≡ before.too_large) × (now.large ≡ before.large)

-- What an addition of these pairs to the reference at a position made of the references and of the
-- maker, or why it is refused. This line of the configuration brings the reference.
abbrev pub AddsAs : (r line : ℕ) → List Pair → (old new : References) → (before now : MakerState)
    → Result (Unit {0}) LoadFault → Type 0
AddsAs r line pairs old new before now (Ok _) =
    (addition_fault old r None pairs ≡ None) × (new ≡ after_addition old r None pairs)
    × IsUncounted before now
AddsAs r line pairs old new before now (Err (load.Refused l code)) =
    (fault : RefFault) × (addition_fault old r None pairs ≡ Some fault) × (l ≡ line)
    × (code ≡ entry_code fault) × IsUncounted before now
AddsAs r line pairs old new before now (Err load.Failed) = ⊥
AddsAs r line pairs old new before now (Err load.TooLarge) =
    Rose before.too_large now.too_large
    × IsSomeAnd now.large (AdditionAsksFor old r None pairs)
AddsAs r line pairs old new before now (Err load.NoMemory) = IsUncounted before now

-- Some of these pairs were added, without a fault, and what comes of adding those that are left is
-- what comes of adding all.
pub record AddsRest (r : ℕ) (pairs left : List Pair) (old now : References) : Type 0 where
  pub fault : addition_fault old r None pairs ≡ addition_fault now r None left
  pub after : after_addition old r None pairs ≡ after_addition now r None left
  pub asked : (text : ExpressionText)
      → AdditionAsksFor now r None left text → AdditionAsksFor old r None pairs text
  pub size : length now.references ≡ length old.references
