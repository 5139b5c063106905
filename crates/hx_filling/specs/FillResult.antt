-- What `fill` answers.
use Rattle.std.specs.Prelude.{◌≡◌, ℕ, List, [], ◌∷◌, ◌++◌, Option, Some, IsSomeAnd, Result, Ok, Err, ⊤}
use Rattle.hx_base.specs.Pairs.{NamedBytes}
use Rattle.hx_outside.specs.Makers.{ExpressionText}
use Rattle.hx_refs.specs.References.{References}
use Rattle.hx_calls.specs.declared.TableSpec.{TableSpec}
use Rattle.hx_filling.specs.Refusals.{Refusal}
use Rattle.hx_filling.specs.Files.{FillsUpTo, IsLastRead, files_of}
use Rattle.hx_filling.specs.References.{Filled, FillingAsksFor, FillingReads, HasFiles, HoldsUnder, IsFirstUnfilled, Refused, Whole, filled_from}
use Rattle.hx_filling.specs.declared.load_fault.LoadFault.{LoadFault}
use Rattle.hx_filling.specs.declared.load_fault.LoadFault.TheVariants as load

-- references that are filled, or why they aren't
abbrev pub FillsAs : Result (Unit {0}) LoadFault → References → Filled → Type 0
FillsAs (Ok _) refs expected = expected ≡ Whole refs
FillsAs (Err (load.Refused l code)) refs expected =
    expected ≡ Refused (record { line = l; code = code })
FillsAs (Err load.Failed) refs expected = ⊤
FillsAs (Err load.TooLarge) refs expected = ⊤
FillsAs (Err load.NoMemory) refs expected = ⊤

-- the same under some files, which are those that are held, where that is known
pub record FillsHeld (held : Option NamedBytes) (specs : List TableSpec) (old new : References)
    (result : Result (Unit {0}) LoadFault) : Type 0 where
  pub files : NamedBytes
  pub of_files : HasFiles held files
  pub is : FillsAs result new (filled_from files 0 specs old)

-- the last name that was read in vain is that of a file to which filling comes
pub record FillReadsLast (held : Option NamedBytes) (specs : List TableSpec) (old : References)
    (last : Option (List ℕ)) : Type 0 where
  pub name : List ℕ
  pub is : last ≡ Some name
  pub files : NamedBytes
  pub of_files : HasFiles held files
  pub reads : FillingReads files 0 specs old name

-- the last text that was too large for a maker is a key that filling reads as an expression
pub record FillAsksLast (held : Option NamedBytes) (specs : List TableSpec) (old : References)
    (large : Option ExpressionText) : Type 0 where
  pub files : NamedBytes
  pub of_files : HasFiles held files
  pub asked : IsSomeAnd large (FillingAsksFor files 0 specs old)

-- the files that are read when references are filled up to the one whose entry is refused
abbrev pub FillsUpToRefusal :
    NamedBytes → List TableSpec → References → Refusal → List (List ℕ) → Type 0
FillsUpToRefusal files specs old refusal names =
    (entry : IsFirstUnfilled files 0 specs old refusal)
    × (names ≡ files_of (entry.before ++ entry.spec ∷ []))

-- the files that were read before filling answered this
abbrev pub FillReads : Option NamedBytes → List TableSpec → References
    → Result (Unit {0}) LoadFault → Option (List ℕ) → List (List ℕ) → Type 0
FillReads held specs old (Ok _) last names = names ≡ files_of specs
FillReads held specs old (Err (load.Refused l code)) last names =
    HoldsUnder held (λ files.
    FillsUpToRefusal files specs old (record { line = l; code = code }) names)
FillReads held specs old (Err load.Failed) last names =
    HoldsUnder held (λ files. FillsUpTo files specs old names) × IsLastRead last names
FillReads held specs old (Err load.TooLarge) last names =
    HoldsUnder held (λ files. FillsUpTo files specs old names)
FillReads held specs old (Err load.NoMemory) last names =
    HoldsUnder held (λ files. FillsUpTo files specs old names)
