-- Views of the code that fills references, for private contracts.
use Rattle.std.specs.Prelude.{◌≡◌, ℕ, List, ◌∷◌, ◌++◌, length, map, Option, None, Some, IfSome, IsSomeAnd, ⊤}
use Rattle.std.specs.Option.{option_map_or}
use Rattle.hx_base.specs.Pairs.{NamedBytes, value_at}
use Rattle.hx_outside.specs.Log.{FileLog, Logs}
use Rattle.hx_outside.specs.Makers.{ExpressionText}
use Rattle.hx_refs.specs.Additions.{AdditionAsksFor, Pair, addition_fault, after_addition}
use Rattle.hx_refs.specs.FileLines.{key_alone, text_pairs}
use Rattle.hx_refs.specs.References.{References}
use Rattle.hx_refs.specs.declared.RefFault.{RefFault}
use Rattle.hx_refs.specs.declared.RefFault.TheVariants as ref_fault
use Rattle.hx_calls.specs.declared.TableSpec.{TableSpec}
use Rattle.hx_filling.specs.References.{HasFiles, Whole, entry_code, filled_from, pairs_of_spec}
use Rattle.hx_filling.specs.declared.load_fault.LoadFault.{LoadFault}
use Rattle.hx_filling.specs.declared.load_fault.LoadFault.TheVariants as load

-- the file of a reference is read once, where it has one, and no other
abbrev pub LogsFile : Option (List ℕ) → (old new : Option FileLog) → Type 0
LogsFile None old new = new ≡ old
LogsFile (Some name) old new = Logs old new name

-- the fault of a configuration, by that of an entry of a reference that this line brings
abbrev pub fault_of_entry : ℕ → RefFault → LoadFault
fault_of_entry l ref_fault.TooLarge = load.TooLarge
fault_of_entry l ref_fault.NoMemory = load.NoMemory
fault_of_entry l fault = load.Refused l (entry_code fault)

-- a file could not be read, or memory ran out
abbrev pub IsFailedOrNoMemory : LoadFault → Type 0
IsFailedOrNoMemory load.Failed = ⊤
IsFailedOrNoMemory load.NoMemory = ⊤
IsFailedOrNoMemory _ = ⊥

-- the text is that of the file of a reference, where it has one and where it is known what is held
abbrev pub HasText : Option NamedBytes → TableSpec → List ℕ → Type 0
HasText held spec text =
    IfSome spec.file (λ name. IfSome held (λ files. value_at files name ≡ Some text))

-- the keys and values of a reference: of the text of its file, which is the one that is held, where
-- that is known
abbrev pub pairs_of_text : List ℕ → TableSpec → List Pair
pairs_of_text text spec =
    option_map_or (λ name. text_pairs spec.two_column text) spec.file (map key_alone spec.inline)

pub record HasPairs (held : Option NamedBytes) (spec : TableSpec) (pairs : List Pair) : Type 0 where
  pub text : List ℕ
  pub of_file : HasText held spec text
  pub are : pairs ≡ pairs_of_text text spec

-- the reference at a position has its entries
pub record FillsOne (held : Option NamedBytes) (spec : TableSpec) (r : ℕ) (old new : References)
    : Type 0 where
  pub pairs : List Pair
  pub of_spec : HasPairs held spec pairs
  pub none : addition_fault old r None pairs ≡ None
  pub is : new ≡ after_addition old r None pairs

-- an entry of the reference at a position has a fault
pub record RefusesOne (held : Option NamedBytes) (spec : TableSpec) (r : ℕ) (old : References)
    (line code : ℕ) : Type 0 where
  pub pairs : List Pair
  pub of_spec : HasPairs held spec pairs
  pub fault : RefFault
  pub is : addition_fault old r None pairs ≡ Some fault
  pub line_is : line ≡ spec.line
  pub code_is : code ≡ entry_code fault

-- the last text that was too large for a maker is a key of the reference at a position
pub record AsksOne (held : Option NamedBytes) (spec : TableSpec) (r : ℕ) (old : References)
    (large : Option ExpressionText) : Type 0 where
  pub pairs : List Pair
  pub of_spec : HasPairs held spec pairs
  pub asked : IsSomeAnd large (AdditionAsksFor old r None pairs)

-- The first references, as many as `r`, have their entries, and these are left. Of the files those
-- are held that were read, where it isn't known what is held.
pub record Filling (held : Option NamedBytes) (specs : List TableSpec) (old : References) (r : ℕ)
    (left : List TableSpec) (now : References) : Type 0 where
  pub files : NamedBytes
  pub of_files : HasFiles held files
  pub before : List TableSpec
  pub are : specs ≡ before ++ left
  pub count : r ≡ length before
  pub whole : filled_from files 0 before old ≡ Whole now

-- the last name that was read in vain is that of the file of a reference
abbrev pub IsFileOf : TableSpec → Option (List ℕ) → Type 0
IsFileOf spec last = IsSomeAnd last (λ name. spec.file ≡ Some name)

-- the same, and the next reference has these keys and values
pub record Reached (held : Option NamedBytes) (specs : List TableSpec) (old : References) (r : ℕ)
    (spec : TableSpec) (others : List TableSpec) (now : References) (pairs : List Pair)
    : Type 0 where
  pub files : NamedBytes
  pub of_files : HasFiles held files
  pub before : List TableSpec
  pub are : specs ≡ before ++ spec ∷ others
  pub count : r ≡ length before
  pub whole : filled_from files 0 before old ≡ Whole now
  pub read : pairs_of_spec files spec ≡ Some pairs
