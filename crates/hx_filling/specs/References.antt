-- The references of a configuration: their numbers, the files that rules change, and the entries of
-- files and inline patterns (HAProxy configuration manual 2.4, sections 7.1 and 7.3.1, `map`; management guide 2.4,
-- section 9.3).
use Rattle.std.specs.Prelude.{◌≡◌, fold, ℕ, ◌+◌, ◌⊎◌, not, ◌==◌, ◌&&◌, ◌||◌, Bool, true, false, is_none, is_some, List, [], ◌∷◌, ◌++◌, length, map, Option, None, Some, IfSome, option_map, unwrap_or, slice_get, drop, filter, filter_map, if◌then◌else◌}
use Rattle.std.specs.List.{IsDistinct, list_all, range_with_len}
use Rattle.std.specs.Option.{option_map_or}
use Rattle.hx_base.specs.Pairs.{NamedBytes, value_at}
use Rattle.hx_outside.specs.Makers.{ExpressionText}
use Rattle.hx_refs.specs.Additions.{AdditionAsksFor, Pair, addition_fault, after_addition}
use Rattle.hx_refs.specs.FileLines.{key_alone, text_pairs}
use Rattle.hx_refs.specs.References.{References, after_output, no_references, with_new}
use Rattle.hx_refs.specs.Uses.{after_use}
use Rattle.hx_refs.specs.declared.Limits.{Limits}
use Rattle.hx_refs.specs.declared.RefFault.{RefFault}
use Rattle.hx_refs.specs.declared.RefFault.TheVariants as ref_fault
use Rattle.hx_sample.specs.Tables.{TableHead}
use Rattle.hx_calls.specs.declared.HeadSpec.{HeadSpec}
use Rattle.hx_calls.specs.declared.TableSpec.{TableSpec}
pub use Rattle.hx_calls.specs.Values.{is_among}
use Rattle.hx_text.specs.declared.Out.TheVariants as out
use Rattle.hx_filling.specs.Refusals.{Refusal, bad_pattern}

-- ---- numbers

-- the code of a number that `-u` gives a second time
abbrev pub id_taken : ℕ
id_taken = 22

-- the line of the first reference whose number is given again, after these numbers
abbrev pub repeated_after : List ℕ → List TableSpec → Option ℕ
repeated_after numbers [] = None
repeated_after numbers (spec ∷ specs) =
    option_map_or
    (λ n. if is_among numbers n then Some spec.line else repeated_after (n ∷ numbers) specs)
    spec.given (repeated_after numbers specs)

-- the numbers that are given
abbrev pub given_numbers : List TableSpec → List ℕ
given_numbers specs = filter_map (λ spec. spec.given) specs

-- no number is given twice
abbrev pub HaveDistinctNumbers : List TableSpec → Type 0
HaveDistinctNumbers specs = IsDistinct (λ n m. n == m) (given_numbers specs)

-- The first reference whose number is given again, and the line that brings it: those before it
-- have distinct numbers, and its own is one of these.
pub record IsFirstRepeated (specs : List TableSpec) (line : ℕ) : Type 0 where
  pub before : List TableSpec
  pub spec : TableSpec
  pub after : List TableSpec
  pub specs_are : specs ≡ before ++ spec ∷ after
  pub distinct : HaveDistinctNumbers before
  pub number : ℕ
  pub given : spec.given ≡ Some number
  pub again : is_among (given_numbers before) number ≡ true
  pub line_is : line ≡ spec.line

-- the least numbers that aren't given: as many as there may be references without one
abbrev pub free_numbers : List TableSpec → List ℕ
free_numbers specs =
    filter (λ n. not (is_among (given_numbers specs) n)) (range_with_len 0 (length specs))

-- the references' numbers: that which is given, or else the next one that is free
abbrev pub numbers_by : List ℕ → List TableSpec → List ℕ
numbers_by free [] = []
numbers_by free (spec ∷ specs) =
    option_map_or (λ n. n ∷ numbers_by free specs) spec.given
    (unwrap_or (slice_get free 0) 0 ∷ numbers_by (drop 1 free) specs)

abbrev pub numbers_of : List TableSpec → List ℕ
numbers_of specs = numbers_by (free_numbers specs) specs

-- ---- files that rules change

-- the code of a file that a rule changes, and that is named nowhere else
abbrev pub unknown_table : ℕ
unknown_table = 21

-- The line of the first appearance of the first file that a rule changes and that no `-f` and no
-- map names. Such a file first appears on the first line with a rule that changes it.
abbrev pub first_unknown : List TableSpec → Option ℕ
first_unknown [] = None
first_unknown (spec ∷ specs) =
    if is_some spec.file && not spec.named then Some spec.line else first_unknown specs

-- no rule changes the file of a reference, or a `-f` or a map names it
abbrev pub is_known : TableSpec → Bool
is_known spec = is_none spec.file || spec.named

-- The first reference with a file that a rule changes and that no `-f` and no map names, and the
-- line that brings it.
pub record IsFirstUnknown (specs : List TableSpec) (line : ℕ) : Type 0 where
  pub before : List TableSpec
  pub spec : TableSpec
  pub after : List TableSpec
  pub specs_are : specs ≡ before ++ spec ∷ after
  pub known : list_all is_known before ≡ true
  pub unknown : is_known spec ≡ false
  pub line_is : line ≡ spec.line

-- ---- references without entries

-- the types, beside strings, in which the values of the reference at a position are read
abbrev pub with_outputs : ℕ → TableSpec → References → References
with_outputs r spec refs =
    let ints = if spec.out_int then after_output refs r out.Int else refs in
    if spec.out_ip then after_output ints r out.Ip else ints

-- the references, with one more of this number
abbrev pub with_table : ℕ → TableSpec → References → References
with_table number spec refs =
    with_outputs (length refs.references) spec
    (with_new refs number spec.file spec.two_column spec.acl)

abbrev pub with_tables : List ℕ → List TableSpec → References → References
with_tables numbers [] refs = refs
with_tables numbers (spec ∷ specs) refs =
    with_tables (drop 1 numbers) specs (with_table (unwrap_or (slice_get numbers 0) 0) spec refs)

abbrev pub with_heads : List HeadSpec → References → References
with_heads heads refs = fold (λ now head. after_use now head.table head.by head.ci) refs heads

-- the references in their order, with their heads, before they have entries
abbrev pub declared_references : Limits → List TableSpec → List HeadSpec → References
declared_references limits specs heads =
    with_heads heads (with_tables (numbers_of specs) specs (no_references limits))

-- the head that a use brings
abbrev pub table_head : HeadSpec → TableHead
table_head head = record { by = head.by; ci = head.ci; list = head.table }

-- ---- entries

-- the files that the configuration names are those that are held, where that is known
abbrev pub HasFiles : Option NamedBytes → NamedBytes → Type 0
HasFiles held files = IfSome held (λ known. files ≡ known)

-- this is so under some files, which are those that are held, where that is known
pub record HoldsUnder (held : Option NamedBytes) (P : NamedBytes → Type 0) : Type 0 where
  pub files : NamedBytes
  pub of_files : HasFiles held files
  pub is : P files

-- the keys and values of a reference: of a file the lines of its text, of inline patterns these;
-- none where there is no such file
abbrev pub pairs_of_spec : NamedBytes → TableSpec → Option (List Pair)
pairs_of_spec files spec =
    option_map_or (λ name. option_map (text_pairs spec.two_column) (value_at files name))
    spec.file (Some (map key_alone spec.inline))

-- the code of a fault of an entry: its key is no pattern (16), its value isn't readable (18), or it
-- is one too many (20)
abbrev pub entry_code : RefFault → ℕ
entry_code ref_fault.BadPattern = bad_pattern
entry_code ref_fault.BadValue = 18
entry_code ref_fault.VersionFull = 20
entry_code ref_fault.VersionWorn = 20
entry_code _ = 0

-- what comes of reading files in their order: the references with all entries, a refusal, or a file
-- that is missing
pub data Filled : Type 0 where
  Whole : (references : References) → Filled
  Refused : (refusal : Refusal) → Filled
  Missing : (name : List ℕ) → Filled

abbrev pub name_of : Option (List ℕ) → List ℕ
name_of None = []
name_of (Some name) = name

-- an addition that is refused, or what comes after it
abbrev pub after_fault : ℕ → Option RefFault → Filled → Filled
after_fault line (Some fault) after = Refused (record { line = line; code = entry_code fault })
after_fault line None after = after

abbrev pub after_pairs : TableSpec → References → ℕ → Option (List Pair)
    → (References → Filled) → Filled
after_pairs spec refs r None after = Missing (name_of spec.file)
after_pairs spec refs r (Some pairs) after =
    after_fault spec.line (addition_fault refs r None pairs)
    (after (after_addition refs r None pairs))

-- the references with the entries of those from a position on
abbrev pub filled_from : NamedBytes → ℕ → List TableSpec → References → Filled
filled_from files r [] refs = Whole refs
filled_from files r (spec ∷ specs) refs =
    after_pairs spec refs r (pairs_of_spec files spec)
    (λ filled. filled_from files (r + 1) specs filled)

-- The same as a relation: each reference from a position on has its file, no entry is refused, and
-- these are the references with all entries.
abbrev pub AreFilled : NamedBytes → ℕ → List TableSpec → References → References → Type 0
AreFilled files r [] refs filled = filled ≡ refs
AreFilled files r (spec ∷ specs) refs filled =
    (pairs : List Pair) × (pairs_of_spec files spec ≡ Some pairs)
    × (addition_fault refs r None pairs ≡ None)
    × AreFilled files (r + 1) specs (after_addition refs r None pairs) filled

-- The first reference from a position on with an entry that is refused: those before it have all
-- their entries, and the first fault of its own is that of the refusal, on the line that brings it.
pub record IsFirstUnfilled (files : NamedBytes) (r : ℕ) (specs : List TableSpec)
    (refs : References) (refusal : Refusal) : Type 0 where
  pub before : List TableSpec
  pub spec : TableSpec
  pub after : List TableSpec
  pub specs_are : specs ≡ before ++ spec ∷ after
  pub filled : References
  pub accepted : AreFilled files r before refs filled
  pub pairs : List Pair
  pub pairs_are : pairs_of_spec files spec ≡ Some pairs
  pub fault : RefFault
  pub refused : addition_fault filled (r + length before) None pairs ≡ Some fault
  pub line : refusal.line ≡ spec.line
  pub code : refusal.code ≡ entry_code fault

-- the first reference from a position on whose file is missing: those before it have all their
-- entries
pub record IsFirstMissing (files : NamedBytes) (r : ℕ) (specs : List TableSpec)
    (refs : References) (name : List ℕ) : Type 0 where
  pub before : List TableSpec
  pub spec : TableSpec
  pub after : List TableSpec
  pub specs_are : specs ≡ before ++ spec ∷ after
  pub filled : References
  pub accepted : AreFilled files r before refs filled
  pub file : spec.file ≡ Some name
  pub missing : value_at files name ≡ None

-- an entry that is added to one of the references from a position on, with no fault before it, is
-- read as this regular expression
abbrev pub FillingAsksFor :
    NamedBytes → ℕ → List TableSpec → References → ExpressionText → Type 0
FillingAsksFor files r [] refs text = ⊥
FillingAsksFor files r (spec ∷ specs) refs text =
    (pairs : List Pair) × (pairs_of_spec files spec ≡ Some pairs)
    × (AdditionAsksFor refs r None pairs text
    ⊎ ((addition_fault refs r None pairs ≡ None)
    × FillingAsksFor files (r + 1) specs (after_addition refs r None pairs) text))

-- the file of one of the references from a position on is this one, and there is no fault before it
abbrev pub FillingReads : NamedBytes → ℕ → List TableSpec → References → List ℕ → Type 0
FillingReads files r [] refs name = ⊥
FillingReads files r (spec ∷ specs) refs name =
    (spec.file ≡ Some name)
    ⊎ ((pairs : List Pair) × (pairs_of_spec files spec ≡ Some pairs)
    × (addition_fault refs r None pairs ≡ None)
    × FillingReads files (r + 1) specs (after_addition refs r None pairs) name)
