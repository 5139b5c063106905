-- The function that fills references is the relation between them and what comes of filling them.
use Rattle.std.proofs.Common.{◌≡◌, ℕ, ◌+◌, Bool, List, [], ◌∷◌, ◌++◌, length, Option, None, Some, refl, sym, ap, ◌∙◌, arith}
use Rattle.std.specs.Prelude.{map, option_map}
use Rattle.std.specs.Option.{option_map_or}
use Rattle.std.proofs.lemmas.Option.{none-some}
use Rattle.hx_base.specs.Pairs.{NamedBytes, value_at}
use Rattle.hx_refs.specs.Additions.{Pair, addition_fault, after_addition}
use Rattle.hx_refs.specs.FileLines.{key_alone, text_pairs}
use Rattle.hx_refs.specs.References.{References}
use Rattle.hx_refs.specs.declared.RefFault.{RefFault}
use Rattle.hx_calls.specs.declared.TableSpec.{TableSpec}
use Rattle.hx_filling.specs.Refusals.{Refusal}
use Rattle.hx_filling.specs.References.{AreFilled, Filled, IsFirstMissing, IsFirstUnfilled, Missing, Refused, Whole, after_fault, after_pairs, entry_code, filled_from, name_of, pairs_of_spec}
use Rattle.hx_filling.proofs.FillLemmas.{adds, filled_after, refuses}

-- what comes of filling the references from a position on
abbrev pub FillAs : NamedBytes → ℕ → List TableSpec → References → Filled → Type 0
FillAs files r specs refs (Whole filled) = AreFilled files r specs refs filled
FillAs files r specs refs (Refused refusal) = IsFirstUnfilled files r specs refs refusal
FillAs files r specs refs (Missing name) = IsFirstMissing files r specs refs name

-- ---- from the function to the relation

no_text : (two : Bool) (text : Option (List ℕ)) → option_map (text_pairs two) text ≡ None → text ≡ None
no_text two None is = refl
no_text two (Some text) is = absurd (none-some (text_pairs two text) (sym is))

-- a reference without keys and values has a file, which is missing
no_pairs : (two : Bool) (keys : List Pair) (files : NamedBytes) (file : Option (List ℕ))
    → option_map_or (λ name. option_map (text_pairs two) (value_at files name)) file (Some keys) ≡ None
    → (file ≡ Some (name_of file)) × (value_at files (name_of file) ≡ None)
no_pairs two keys files None is = absurd (none-some keys (sym is))
no_pairs two keys files (Some name) is = (refl, no_text two (value_at files name) is)

-- all entries of the first one are there, and this comes of filling the others
others_as : (files : NamedBytes) (r : ℕ) (spec : TableSpec) (specs : List TableSpec) (old : References) (pairs : List Pair) (others : Filled)
    → pairs_of_spec files spec ≡ Some pairs → addition_fault old r None pairs ≡ None
    → FillAs files (r + 1) specs (after_addition old r None pairs) others → FillAs files r (spec ∷ specs) old others
others_as files r spec specs old pairs (Whole filled) there none f = (pairs, there, none, f)
others_as files r spec specs old pairs (Refused refusal) there none f = record {
  before = spec ∷ f.before;
  spec = f.spec;
  after = f.after;
  specs_are = ap (λ (xs : List TableSpec). spec ∷ xs) f.specs_are;
  filled = f.filled;
  accepted = (pairs, there, none, f.accepted);
  pairs = f.pairs;
  pairs_are = f.pairs_are;
  fault = f.fault;
  refused =
      let count : r + length (spec ∷ f.before) ≡ r + 1 + length f.before = omega arith in
      ap (λ (n : ℕ). addition_fault f.filled n None f.pairs) count ∙ f.refused;
  line = f.line;
  code = f.code;
}
others_as files r spec specs old pairs (Missing name) there none f = record {
  before = spec ∷ f.before;
  spec = f.spec;
  after = f.after;
  specs_are = ap (λ (xs : List TableSpec). spec ∷ xs) f.specs_are;
  filled = f.filled;
  accepted = (pairs, there, none, f.accepted);
  file = f.file;
  missing = f.missing;
}

-- the first fault of the first one's entries, where there is one
entries_as : (files : NamedBytes) (r : ℕ) (spec : TableSpec) (specs : List TableSpec) (old : References) (pairs : List Pair)
    (fault : Option RefFault) (others : Filled) → pairs_of_spec files spec ≡ Some pairs → addition_fault old r None pairs ≡ fault
    → FillAs files (r + 1) specs (after_addition old r None pairs) others
    → FillAs files r (spec ∷ specs) old (after_fault spec.line fault others)
entries_as files r spec specs old pairs None others there is f = others_as files r spec specs old pairs others there is f
entries_as files r spec specs old pairs (Some fault) others there is f = record {
  before = [];
  spec = spec;
  after = specs;
  specs_are = refl;
  filled = old;
  accepted = refl;
  pairs = pairs;
  pairs_are = there;
  fault = fault;
  refused =
      let count : r + 0 ≡ r = omega arith in
      ap (λ (n : ℕ). addition_fault old n None pairs) count ∙ is;
  line = refl;
  code = refl;
}

-- the first one's keys and values, where there are such
first_as : (files : NamedBytes) (r : ℕ) (spec : TableSpec) (specs : List TableSpec) (old : References) (pairs : Option (List Pair))
    → pairs_of_spec files spec ≡ pairs
    → ((now : References) → FillAs files (r + 1) specs now (filled_from files (r + 1) specs now))
    → FillAs files r (spec ∷ specs) old (after_pairs spec old r pairs (λ now. filled_from files (r + 1) specs now))
first_as files r spec specs old None is others =
    let (file, missing) =
    no_pairs spec.two_column (map key_alone spec.inline) files spec.file is in
    record {
      before = [];
      spec = spec;
      after = specs;
      specs_are = refl;
      filled = old;
      accepted = refl;
      file = file;
      missing = missing;
    }
first_as files r spec specs old (Some pairs) is others =
    let next : References = after_addition old r None pairs in
    entries_as files r spec specs old pairs (addition_fault old r None pairs) (filled_from files (r + 1) specs next) is refl
    (others next)

-- what comes of filling references is what the function says
pub fill_as : (files : NamedBytes) (r : ℕ) (specs : List TableSpec) (old : References)
    → FillAs files r specs old (filled_from files r specs old)
fill_as files r [] old = refl
fill_as files r (spec ∷ specs) old =
    first_as files r spec specs old (pairs_of_spec files spec) refl (λ now. fill_as files (r + 1) specs now)

-- ---- from the relation to the function

filled_is : (files : NamedBytes) (r : ℕ) (specs : List TableSpec) (old now : References)
    → AreFilled files r specs old now → filled_from files r specs old ≡ Whole now
filled_is files r [] old now is = ap Whole (sym is)
filled_is files r (spec ∷ specs) old now (pairs, there, none, more) =
    adds spec old r (pairs_of_spec files spec) (λ refs. filled_from files (r + 1) specs refs) pairs there none
    ∙ filled_is files (r + 1) specs (after_addition old r None pairs) now more

-- what comes after references that are filled
left_is : (files : NamedBytes) (r : ℕ) (specs before : List TableSpec) (spec : TableSpec) (after : List TableSpec) (old now : References)
    → specs ≡ before ++ spec ∷ after → AreFilled files r before old now
    → filled_from files r specs old ≡ filled_from files (r + length before) (spec ∷ after) now
left_is files r specs before spec after old now are accepted =
    ap (λ (xs : List TableSpec). filled_from files r xs old) are
    ∙ filled_after files r (r + length before) before (spec ∷ after) old now (filled_is files r before old now accepted) refl

unfilled_is : (files : NamedBytes) (r : ℕ) (specs : List TableSpec) (old : References) (refusal : Refusal)
    → IsFirstUnfilled files r specs old refusal → filled_from files r specs old ≡ Refused refusal
unfilled_is files r specs old refusal f =
    let n : ℕ = r + length f.before in
    let first : filled_from files n (f.spec ∷ f.after) f.filled ≡ Refused (record { line = f.spec.line; code = entry_code f.fault }) =
    refuses f.spec f.filled n (pairs_of_spec files f.spec) (λ refs. filled_from files (n + 1) f.after refs) f.pairs f.fault f.pairs_are f.refused in
    left_is files r specs f.before f.spec f.after old f.filled f.specs_are f.accepted ∙ first
    ∙ ap (λ (l : ℕ). Refused (record { line = l; code = entry_code f.fault })) (sym f.line)
    ∙ ap (λ (c : ℕ). Refused (record { line = refusal.line; code = c })) (sym f.code)

missing_pairs : (files : NamedBytes) (spec : TableSpec) (name : List ℕ) → spec.file ≡ Some name → value_at files name ≡ None
    → pairs_of_spec files spec ≡ None
missing_pairs files spec name file missing =
    ap (λ (o : Option (List ℕ)). option_map_or (λ n. option_map (text_pairs spec.two_column) (value_at files n)) o (Some (map key_alone spec.inline))) file
    ∙ ap (option_map (text_pairs spec.two_column)) missing

missing_is : (files : NamedBytes) (r : ℕ) (specs : List TableSpec) (old : References) (name : List ℕ)
    → IsFirstMissing files r specs old name → filled_from files r specs old ≡ Missing name
missing_is files r specs old name f =
    let n : ℕ = r + length f.before in
    let first : filled_from files n (f.spec ∷ f.after) f.filled ≡ Missing (name_of f.spec.file) =
    ap (λ (o : Option (List Pair)). after_pairs f.spec f.filled n o (λ refs. filled_from files (n + 1) f.after refs))
    (missing_pairs files f.spec name f.file f.missing) in
    left_is files r specs f.before f.spec f.after old f.filled f.specs_are f.accepted ∙ first
    ∙ ap (λ (o : Option (List ℕ)). Missing (name_of o)) f.file

-- what comes of filling references is nothing but what the function says
pub fill_is : (files : NamedBytes) (r : ℕ) (specs : List TableSpec) (old : References) (f : Filled)
    → FillAs files r specs old f → filled_from files r specs old ≡ f
fill_is files r specs old (Whole now) f = filled_is files r specs old now f
fill_is files r specs old (Refused refusal) f = unfilled_is files r specs old refusal f
fill_is files r specs old (Missing name) f = missing_is files r specs old name f

-- ---- what stays

-- entries change no head
pub filled_heads : (files : NamedBytes) (r : ℕ) (specs : List TableSpec) (old now : References)
    → AreFilled files r specs old now → now.heads ≡ old.heads
filled_heads files r [] old now is = ap (λ (refs : References). refs.heads) is
filled_heads files r (spec ∷ specs) old now (pairs, there, none, more) =
    filled_heads files (r + 1) specs (after_addition old r None pairs) now more
