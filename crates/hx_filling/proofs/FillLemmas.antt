-- How references are filled one after the other.
use Rattle.std.proofs.Common.{◌≡◌, ◌≢◌, ℕ, ◌+◌, ◌⊎◌, Bool, true, false, cond, inl, inr, List, [], ◌∷◌, ◌++◌, length, map, Option, None, Some, Ok, Err, refl, sym, ap, ◌∙◌, subst, arith, append_assoc, drop-cons, length-append}
use Rattle.std.specs.Prelude.{IfSome, IsSomeAnd, option_map, drop, slice_get, slice_index_or, slice_set, take, ◌-◌, ◌<◌}
use Rattle.std.specs.Bool.{Decides}
use Rattle.std.specs.List.{All, AllByRecursion}
use Rattle.std.specs.Option.{option_map_or}
use Rattle.std.specs.Str.{bytes_eq}
use Rattle.std.proofs.lemmas.List.{length-set, take_rest}
use Rattle.std.proofs.lemmas.List.Elements.{recursion_from_All}
use Rattle.std.proofs.lemmas.Slice.Eq.{bytes_eq-Decides}
use Rattle.hx_base.specs.Pairs.{NamedBytes, value_at}
use Rattle.hx_outside.specs.Makers.{ExpressionText}
use Rattle.hx_refs.specs.Additions.{AdditionAsksFor, Pair, addition_fault, after_addition, with_pairs}
use Rattle.hx_refs.specs.FileLines.{key_alone, text_pairs}
use Rattle.hx_refs.specs.References.{Reference, References}
use Rattle.hx_refs.specs.declared.RefFault.{RefFault}
use Rattle.hx_calls.specs.TableSpecs.{HaveDistinctFiles}
use Rattle.hx_calls.specs.declared.TableSpec.{TableSpec}
use Rattle.hx_filling.specs.Filling.{AsksOne, Filling, FillsOne, HasPairs, IsFileOf, Reached, RefusesOne, pairs_of_text}
use Rattle.hx_filling.specs.FillResult.{FillAsksLast, FillReadsLast, FillsHeld}
use Rattle.hx_filling.specs.References.{Filled, FillingAsksFor, FillingReads, HasFiles, Missing, Refused, Whole, after_fault, after_pairs, entry_code, filled_from, name_of, pairs_of_spec}
use Rattle.hx_filling.specs.declared.load_fault.LoadFault.{LoadFault}
use Rattle.hx_filling.specs.declared.load_fault.LoadFault.TheVariants as load

-- ---- one reference

-- no fault, and what comes after
after_no_fault : (line : ℕ) (fault : Option RefFault) (after : Filled) (now : References) → after_fault line fault after ≡ Whole now
    → (fault ≡ None) × (after ≡ Whole now)
after_no_fault line None after now is = (refl, is)
after_no_fault line (Some fault) after now is =
    absurd (let never : Refused (record { line = line; code = entry_code fault }) ≡ Whole now = is in cc)

-- where all is added, the pairs are there and have no fault
added : (spec : TableSpec) (old : References) (r : ℕ) (pairs : Option (List Pair)) (after : References → Filled) (now : References)
    → after_pairs spec old r pairs after ≡ Whole now
    → (given : List Pair) × (pairs ≡ Some given) × (addition_fault old r None given ≡ None) × (after (after_addition old r None given) ≡ Whole now)
added spec old r None after now is = absurd (let never : Missing (name_of spec.file) ≡ Whole now = is in cc)
added spec old r (Some given) after now is =
    let more = after_no_fault spec.line (addition_fault old r None given) (after (after_addition old r None given)) now is in
    (given, refl, more.0, more.1)

-- pairs without a fault are added
pub adds : (spec : TableSpec) (old : References) (r : ℕ) (pairs : Option (List Pair)) (after : References → Filled) (given : List Pair)
    → pairs ≡ Some given → addition_fault old r None given ≡ None → after_pairs spec old r pairs after ≡ after (after_addition old r None given)
adds spec old r pairs after given is none =
    ap (λ (o : Option (List Pair)). after_pairs spec old r o after) is
    ∙ ap (λ (f : Option RefFault). after_fault spec.line f (after (after_addition old r None given))) none

-- pairs with a fault are refused
pub refuses : (spec : TableSpec) (old : References) (r : ℕ) (pairs : Option (List Pair)) (after : References → Filled) (given : List Pair) (fault : RefFault)
    → pairs ≡ Some given → addition_fault old r None given ≡ Some fault
    → after_pairs spec old r pairs after ≡ Refused (record { line = spec.line; code = entry_code fault })
refuses spec old r pairs after given fault is found =
    ap (λ (o : Option (List Pair)). after_pairs spec old r o after) is
    ∙ ap (λ (f : Option RefFault). after_fault spec.line f (after (after_addition old r None given))) found

-- the same pairs, and the same after them
same_after : (spec : TableSpec) (old : References) (r : ℕ) (pairs : Option (List Pair)) (first second : References → Filled)
    → ((refs : References) → first refs ≡ second refs) → after_pairs spec old r pairs first ≡ after_pairs spec old r pairs second
same_after spec old r None first second same = refl
same_after spec old r (Some given) first second same =
    ap (after_fault spec.line (addition_fault old r None given)) (same (after_addition old r None given))

-- ---- a list of references in two parts

abbrev same_whole : Filled → References → References
same_whole (Whole refs) other = refs
same_whole (Refused refusal) other = other
same_whole (Missing name) other = other

-- where the first part is filled, the whole list is filled as the rest is
pub filled_after : (files : NamedBytes) (r n : ℕ) (before left : List TableSpec) (old now : References) → filled_from files r before old ≡ Whole now
    → n ≡ r + length before → filled_from files r (before ++ left) old ≡ filled_from files n left now
filled_after files r n [] left old now is count =
    let same : old ≡ now = ap (λ (f : Filled). same_whole f old) is in
    let here : r ≡ n = omega (arith, count) in
    ap (λ (k : ℕ). filled_from files k left old) here ∙ ap (filled_from files n left) same
filled_after files r n (spec ∷ before) left old now is count =
    let (given, there, none, more) = added spec old r (pairs_of_spec files spec) (λ refs. filled_from files (r + 1) before refs) now is in
    let rest : n ≡ (r + 1) + length before = omega (arith, count) in
    adds spec old r (pairs_of_spec files spec) (λ refs. filled_from files (r + 1) (before ++ left) refs) given there none
    ∙ filled_after files (r + 1) n before left (after_addition old r None given) now more rest

-- a file to which filling of the rest comes
reads_after : (files : NamedBytes) (r n : ℕ) (before left : List TableSpec) (old now : References) (name : List ℕ) → filled_from files r before old ≡ Whole now
    → n ≡ r + length before → FillingReads files n left now name → FillingReads files r (before ++ left) old name
reads_after files r n [] left old now name is count reads =
    let same : now ≡ old = sym (ap (λ (f : Filled). same_whole f old) is) in
    let here : n ≡ r = omega (arith, count) in
    subst (λ (k : ℕ). FillingReads files k left old name) here (subst (λ (refs : References). FillingReads files n left refs name) same reads)
reads_after files r n (spec ∷ before) left old now name is count reads =
    let (given, there, none, more) = added spec old r (pairs_of_spec files spec) (λ refs. filled_from files (r + 1) before refs) now is in
    let rest : n ≡ (r + 1) + length before = omega (arith, count) in
    inr (given, there, none, reads_after files (r + 1) n before left (after_addition old r None given) now name more rest reads)

-- a text that filling the rest reads as an expression
asks_after : (files : NamedBytes) (r n : ℕ) (before left : List TableSpec) (old now : References) (text : ExpressionText) → filled_from files r before old ≡ Whole now
    → n ≡ r + length before → FillingAsksFor files n left now text → FillingAsksFor files r (before ++ left) old text
asks_after files r n [] left old now text is count asked =
    let same : now ≡ old = sym (ap (λ (f : Filled). same_whole f old) is) in
    let here : n ≡ r = omega (arith, count) in
    subst (λ (k : ℕ). FillingAsksFor files k left old text) here (subst (λ (refs : References). FillingAsksFor files n left refs text) same asked)
asks_after files r n (spec ∷ before) left old now text is count asked =
    let (given, there, none, more) = added spec old r (pairs_of_spec files spec) (λ refs. filled_from files (r + 1) before refs) now is in
    let rest : n ≡ (r + 1) + length before = omega (arith, count) in
    (given, there, inr (none, asks_after files (r + 1) n before left (after_addition old r None given) now text more rest asked))

-- ---- one more file

off : {P : Type 0} (r : Bool) → Decides r P → (P → ⊥) → r ≡ false
off true d differ = absurd (differ (d.0 refl))
off false d differ = refl

same_name : (name : List ℕ) → bytes_eq name name ≡ true
same_name name = (bytes_eq-Decides name name).1 refl

-- a further file in front changes nothing for references with other files
other_file : (two : Bool) (keys : List Pair) (files : NamedBytes) (name text : List ℕ) (file : Option (List ℕ)) → (file ≡ Some name → ⊥)
    → option_map_or (λ n. option_map (text_pairs two) (value_at ((name, text) ∷ files) n)) file (Some keys)
    ≡ option_map_or (λ n. option_map (text_pairs two) (value_at files n)) file (Some keys)
other_file two keys files name text None differ = refl
other_file two keys files name text (Some n) differ =
    let differs : bytes_eq name n ≡ false = off (bytes_eq name n) (bytes_eq-Decides name n) (λ same. differ (ap Some (sym same))) in
    ap (λ (b : Bool). option_map (text_pairs two) (cond b (Some text) (value_at files n))) differs

own_file : (files : NamedBytes) (spec : TableSpec) (name text : List ℕ) → spec.file ≡ Some name → value_at files name ≡ Some text
    → pairs_of_spec files spec ≡ Some (text_pairs spec.two_column text)
own_file files spec name text is there =
    ap (λ (o : Option (List ℕ)). option_map_or (λ n. option_map (text_pairs spec.two_column) (value_at files n)) o (Some (map key_alone spec.inline))) is
    ∙ ap (option_map (text_pairs spec.two_column)) there

new_file : (files : NamedBytes) (name text : List ℕ) → value_at ((name, text) ∷ files) name ≡ Some text
new_file files name text = ap (λ (b : Bool). cond b (Some text) (value_at files name)) (same_name name)

no_file : (files : NamedBytes) (spec : TableSpec) → spec.file ≡ None → pairs_of_spec files spec ≡ Some (map key_alone spec.inline)
no_file files spec is =
    ap (λ (o : Option (List ℕ)). option_map_or (λ n. option_map (text_pairs spec.two_column) (value_at files n)) o (Some (map key_alone spec.inline))) is

holds_at : {X : Type 0} (P : X → Type 0) (before : List X) (x : X) (left : List X) → AllByRecursion P (before ++ x ∷ left) → P x
holds_at P [] x left all = all.0
holds_at P (b ∷ before) x left all = holds_at P before x left all.1

-- no reference before another one has its file
apart : (name : List ℕ) (first : TableSpec) (before : List TableSpec) (spec : TableSpec) (left : List TableSpec)
    → HaveDistinctFiles (first ∷ (before ++ spec ∷ left)) → spec.file ≡ Some name → first.file ≡ Some name → ⊥
apart name first before spec left distinct is same =
    let all : All (λ other. other.file ≢ Some name) (before ++ spec ∷ left) =
    subst (λ (o : Option (List ℕ)). IfSome o (λ n. All (λ other. other.file ≢ Some n) (before ++ spec ∷ left))) same distinct.0 in
    holds_at (λ other. other.file ≢ Some name) before spec left
    (recursion_from_All (λ other. other.file ≢ Some name) (before ++ spec ∷ left) all) is

-- so its file in front changes nothing for those before it
filled_with : (files : NamedBytes) (name text : List ℕ) (r : ℕ) (before : List TableSpec) (spec : TableSpec) (left : List TableSpec) (old : References)
    → HaveDistinctFiles (before ++ spec ∷ left) → spec.file ≡ Some name
    → filled_from ((name, text) ∷ files) r before old ≡ filled_from files r before old
filled_with files name text r [] spec left old distinct is = refl
filled_with files name text r (first ∷ before) spec left old distinct is =
    let same : pairs_of_spec ((name, text) ∷ files) first ≡ pairs_of_spec files first =
    other_file first.two_column (map key_alone first.inline) files name text first.file (apart name first before spec left distinct is) in
    ap (λ (o : Option (List Pair)). after_pairs first old r o (λ refs. filled_from ((name, text) ∷ files) (r + 1) before refs)) same
    ∙ same_after first old r (pairs_of_spec files first) (λ refs. filled_from ((name, text) ∷ files) (r + 1) before refs) (λ refs. filled_from files (r + 1) before refs)
    (λ refs. filled_with files name text (r + 1) before spec left refs distinct.1 is)

-- ---- the next reference

text_of_file : (spec : TableSpec) (name text : List ℕ) (pairs : List Pair) → spec.file ≡ Some name → pairs ≡ pairs_of_text text spec
    → Some (text_pairs spec.two_column text) ≡ Some pairs
text_of_file spec name text pairs is are =
    ap Some (sym (are ∙ ap (λ (o : Option (List ℕ)). option_map_or (λ n. text_pairs spec.two_column text) o (map key_alone spec.inline)) is))

keys_of_spec : (spec : TableSpec) (text : List ℕ) (pairs : List Pair) → spec.file ≡ None → pairs ≡ pairs_of_text text spec
    → Some (map key_alone spec.inline) ≡ Some pairs
keys_of_spec spec text pairs is are =
    ap Some (sym (are ∙ ap (λ (o : Option (List ℕ)). option_map_or (λ n. text_pairs spec.two_column text) o (map key_alone spec.inline)) is))

reach_by : (held : Option NamedBytes) (specs : List TableSpec) (old : References) (r : ℕ) (left : List TableSpec) (spec : TableSpec) (others : List TableSpec) (now : References) (pairs : List Pair)
    (file : Option (List ℕ)) → spec.file ≡ file → Filling held specs old r left now → left ≡ spec ∷ others → HaveDistinctFiles specs → HasPairs held spec pairs
    → Reached held specs old r spec others now pairs
reach_by held specs old r left spec others now pairs None file_is f is distinct p = record {
  files = f.files;
  of_files = f.of_files;
  before = f.before;
  are = f.are ∙ ap (λ (l : List TableSpec). f.before ++ l) is;
  count = f.count;
  whole = f.whole;
  read = no_file f.files spec file_is ∙ keys_of_spec spec p.text pairs file_is p.are;
}
reach_by (Some known) specs old r left spec others now pairs (Some name) file_is f is distinct p =
    let there : value_at known name ≡ Some p.text =
    subst (λ (o : Option (List ℕ)). IfSome o (λ n. value_at known n ≡ Some p.text)) file_is p.of_file in
    record {
      files = f.files;
      of_files = f.of_files;
      before = f.before;
      are = f.are ∙ ap (λ (l : List TableSpec). f.before ++ l) is;
      count = f.count;
      whole = f.whole;
      read = own_file f.files spec name p.text file_is (ap (λ (fs : NamedBytes). value_at fs name) f.of_files ∙ there)
          ∙ text_of_file spec name p.text pairs file_is p.are;
    }
reach_by None specs old r left spec others now pairs (Some name) file_is f is distinct p =
    let are : specs ≡ f.before ++ spec ∷ others = f.are ∙ ap (λ (l : List TableSpec). f.before ++ l) is in
    record {
      files = (name, p.text) ∷ f.files;
      of_files = tt;
      before = f.before;
      are = are;
      count = f.count;
      whole = filled_with f.files name p.text 0 f.before spec others old (subst HaveDistinctFiles are distinct) file_is ∙ f.whole;
      read = own_file ((name, p.text) ∷ f.files) spec name p.text file_is (new_file f.files name p.text)
          ∙ text_of_file spec name p.text pairs file_is p.are;
    }

pub reach : (held : Option NamedBytes) (specs : List TableSpec) (old : References) (r : ℕ) (left : List TableSpec) (spec : TableSpec) (others : List TableSpec) (now : References) (pairs : List Pair)
    → Filling held specs old r left now → left ≡ spec ∷ others → HaveDistinctFiles specs → HasPairs held spec pairs
    → Reached held specs old r spec others now pairs
reach held specs old r left spec others now pairs f is distinct p =
    reach_by held specs old r left spec others now pairs spec.file refl f is distinct p

-- the first of those that are left, and the others as the loop takes them
abbrev pub other_specs : List TableSpec → List TableSpec
other_specs specs = take (length specs - 1) (drop 1 specs)

pub first_and_others : (specs : List TableSpec) (spec : TableSpec) → 0 < length specs → spec ≡ slice_index_or specs 0 spec → specs ≡ spec ∷ other_specs specs
first_and_others specs spec within is =
    drop-cons specs 0 spec within
    ∙ ap (λ (x : TableSpec). x ∷ drop 1 specs) (sym is)
    ∙ ap (λ (xs : List TableSpec). spec ∷ xs) (sym (take_rest specs 1))

-- before the first
pub none_filled : (held : Option NamedBytes) (specs : List TableSpec) (old : References) (files : NamedBytes) → HasFiles held files
    → Filling held specs old 0 specs old
none_filled held specs old files of_files = record { files = files; of_files = of_files; before = []; are = refl; count = refl; whole = refl }

some_files : (held : Option NamedBytes) → (files : NamedBytes) × HasFiles held files
some_files None = ([], tt)
some_files (Some known) = (known, refl)

pub at_first : (held : Option NamedBytes) (specs : List TableSpec) (old : References) → Filling held specs old 0 specs old
at_first held specs old = let (files, of_files) = some_files held in none_filled held specs old files of_files

-- the next one has its entries
pub one_more : (held : Option NamedBytes) (specs : List TableSpec) (old : References) (r : ℕ) (left : List TableSpec) (spec : TableSpec) (others : List TableSpec) (now new : References)
    → Filling held specs old r left now → left ≡ spec ∷ others → HaveDistinctFiles specs → FillsOne held spec r now new
    → Filling held specs old (r + 1) others new
one_more held specs old r left spec others now new f is distinct one =
    let s = reach held specs old r left spec others now one.pairs f is distinct one.of_spec in
    record {
      files = s.files;
      of_files = s.of_files;
      before = s.before ++ spec ∷ [];
      are = s.are ∙ sym (append_assoc s.before (spec ∷ []) others);
      count = let size = length-append s.before (spec ∷ []) in omega (arith, size, s.count);
      whole = filled_after s.files 0 r s.before (spec ∷ []) old now s.whole (omega (arith, s.count))
          ∙ adds spec now r (pairs_of_spec s.files spec) (λ refs. filled_from s.files (r + 1) [] refs) one.pairs s.read one.none
          ∙ ap Whole (sym one.is);
    }

-- one of its entries has a fault
one_refused : (held : Option NamedBytes) (specs : List TableSpec) (old : References) (r : ℕ) (left : List TableSpec) (spec : TableSpec) (others : List TableSpec) (now new : References) (line code : ℕ)
    → Filling held specs old r left now → left ≡ spec ∷ others → HaveDistinctFiles specs → RefusesOne held spec r now line code
    → FillsHeld held specs old new (Err (load.Refused line code))
one_refused held specs old r left spec others now new line code f is distinct one =
    let s = reach held specs old r left spec others now one.pairs f is distinct one.of_spec in
    record {
      files = s.files;
      of_files = s.of_files;
      is = ap (λ (all : List TableSpec). filled_from s.files 0 all old) s.are
          ∙ filled_after s.files 0 r s.before (spec ∷ others) old now s.whole (omega (arith, s.count))
          ∙ refuses spec now r (pairs_of_spec s.files spec) (λ refs. filled_from s.files (r + 1) others refs) one.pairs one.fault s.read one.is
          ∙ ap (λ (l : ℕ). Refused (record { line = l; code = entry_code one.fault })) (sym one.line_is)
          ∙ ap (λ (c : ℕ). Refused (record { line = line; code = c })) (sym one.code_is);
    }

-- all are filled
pub all_filled : (held : Option NamedBytes) (specs : List TableSpec) (old : References) (r : ℕ) (left : List TableSpec) (now : References)
    → Filling held specs old r left now → left ≡ [] → FillsHeld held specs old now (Ok tt)
all_filled held specs old r left now f is = record {
  files = f.files;
  of_files = f.of_files;
  is = ap (λ (all : List TableSpec). filled_from f.files 0 all old) (f.are ∙ ap (λ (l : List TableSpec). f.before ++ l) is)
      ∙ filled_after f.files 0 r f.before [] old now f.whole (omega (arith, f.count));
}

-- the fault of one is that of all
pub fault_filled : (held : Option NamedBytes) (specs : List TableSpec) (old : References) (r : ℕ) (left : List TableSpec) (spec : TableSpec) (others : List TableSpec) (now new : References) (fault : LoadFault)
    → Filling held specs old r left now → left ≡ spec ∷ others → HaveDistinctFiles specs
    → ((line code : ℕ) → fault ≡ load.Refused line code → RefusesOne held spec r now line code)
    → FillsHeld held specs old new (Err fault)
fault_filled held specs old r left spec others now new (load.Refused line code) f is distinct refused =
    one_refused held specs old r left spec others now new line code f is distinct (refused line code refl)
fault_filled held specs old r left spec others now new load.Failed f is distinct refused = record { files = f.files; of_files = f.of_files; is = tt }
fault_filled held specs old r left spec others now new load.TooLarge f is distinct refused = record { files = f.files; of_files = f.of_files; is = tt }
fault_filled held specs old r left spec others now new load.NoMemory f is distinct refused = record { files = f.files; of_files = f.of_files; is = tt }

-- its file is one to which filling comes
unread_at : (held : Option NamedBytes) (specs : List TableSpec) (old : References) (r : ℕ) (left : List TableSpec) (spec : TableSpec) (others : List TableSpec) (now : References) (name : List ℕ)
    → Filling held specs old r left now → left ≡ spec ∷ others → spec.file ≡ Some name → FillReadsLast held specs old (Some name)
unread_at held specs old r left spec others now name f is file = record {
  name = name;
  is = refl;
  files = f.files;
  of_files = f.of_files;
  reads =
      let are : specs ≡ f.before ++ spec ∷ others = f.are ∙ ap (λ (l : List TableSpec). f.before ++ l) is in
      subst (λ (all : List TableSpec). FillingReads f.files 0 all old name) (sym are)
      (reads_after f.files 0 r f.before (spec ∷ others) old now name f.whole (omega (arith, f.count)) (inl file));
}

pub one_unread : (held : Option NamedBytes) (specs : List TableSpec) (old : References) (r : ℕ) (left : List TableSpec) (spec : TableSpec) (others : List TableSpec) (now : References) (last : Option (List ℕ))
    → Filling held specs old r left now → left ≡ spec ∷ others → IsFileOf spec last → FillReadsLast held specs old last
one_unread held specs old r left spec others now None f is file = absurd file
one_unread held specs old r left spec others now (Some name) f is file = unread_at held specs old r left spec others now name f is file

-- the last name that was read in vain, by the fault of one
pub fault_named : (held : Option NamedBytes) (specs : List TableSpec) (old : References) (r : ℕ) (left : List TableSpec) (spec : TableSpec) (others : List TableSpec) (now : References) (fault : LoadFault) (before last : Option (List ℕ))
    → Filling held specs old r left now → left ≡ spec ∷ others → (fault ≡ load.Failed → IsFileOf spec last) → ((fault ≡ load.Failed → ⊥) → last ≡ before)
    → (last ≡ before) ⊎ FillReadsLast held specs old last
fault_named held specs old r left spec others now load.Failed before last f is failed kept = inr (one_unread held specs old r left spec others now last f is (failed refl))
fault_named held specs old r left spec others now (load.Refused line code) before last f is failed kept = inl (kept (λ same. cc same))
fault_named held specs old r left spec others now load.TooLarge before last f is failed kept = inl (kept (λ same. cc same))
fault_named held specs old r left spec others now load.NoMemory before last f is failed kept = inl (kept (λ same. cc same))

-- a key of its is one that filling reads as an expression
asked_at : (held : Option NamedBytes) (specs : List TableSpec) (old : References) (r : ℕ) (spec : TableSpec) (others : List TableSpec) (now : References) (pairs : List Pair) (large : Option ExpressionText)
    → (s : Reached held specs old r spec others now pairs) → IsSomeAnd large (AdditionAsksFor now r None pairs) → IsSomeAnd large (FillingAsksFor s.files 0 specs old)
asked_at held specs old r spec others now pairs None s asked = absurd asked
asked_at held specs old r spec others now pairs (Some text) s asked =
    subst (λ (all : List TableSpec). FillingAsksFor s.files 0 all old text) (sym s.are)
    (asks_after s.files 0 r s.before (spec ∷ others) old now text s.whole (omega (arith, s.count)) (pairs, s.read, inl asked))

pub one_asked : (held : Option NamedBytes) (specs : List TableSpec) (old : References) (r : ℕ) (left : List TableSpec) (spec : TableSpec) (others : List TableSpec) (now : References) (large : Option ExpressionText)
    → Filling held specs old r left now → left ≡ spec ∷ others → HaveDistinctFiles specs → AsksOne held spec r now large
    → FillAsksLast held specs old large
one_asked held specs old r left spec others now large f is distinct one =
    let s = reach held specs old r left spec others now one.pairs f is distinct one.of_spec in
    record { files = s.files; of_files = s.of_files; asked = asked_at held specs old r spec others now one.pairs large s one.asked }

-- ---- what an addition leaves

pub size_of_change : (r : ℕ) (change : Reference → Reference) (all : List Reference) (found : Option Reference)
    → length (option_map_or (λ reference. slice_set all r (change reference)) found all) ≡ length all
size_of_change r change all None = refl
size_of_change r change all (Some reference) = length-set all r (change reference)

pub one_keeps : (held : Option NamedBytes) (spec : TableSpec) (r : ℕ) (now new : References) → FillsOne held spec r now new
    → (length new.references ≡ length now.references) × (new.heads ≡ now.heads)
one_keeps held spec r now new one = (
  ap (λ (refs : References). length refs.references) one.is ∙ size_of_change r (with_pairs None one.pairs) now.references (slice_get now.references r),
  ap (λ (refs : References). refs.heads) one.is,
)

pub ruleset fills = (at_first, one_more, all_filled, one_keeps)
