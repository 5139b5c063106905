-- Adding some pairs to a reference and then others is adding them all.
use Rattle.std.proofs.Common.{◌≡◌, ℕ, zero, suc, ◌+◌, inl, inr, List, [], ◌∷◌, ◌++◌, length, Option, None, Some, refl, sym, ap, ◌∙◌, subst, arith, append_assoc, length-append}
use Rattle.std.specs.Prelude.{IfSome, option_map, slice_get, slice_set}
use Rattle.std.specs.Option.{option_map_or, option_or}
use Rattle.hx_outside.specs.Makers.{ExpressionText}
use Rattle.hx_sample.specs.Find.{Entry}
use Rattle.hx_refs.specs.Additions.{AdditionAsksFor, Demands, Pair, PairsAskFor, VersionAsksFor, addition_fault, after_addition, demands_on, new_entries, new_entry, pair_fault, pairs_fault, with_pairs}
use Rattle.hx_refs.specs.References.{Reference, References, Version, changed_at}
use Rattle.hx_refs.specs.Versions.{with_new_entries}
use Rattle.hx_refs.specs.declared.RefFault.{RefFault}
use Rattle.hx_refs.specs.declared.RefFault.TheVariants.{BadVersion}

-- ---- two faults, of which the first counts

or_left : (first second all rest : Option RefFault) → all ≡ option_or second rest → option_or first all ≡ option_or (option_or first second) rest
or_left None second all rest is = is
or_left (Some fault) second all rest is = refl

both_none : (first second : Option RefFault) → option_or first second ≡ None → (first ≡ None) × (second ≡ None)
both_none None second none = (refl, none)
both_none (Some fault) second none = absurd (let never : Some fault ≡ None = none in cc)

-- ---- pairs

fault_of_both : (demands : Demands) (count serial : ℕ) (xs ys : List Pair) (n m : ℕ) → n ≡ count + length xs → m ≡ serial + length xs
    → pairs_fault demands count serial (xs ++ ys) ≡ option_or (pairs_fault demands count serial xs) (pairs_fault demands n m ys)
fault_of_both demands count serial [] ys n m count_is serial_is =
    let same_count : count ≡ n = omega (arith, count_is) in
    let same_serial : serial ≡ m = omega (arith, serial_is) in
    ap (λ (k : ℕ). pairs_fault demands k serial ys) same_count ∙ ap (λ (k : ℕ). pairs_fault demands n k ys) same_serial
fault_of_both demands count serial (x ∷ xs) ys n m count_is serial_is =
    or_left (pair_fault demands count serial x) (pairs_fault demands (count + 1) (serial + 1) xs) (pairs_fault demands (count + 1) (serial + 1) (xs ++ ys)) (pairs_fault demands n m ys)
    (fault_of_both demands (count + 1) (serial + 1) xs ys n m (omega (arith, count_is)) (omega (arith, serial_is)))

-- what the first of them ask for
first_ask : (demands : Demands) (count serial : ℕ) (xs ys : List Pair) (text : ExpressionText)
    → PairsAskFor demands count serial xs text → PairsAskFor demands count serial (xs ++ ys) text
first_ask demands count serial [] ys text asked = absurd asked
first_ask demands count serial (x ∷ xs) ys text asked = elim asked [
  | inl here ↦ inl here
  | inr later ↦ inr (later.0, first_ask demands (count + 1) (serial + 1) xs ys text later.1)
]

-- what the others ask for, where the first of them have no fault
others_ask : (demands : Demands) (count serial : ℕ) (xs ys : List Pair) (n m : ℕ) (text : ExpressionText) → n ≡ count + length xs → m ≡ serial + length xs
    → pairs_fault demands count serial xs ≡ None → PairsAskFor demands n m ys text → PairsAskFor demands count serial (xs ++ ys) text
others_ask demands count serial [] ys n m text count_is serial_is none asked =
    let same_count : n ≡ count = omega (arith, count_is) in
    let same_serial : m ≡ serial = omega (arith, serial_is) in
    subst (λ (k : ℕ). PairsAskFor demands k serial ys text) same_count (subst (λ (k : ℕ). PairsAskFor demands n k ys text) same_serial asked)
others_ask demands count serial (x ∷ xs) ys n m text count_is serial_is none asked =
    let (here, later) = both_none (pair_fault demands count serial x) (pairs_fault demands (count + 1) (serial + 1) xs) none in
    inr (here, others_ask demands (count + 1) (serial + 1) xs ys n m text (omega (arith, count_is)) (omega (arith, serial_is)) later asked)

entries_of_both : (version serial : ℕ) (xs ys : List Pair) (m : ℕ) → m ≡ serial + length xs
    → new_entries version serial (xs ++ ys) ≡ new_entries version serial xs ++ new_entries version m ys
entries_of_both version serial [] ys m serial_is =
    let same : serial ≡ m = omega (arith, serial_is) in
    ap (λ (k : ℕ). new_entries version k ys) same
entries_of_both version serial (x ∷ xs) ys m serial_is =
    ap (λ (entries : List Entry). new_entry version (serial + 1, x) ∷ entries) (entries_of_both version (serial + 1) xs ys m (omega (arith, serial_is)))

new_count : (version serial : ℕ) (xs : List Pair) → length (new_entries version serial xs) ≡ length xs
new_count version serial [] = refl
new_count version serial (x ∷ xs) = ap suc (new_count version (serial + 1) xs)

-- ---- a version

abbrev version_of_parts : ℕ → List Entry → Version
version_of_parts serial entries = record { serial = serial; entries = entries }

version_with_both : (number : ℕ) (xs ys : List Pair) (version : Version)
    → with_new_entries number ys (with_new_entries number xs version) ≡ with_new_entries number (xs ++ ys) version
version_with_both number xs ys version =
    let last = version.serial + length xs in
    let serial : last + length ys ≡ version.serial + length (xs ++ ys) = omega (arith, length-append xs ys) in
    let entries = append_assoc version.entries (new_entries number version.serial xs) (new_entries number last ys)
    ∙ ap (λ (added : List Entry). version.entries ++ added) (sym (entries_of_both number version.serial xs ys last refl)) in
    ap (λ (k : ℕ). version_of_parts k ((version.entries ++ new_entries number version.serial xs) ++ new_entries number last ys)) serial
    ∙ ap (λ (all : List Entry). version_of_parts (version.serial + length (xs ++ ys)) all) entries

-- ---- an item at a position

one_further : {A : Type 0} (at : ℕ) (change : A → A) (x : A) (xs : List A) (found : Option A)
    → option_map_or (λ y. slice_set (x ∷ xs) (suc at) (change y)) found (x ∷ xs)
    ≡ x ∷ option_map_or (λ y. slice_set xs at (change y)) found xs
one_further at change x xs None = refl
one_further at change x xs (Some y) = refl

abbrev further : {A : Type 0} (at : ℕ) (change : A → A) (x : A) (xs : List A)
    → changed_at (suc at) change (x ∷ xs) ≡ x ∷ changed_at at change xs
further at change x xs = one_further at change x xs (slice_get xs at)

-- two changes are one
changed_twice : {A : Type 0} (at : ℕ) (f g h : A → A) (xs : List A) → ((x : A) → f (g x) ≡ h x)
    → changed_at at f (changed_at at g xs) ≡ changed_at at h xs
changed_twice at f g h [] same = refl
changed_twice zero f g h (x ∷ xs) same = ap (λ y. y ∷ xs) (same x)
changed_twice (suc at) f g h (x ∷ xs) same =
    ap (λ all. changed_at (suc at) f all) (further at g x xs) ∙ further at f x (changed_at at g xs)
    ∙ ap (λ all. x ∷ all) (changed_twice at f g h xs same) ∙ sym (further at h x xs)

item_changed : {A : Type 0} (at : ℕ) (change : A → A) (xs : List A)
    → slice_get (changed_at at change xs) at ≡ option_map change (slice_get xs at)
item_changed at change [] = refl
item_changed zero change (x ∷ xs) = refl
item_changed (suc at) change (x ∷ xs) = ap (λ all. slice_get all (suc at)) (further at change x xs) ∙ item_changed at change xs

-- ---- a reference

reference_with_both : (xs ys : List Pair) (reference : Reference)
    → with_pairs None ys (with_pairs None xs reference) ≡ with_pairs None (xs ++ ys) reference
reference_with_both xs ys reference =
    ap (λ (versions : List Version). record reference { versions = versions })
    (changed_twice zero (with_new_entries reference.curr ys) (with_new_entries reference.curr xs) (with_new_entries reference.curr (xs ++ ys)) reference.versions
    (version_with_both reference.curr xs ys))

-- the fault of pairs, by the versions of a reference of which the first is searched
abbrev versions_fault : Demands → List Pair → List Version → Option RefFault
versions_fault demands pairs versions =
    option_map_or (λ (version : Version). pairs_fault demands (length version.entries) version.serial pairs) (slice_get versions zero) (Some BadVersion)

module _ (demands : Demands) (number : ℕ) (xs ys : List Pair) where
  entry_count : (version : Version) → length (with_new_entries number xs version).entries ≡ length version.entries + length xs
  entry_count version =
      omega (arith, length-append version.entries (new_entries number version.serial xs), new_count number version.serial xs)

  versions_fault_of_both : (versions : List Version)
      → versions_fault demands (xs ++ ys) versions
      ≡ option_or (versions_fault demands xs versions) (versions_fault demands ys (changed_at zero (with_new_entries number xs) versions))
  versions_fault_of_both [] = refl
  versions_fault_of_both (version ∷ versions) =
      fault_of_both demands (length version.entries) version.serial xs ys (length (with_new_entries number xs version).entries) (version.serial + length xs)
      (entry_count version) refl

  versions_first_ask : (versions : List Version) (text : ExpressionText) → VersionAsksFor demands (slice_get versions zero) xs text
      → VersionAsksFor demands (slice_get versions zero) (xs ++ ys) text
  versions_first_ask [] text asked = absurd asked
  versions_first_ask (version ∷ versions) text asked = first_ask demands (length version.entries) version.serial xs ys text asked

  versions_others_ask : (versions : List Version) (text : ExpressionText) → versions_fault demands xs versions ≡ None
      → VersionAsksFor demands (slice_get (changed_at zero (with_new_entries number xs) versions) zero) ys text
      → VersionAsksFor demands (slice_get versions zero) (xs ++ ys) text
  versions_others_ask [] text none asked = absurd asked
  versions_others_ask (version ∷ versions) text none asked =
      others_ask demands (length version.entries) version.serial xs ys (length (with_new_entries number xs version).entries) (version.serial + length xs) text
      (entry_count version) refl none asked

-- ---- the references

module _ (refs : References) (r : ℕ) (xs ys : List Pair) where
  abbrev fault_in : List Pair → Reference → Option RefFault
  fault_in pairs reference = versions_fault (demands_on refs r reference) pairs reference.versions

  fault_found : (found : Option Reference)
      → option_map_or (fault_in (xs ++ ys)) found None
      ≡ option_or (option_map_or (fault_in xs) found None) (option_map_or (fault_in ys) (option_map (with_pairs None xs) found) None)
  fault_found None = refl
  fault_found (Some reference) = versions_fault_of_both (demands_on refs r reference) reference.curr xs ys reference.versions

  -- the fault of all is that of the first of them, or else of the others after these
  pub addition_fault_of_both : addition_fault refs r None (xs ++ ys)
      ≡ option_or (addition_fault refs r None xs) (addition_fault (after_addition refs r None xs) r None ys)
  addition_fault_of_both =
      fault_found (slice_get refs.references r)
      ∙ ap (λ (found : Option Reference). option_or (addition_fault refs r None xs) (option_map_or (fault_in ys) found None))
      (sym (item_changed r (with_pairs None xs) refs.references))

  pub after_both : after_addition (after_addition refs r None xs) r None ys ≡ after_addition refs r None (xs ++ ys)
  after_both =
      ap (λ (all : List Reference). record refs { references = all })
      (changed_twice r (with_pairs None ys) (with_pairs None xs) (with_pairs None (xs ++ ys)) refs.references (reference_with_both xs ys))

  abbrev Asks : List Pair → ExpressionText → Reference → Type 0
  Asks pairs text reference = VersionAsksFor (demands_on refs r reference) (slice_get reference.versions zero) pairs text

  first_found : (found : Option Reference) (text : ExpressionText) → IfSome found (Asks xs text) → IfSome found (Asks (xs ++ ys) text)
  first_found None text asked = tt
  first_found (Some reference) text asked =
      versions_first_ask (demands_on refs r reference) reference.curr xs ys reference.versions text asked

  -- what the first of them ask for is asked for
  pub first_of_both_ask : (text : ExpressionText) → AdditionAsksFor refs r None xs text → AdditionAsksFor refs r None (xs ++ ys) text
  first_of_both_ask text asked = first_found (slice_get refs.references r) text asked

  others_found : (found : Option Reference) (text : ExpressionText) → option_map_or (fault_in xs) found None ≡ None
      → IfSome (option_map (with_pairs None xs) found) (Asks ys text) → IfSome found (Asks (xs ++ ys) text)
  others_found None text none asked = tt
  others_found (Some reference) text none asked =
      versions_others_ask (demands_on refs r reference) reference.curr xs ys reference.versions text none asked

  -- what the others ask for after these is asked for
  pub others_of_both_ask : (text : ExpressionText) → addition_fault refs r None xs ≡ None
      → AdditionAsksFor (after_addition refs r None xs) r None ys text → AdditionAsksFor refs r None (xs ++ ys) text
  others_of_both_ask text none asked =
      others_found (slice_get refs.references r) text none
      (subst (λ (found : Option Reference). IfSome found (Asks ys text)) (item_changed r (with_pairs None xs) refs.references) asked)
