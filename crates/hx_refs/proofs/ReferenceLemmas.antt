-- What a reference shows of the versions in its row.
use Rattle.std.proofs.Common.{◌≡◌, ℕ, zero, suc, ◌+◌, ◌-◌, ◌^◌, ◌<◌, ◌≤◌, Bool, true, false, List, [], ◌∷◌, ◌++◌, length, drop, All, refl, sym, ap, subst, ◌∙◌, arith, inl, inr}
use Rattle.std.specs.Prelude.{Option, None, Some, IfSome, ◌⊎◌, sum, map, ◌&&◌, nat_lt}
use Rattle.std.proofs.lemmas.Bool.{and_parts, cases_Bool, cases_lt, le-ltb, lt-ltb}
use Rattle.std.proofs.lemmas.List.{append-nil, length-append}
use Rattle.std.proofs.lemmas.List.Elements.{All-nil, All-tail}
use Rattle.hx_text.specs.declared.kinds.By.{By}
use Rattle.hx_text.specs.declared.kinds.Out.{Out}
use Rattle.hx_sample.specs.Find.{Entry}
use Rattle.hx_refs.specs.Additions.{new_entries, with_pairs, Pair}
use Rattle.hx_refs.specs.Changes.{commit_fault, fault_unless, with_current_version, with_new_version, with_version}
use Rattle.hx_refs.specs.Kept.{excess, filled, stored_last, stored_number, with_curr, with_next, with_out, with_use, StoredReference, IsAdded, IsFilled}
use Rattle.hx_refs.specs.Numbers.{HasRisingNumbers, HasShortNumbers, HasVersionsInOrder, NumbersRise}
use Rattle.hx_refs.specs.declared.fault.RefFault.TheVariants.{BadVersion}
use Rattle.hx_refs.specs.References.{changed_at, empty_version, is_open, span, version_entries, version_of, version_place, AreEmpty, Reference, Version}
use Rattle.hx_refs.specs.VersionNumbers.{ahead, number_ahead}
use Rattle.hx_versions.specs.Rows.{first_entries, lowered, total_count, use_ways, version_numbered, versions_between, versions_from, with_last_entries, AreCounted, AreNumbered, AreSearchedBy, Changes, IsCounted, IsDropped, IsSearchedBy, ShownVersion}
use Rattle.hx_refs.specs.Versions.{with_new_entries, AreRising, HasVersion}
use Rattle.hx_refs.proofs.LoweredLemmas.{lowered_counted, lowered_numbers, lowered_searched, lowered_versions, none_smaller}
use Rattle.hx_refs.proofs.OpenLemmas.{is_opened, opened}
use Rattle.hx_refs.proofs.NumberLemmas.{rising_added, rising_after, rising_dropped, rising_lowered, rising_prepared}
use Rattle.hx_refs.proofs.VersionLemmas.{changed_between, committed_between, counted_here, dropped_numbers, entries_counted, few_dropped, first_is_numbered, no_row, none_above, none_below, numbered_to, prepared_between, version_at}
use Rattle.hx_refs.proofs.VersionNumberLemmas.{ahead_fits, ahead_next, ahead_on, ahead_self, number_back, number_fits}

-- ---- reads

pub place_within : (reference : Reference) (number : ℕ) → HasVersion reference number
    → version_place reference (Some number) ≡ Some (ahead reference.curr number)
place_within reference number has =
    rw (is_opened reference number has) refl

-- the version that is searched is one
pub has_searched : (reference : Reference) → HasShortNumbers reference → HasVersion reference reference.curr
has_searched reference short = (short.0, omega (arith, ahead_self reference.curr))

-- and has the first number
pub searched_place : (reference : Reference) → HasShortNumbers reference
    → version_place reference None ≡ version_place reference (Some reference.curr)
searched_place reference short =
    sym (place_within reference reference.curr (has_searched reference short)
    ∙ ap (λ (n : ℕ). Some n) (ahead_self reference.curr))

pub version_here : (k : StoredReference) (row : List ShownVersion) (number : ℕ) → HasVersion k.kept.shown number
    → version_of (filled k row).shown (Some number) ≡ Some (version_numbered (stored_number k number) row)
version_here k row number has =
    rw (place_within k.kept.shown number has)
    (version_at k.stored_first (suc (stored_last k - k.stored_first)) (ahead k.kept.shown.curr number) row (omega (arith, has.1)))

-- the entries of a version, whether the reference has it or not
pub entries_numbered : (k : StoredReference) (row : List ShownVersion) (ver : Option ℕ) (stored : ℕ) → IsFilled k row
    → IfSome (version_place k.kept.shown ver) (λ place. stored ≡ k.stored_first + place)
    → (version_place k.kept.shown ver ≡ None → (stored < k.stored_first) ⊎ (stored_last k < stored))
    → version_entries (filled k row).shown ver ≡ (version_numbered stored row).entries
entries_numbered k row None stored all some none =
    let same : k.stored_first ≡ stored = omega (arith, some) in
    ap (λ n. (version_numbered n row).entries) same
entries_numbered k row (Some number) stored all some none =
    elim (cases_Bool (is_open k.kept.shown number)) [
      | inl found ↦
          let has = opened k.kept.shown number found in
          let same : stored ≡ stored_number k number = rw found at some in
          rw (version_here k row number has) (ap (λ n. (version_numbered n row).entries) (sym same))
      | inr closed ↦
          let apart : (stored < k.stored_first) ⊎ (stored_last k < stored) = none (rw closed refl) in
          rw closed
          (elim apart [
            | inl below ↦
                ap (λ (v : Version). v.entries) (sym (none_below stored k.stored_first (stored_last k) row all.numbers below))
            | inr above ↦
                ap (λ (v : Version). v.entries) (sym (none_above stored k.stored_first (stored_last k) row all.numbers above))
          ])
    ]

pub count_shown : (k : StoredReference) (row : List ShownVersion) → IsFilled k row
    → sum (map (λ version. length version.entries) (filled k row).shown.versions) ≡ total_count row
count_shown k row all =
    entries_counted k.stored_first (suc (stored_last k - k.stored_first)) (stored_last k) row all.numbers (omega arith)

-- ---- changes

-- a change of a version in the row is shown as one
pub change_shown : (k : StoredReference) (ver : Option ℕ) (number : ℕ) (change : Version → Version) (old new : List ShownVersion)
    → IsFilled k old → HasVersion k.kept.shown number → version_place k.kept.shown ver ≡ version_place k.kept.shown (Some number)
    → Changes (stored_number k number) change old new
    → filled k new ≡ record (filled k old) { shown = with_version ver change (filled k old).shown }
change_shown k ver number change old new all has same changes =
    let place : version_place (filled k old).shown ver ≡ Some (ahead k.kept.shown.curr number) =
    same ∙ place_within k.kept.shown number has in
    let stored = stored_number k number in
    let distance : stored - k.stored_first ≡ ahead k.kept.shown.curr number = omega arith in
    let low : k.stored_first ≤ stored = omega arith in
    let high : stored ≤ stored_last k = omega (arith, has.1) in
    rw place
    (ap (λ (versions : List Version). record k.kept { shown = record k.kept.shown { versions = versions } })
    (subst
    (λ n. versions_between k.stored_first (stored_last k) new ≡ changed_at n change (versions_between k.stored_first (stored_last k) old))
    distance
    (changed_between k.stored_first (stored_last k) stored change old new low high (changes k.stored_first (stored_last k) all.numbers low high))))

-- entries that the pairs become are a change that appends these pairs
pub pairs_change : (stored number : ℕ) (pairs : List Pair) (entries : List Entry) (serial : ℕ) (old new : List ShownVersion)
    → entries ≡ new_entries number (version_numbered stored old).serial pairs
    → serial ≡ (version_numbered stored old).serial + length pairs
    → Changes stored (with_last_entries entries serial) old new → Changes stored (with_new_entries number pairs) old new
pairs_change stored number pairs entries serial old new are last changes first least all low high =
    let change = changes first least all low high in record {
      numbers = change.numbers;
      changed = rw (← are, ← last) change.changed;
      others = change.others;
    }

pub pairs_shown : (k : StoredReference) (number : ℕ) (pairs : List Pair) (entries : List Entry) (serial : ℕ) (old new : List ShownVersion)
    → IsFilled k old → HasVersion k.kept.shown number
    → Changes (stored_number k number) (with_last_entries entries serial) old new
    → IsAdded (filled k old) number pairs entries serial
    → filled k new ≡ record (filled k old) { shown = with_pairs (Some number) pairs (filled k old).shown }
pairs_shown k number pairs entries serial old new all has changes added =
    let is = rw (version_here k old number has) at added in
    change_shown k (Some number) number (with_new_entries number pairs) old new all has refl
    (pairs_change (stored_number k number) number pairs entries serial old new is.0 is.1 changes)

-- no pairs are appended where nothing is changed
pub none_appended : (k : StoredReference) (number : ℕ) (pairs : List Pair) (serial : ℕ) (row : List ShownVersion)
    → HasVersion k.kept.shown number → IsAdded (filled k row) number pairs [] serial
    → Changes (stored_number k number) (with_last_entries [] serial) row row
none_appended k number pairs serial row has added first last all low high =
    let is = rw (version_here k row number has) at added in record {
      numbers = all;
      changed = same (version_numbered (stored_number k number) row) (none pairs is.0 is.1);
      others = λ other apart. refl;
    }
  where
    none : (pairs : List Pair) → [] ≡ new_entries number (version_numbered (stored_number k number) row).serial pairs
        → serial ≡ (version_numbered (stored_number k number) row).serial + length pairs
        → serial ≡ (version_numbered (stored_number k number) row).serial
    none [] entries last = omega (arith, last)
    none (pair ∷ pairs) entries last = absurd (cc)

    same : (v : Version) → serial ≡ v.serial → v ≡ with_last_entries [] serial v
    same v is = rw (is, append-nil v.entries) refl

-- what holds of the row stays so
pub filled_after : (k : StoredReference) (number : ℕ) (change : Version → Version) (old new : List ShownVersion)
    → IsFilled k old → HasVersion k.kept.shown number → Changes (stored_number k number) change old new
    → AreSearchedBy (use_ways k.kept.uses) new → AreCounted new
    → HasRisingNumbers number (change (version_numbered (stored_number k number) old)) → IsFilled k new
filled_after k number change old new all has changes searched counted rising =
    let curr = k.kept.shown.curr in
    let change_here = changes k.stored_first (stored_last k) all.numbers (omega arith) (omega (arith, has.1)) in record {
      short = all.short;
      numbers = change_here.numbers;
      searched = searched;
      counted = counted;
      rising = rising_after k.stored_first (stored_last k) k.stored_first curr (span k.kept.shown) (ahead curr number) change old new change_here all.rising
          (subst (λ n. HasRisingNumbers n (change (version_numbered (stored_number k number) old))) (sym (number_back curr number all.short.0 has.0))
          rising);
    }

-- what holds of the version of a number
pub rising_here : (k : StoredReference) (row : List ShownVersion) (number : ℕ) → IsFilled k row → HasVersion k.kept.shown number
    → HasRisingNumbers number (version_numbered (stored_number k number) row)
rising_here k row number all has =
    let curr = k.kept.shown.curr in
    subst (λ n. HasRisingNumbers n (version_numbered (stored_number k number) row)) (number_back curr number all.short.0 has.0)
    (all.rising (ahead curr number) has.1)

-- ---- a version more

-- the numbers are lowered by no more than the first
pub excess_within : (k : StoredReference) → excess k ≤ k.stored_first
excess_within k = elim (cases_lt (stored_last k) 4294967295) [
  | inl room ↦ rw (lt-ltb (stored_last k) 4294967295 room) (omega arith)
  | inr full ↦ rw (le-ltb (stored_last k) 4294967295 full) (omega arith)
]

pub above_excess : (k : StoredReference) (row : List ShownVersion) → IsFilled k row → All (λ (v : ShownVersion). excess k ≤ v.number) row
above_excess k row all =
    none_smaller (excess k) k.stored_first (stored_last k) row (excess_within k) all.numbers

pub filled_prepared : (k : StoredReference) (row : List ShownVersion) → IsFilled k row → span k.kept.shown + 1 < 2 ^ 32
    → IsFilled (with_next k) (map (lowered (excess k)) row)
filled_prepared k row all room =
    let by = excess k in
    let le : by ≤ k.stored_first = excess_within k in
    let more = ahead_next k.kept.shown.curr k.kept.shown.next all.short.0 all.short.1 room in record {
      short = (all.short.0, number_fits k.kept.shown.next 1 all.short.1 (omega arith));
      numbers = numbered_to (k.stored_first - by) (stored_last k - by) (stored_last (with_next k)) (map (lowered by) row) (omega (arith, more, le))
          (lowered_numbers by k.stored_first (stored_last k) row le all.numbers);
      searched = lowered_searched by (use_ways k.kept.uses) row all.searched;
      counted = lowered_counted by row all.counted;
      rising = subst (λ n. AreRising (k.stored_first - by) k.kept.shown.curr n (map (lowered by) row)) (sym more)
          (rising_lowered by k.stored_first k.kept.shown.curr (span k.kept.shown + 1) row le
          (numbered_to k.stored_first (stored_last k) (k.stored_first + (span k.kept.shown + 1)) row (omega arith) all.numbers)
          (rising_prepared k.stored_first k.kept.shown.curr (span k.kept.shown) row all.numbers all.rising));
    }

pub prepared_shown : (k : StoredReference) (row : List ShownVersion) → IsFilled k row → span k.kept.shown + 1 < 2 ^ 32
    → filled (with_next k) (map (lowered (excess k)) row)
    ≡ record (filled k row) { shown = with_new_version (filled k row).shown }
prepared_shown k row all room =
    let by = excess k in
    let le : by ≤ k.stored_first = excess_within k in
    let more = ahead_next k.kept.shown.curr k.kept.shown.next all.short.0 all.short.1 room in
    let count : suc (stored_last (with_next k) - (k.stored_first - by)) ≡ suc (stored_last k + 1 - k.stored_first) = omega (arith, more, le) in
    ap (λ (versions : List Version). record k.kept { shown = record k.kept.shown { next = number_ahead k.kept.shown.next 1; versions = versions } })
    (ap (λ n. versions_from (k.stored_first - by) n (map (lowered by) row)) count
    ∙ lowered_versions by k.stored_first (stored_last k) k.stored_first (suc (stored_last k + 1 - k.stored_first)) row le all.numbers le
    ∙ prepared_between k.stored_first (stored_last k) row (omega arith) all.numbers)

-- ---- the version of a number is searched

-- the last keeps its number
pub same_last : (k : StoredReference) (number : ℕ) → HasShortNumbers k.kept.shown → HasVersion k.kept.shown number
    → stored_last (with_curr number k) ≡ stored_last k
same_last k number short has =
    omega (arith, ahead_on k.kept.shown.curr number k.kept.shown.next short.0 has.0 short.1 has.1)

pub filled_committed : (k : StoredReference) (number : ℕ) (old new : List ShownVersion) → IsFilled k old → HasVersion k.kept.shown number
    → IsDropped (stored_number k number) old new → IsFilled (with_curr number k) new
filled_committed k number old new all has drops =
    let curr = k.kept.shown.curr in
    let stored = stored_number k number in
    let before = subst (AreNumbered k.stored_first (stored_last k)) drops.parts all.numbers in
    let numbers = dropped_numbers stored k.stored_first (stored_last k) drops.dropped new before drops.below drops.rest in
    let parts = ahead_on curr number k.kept.shown.next all.short.0 has.0 all.short.1 has.1 in record {
      short = (has.0, all.short.1);
      numbers = subst (λ n. AreNumbered stored n new) (sym (same_last k number all.short has)) numbers;
      searched = All-rest (IsSearchedBy (use_ways k.kept.uses)) drops.dropped new (subst (AreSearchedBy (use_ways k.kept.uses)) drops.parts all.searched);
      counted = All-rest IsCounted drops.dropped new (subst AreCounted drops.parts all.counted);
      rising = rising_dropped k.stored_first curr (span k.kept.shown) number (ahead number k.kept.shown.next) (ahead curr number) drops.dropped new drops.below
          all.short.0 (ahead_fits curr k.kept.shown.next all.short.0 all.short.1) (sym (number_back curr number all.short.0 has.0)) parts
          (subst (AreRising k.stored_first curr (span k.kept.shown)) drops.parts all.rising);
    }
  where
    All-rest : {A : Type 0} → (P : A → Type 0) (xs ys : List A) → All P (xs ++ ys) → All P ys
    All-rest P [] ys is = is
    All-rest P (x ∷ xs) ys is = All-rest P xs ys (All-tail P x (xs ++ ys) is)

pub committed_shown : (k : StoredReference) (number : ℕ) (old new : List ShownVersion) → IsFilled k old → HasVersion k.kept.shown number
    → IsDropped (stored_number k number) old new
    → filled (with_curr number k) new ≡ record (filled k old) { shown = with_current_version number (filled k old).shown }
committed_shown k number old new all has drops =
    let stored = stored_number k number in
    let distance : stored - k.stored_first ≡ ahead k.kept.shown.curr number = omega arith in
    ap (λ (versions : List Version). record k.kept { shown = record k.kept.shown { curr = number; versions = versions } })
    (ap (λ n. versions_between stored n new) (same_last k number all.short has)
    ∙ committed_between stored k.stored_first (stored_last k) drops.dropped new drops.below (omega arith) (omega (arith, has.1))
    ∙ ap (λ n. drop n (versions_between k.stored_first (stored_last k) (drops.dropped ++ new))) distance
    ∙ ap (λ (row : List ShownVersion). drop (ahead k.kept.shown.curr number) (versions_between k.stored_first (stored_last k) row)) (sym drops.parts))

-- how many versions are dropped
pub dropped_count : (k : StoredReference) (number : ℕ) (old new : List ShownVersion) → IsFilled k old
    → IsDropped (stored_number k number) old new → length old ≤ length new + ahead k.kept.shown.curr number
dropped_count k number old new all drops =
    let before = subst (AreNumbered k.stored_first (stored_last k)) drops.parts all.numbers in
    let few = few_dropped (stored_number k number) k.stored_first (stored_last k) drops.dropped new before drops.below (omega arith) in
    let whole = ap length drops.parts ∙ length-append drops.dropped new in
    omega (arith, few, whole)

-- ---- what is shown at any time

length-versions_from : (number count : ℕ) (row : List ShownVersion) → length (versions_from number count row) ≡ count
length-versions_from number zero row = refl
length-versions_from number (suc count) row = ap suc (length-versions_from (number + 1) count row)

pub versions_in_order : (k : StoredReference) (row : List ShownVersion) → IsFilled k row → HasVersionsInOrder (filled k row).shown
versions_in_order k row all = record {
  short = all.short;
  count = omega (arith, length-versions_from k.stored_first (suc (stored_last k - k.stored_first)) row);
}

pub numbers_rise : (k : StoredReference) (row : List ShownVersion) → IsFilled k row → NumbersRise (filled k row).shown
numbers_rise k row all number = elim (cases_Bool (is_open k.kept.shown number)) [
  | inl found ↦
      let has = opened k.kept.shown number found in
      rw (version_here k row number has) (rising_here k row number all has)
  | inr closed ↦ rw closed tt
]

-- ---- additions

pub length-new_entries : (number serial : ℕ) (pairs : List Pair) → length (new_entries number serial pairs) ≡ length pairs
length-new_entries number serial [] = refl
length-new_entries number serial (pair ∷ pairs) = ap suc (length-new_entries number (serial + 1) pairs)

-- with new entries, too, a version has no more of them than additions
pub few_added : (k : StoredReference) (number : ℕ) (row : List ShownVersion) (pairs : List Pair) (entries : List Entry) (serial : ℕ)
    → IsFilled k row → HasVersion k.kept.shown number → IsAdded (filled k row) number pairs entries serial
    → length (version_numbered (stored_number k number) row).entries + length entries ≤ serial
few_added k number row pairs entries serial all has added =
    let is = rw (version_here k row number has) at added in
    let len : length entries ≡ length pairs =
    ap length is.0 ∙ length-new_entries number (version_numbered (stored_number k number) row).serial pairs in
    omega (arith, counted_here (stored_number k number) row all.counted, len, is.1)

-- and their numbers rise
pub rising_with_added : (k : StoredReference) (number : ℕ) (row : List ShownVersion) (pairs : List Pair) (entries : List Entry) (serial : ℕ)
    → IsFilled k row → HasVersion k.kept.shown number → IsAdded (filled k row) number pairs entries serial
    → HasRisingNumbers number (with_last_entries entries serial (version_numbered (stored_number k number) row))
rising_with_added k number row pairs entries serial all has added =
    let is = rw (version_here k row number has) at added in
    rw (is.0, is.1) (rising_added number pairs (version_numbered (stored_number k number) row) (rising_here k row number all has))

-- ---- uses and outputs

-- there is no version where nothing was added, so that it can be searched by any uses
pub filled_unused : (method : By) (ci : Bool) (head : ℕ) (k : StoredReference) (row : List ShownVersion) → IsFilled k row
    → AreEmpty (filled k row).shown.versions → IsFilled (with_use method ci head k) row
filled_unused method ci head k row all empty =
    let none = no_row k.stored_first (stored_last k) row (omega arith) all.numbers all.counted empty in record {
      short = all.short;
      numbers = all.numbers;
      searched = subst (AreSearchedBy (use_ways (with_use method ci head k).kept.uses)) (sym none)
          (All-nil (IsSearchedBy (use_ways (with_use method ci head k).kept.uses)));
      counted = all.counted;
      rising = all.rising;
    }

pub filled_read : (out : Out) (k : StoredReference) (row : List ShownVersion) → IsFilled k row → IsFilled (with_out out k) row
filled_read out k row all = record {
  short = all.short;
  numbers = all.numbers;
  searched = all.searched;
  counted = all.counted;
  rising = all.rising;
}

-- ---- searches and commits

-- the version that is searched stands first
pub searched_first : (k : StoredReference) (row : List ShownVersion) → IsFilled k row
    → first_entries k.stored_first row ≡ version_entries (filled k row).shown None
searched_first k row all = first_is_numbered k.stored_first (stored_last k) row all.numbers

-- where a commit isn't refused, the reference has the version
pub committable : (reference : Reference) (number : ℕ) → None ≡ commit_fault number reference → HasVersion reference number
committable reference number none =
    go (is_open reference number && nat_lt 0 (ahead reference.curr number)) refl none
  where
    go : (fine : Bool) → (is_open reference number && nat_lt 0 (ahead reference.curr number)) ≡ fine
        → None ≡ fault_unless fine BadVersion → HasVersion reference number
    go true is same =
        opened reference number (and_parts (is_open reference number) (nat_lt 0 (ahead reference.curr number)) is).0
    go false is same = absurd (cc)

-- ---- a new reference

-- it has one version, to which nothing was added
pub new_shown : (k : StoredReference) → k.kept.shown.curr ≡ k.kept.shown.next
    → filled k [] ≡ record k.kept { shown = record k.kept.shown { versions = empty_version ∷ [] } }
new_shown k same =
    let none : ahead k.kept.shown.curr k.kept.shown.next ≡ 0 =
    subst (λ n. ahead k.kept.shown.curr n ≡ 0) same (ahead_self k.kept.shown.curr) in
    let one : stored_last k - k.stored_first ≡ 0 = omega (arith, none) in
    ap (λ n. record k.kept { shown = record k.kept.shown { versions = versions_from k.stored_first (suc n) [] } }) one

pub filled_new : (k : StoredReference) → HasShortNumbers k.kept.shown → IsFilled k []
filled_new k short = record {
  short = short;
  numbers = tt;
  searched = All-nil (IsSearchedBy (use_ways k.kept.uses));
  counted = All-nil IsCounted;
  rising = λ distance within. tt;
}
