-- A change of one version of one of the references.
use Rattle.std.proofs.Common.{◌≡◌, ℕ, ◌+◌, ◌<◌, ◌≤◌, Bool, true, false, List, [], length, refl, ap, subst, sym, ◌∙◌, arith}
use Rattle.std.specs.Prelude.{◌⊎◌, Option, None, Some, is_some, IfNone, IfSome, Result, Ok, Err, IfOk, OnOk, OnErr, slice_get, slice_index_or, slice_set, option_and_then, unwrap_or}
use Rattle.std.specs.List.{list_any}
use Rattle.hx_text.specs.declared.kinds.By.{By}
use Rattle.hx_outside.specs.Makers.{ExpressionText}
use Rattle.hx_sample.specs.Find.{Entry}
use Rattle.hx_refs.specs.Additions.{new_entries, pairs_fault, with_pairs, Pair, PairsAskFor, VersionAsksFor}
use Rattle.hx_refs.specs.Changes.{commit_fault, deletion_fault, value_fault, with_version, MayFail}
use Rattle.hx_refs.specs.declared.limits.Limits.{Limits}
use Rattle.hx_refs.specs.Kept.{all_filled, filled, kept_demands, kept_fault, stored_last, stored_number, version_fault, with_kept, AreFilled, StoredReference, IsAdded, IsFilled, Kept}
use Rattle.hx_refs.specs.Numbers.{HasRisingNumbers}
use Rattle.hx_refs.specs.References.{refuses_value, version_entries, version_of, version_place, Reference, Version}
use Rattle.hx_refs.specs.declared.fault.RefFault.{RefFault}
use Rattle.hx_refs.specs.declared.fault.RefFault.TheVariants.{BadValue, BadVersion, KeyNotFound, NoMemory}
use Rattle.hx_versions.specs.Rows.{row_at, use_ways, version_numbered, with_last_entries, AreCounted, AreSearchedBy, Changes, StoreView}
use Rattle.hx_refs.specs.Versions.{HasVersion}
use Rattle.hx_refs.proofs.FilledLemmas.{filled_get, kept_at, row_changed, row_filled, row_within, same_rows, seen_from, set_itself}
use Rattle.hx_refs.proofs.ReferenceLemmas.{change_shown, committable, entries_numbered, few_added, filled_after, none_appended, pairs_shown, place_within, rising_here, rising_with_added, version_here}

-- the references stay filled, and what is seen of them is changed
pub record Changed (kept : List StoredReference) (old new : StoreView) (r : ℕ) (change : Reference → Reference) : Type 0 where
  pub is_filled : AreFilled kept new
  pub shown : all_filled kept new.rows ≡ with_kept r change (all_filled kept old.rows)

-- both hold of a value
pub if_ok_both : {T E : Type 0} {P Q R : T → Type 0} (r : Result T E) → ((x : T) → P x → Q x → R x) → IfOk r P → IfOk r Q → IfOk r R
if_ok_both (Ok x) f p q = f x p q
if_ok_both (Err e) f p q = tt

pub ok_of_each : {T E : Type 0} (P : Type 0) (r : Result T E) → OnOk r P → IfOk r (λ x. P)
ok_of_each P (Ok x) p = p
ok_of_each P (Err e) p = tt

-- either of what holds where it is answered that it is done, and where it is refused
pub either : {T E : Type 0} {P Q R : Type 0} (r : Result T E) → (P → R) → (Q → R) → OnOk r P → OnErr r Q → R
either (Ok x) ok err p q = ok p
either (Err e) ok err p q = err q

module _ (kept : List StoredReference) (old new : StoreView) (r : ℕ) (k : StoredReference) (requires : r < length (all_filled kept old.rows))
    (is : k ≡ slice_index_or kept r k) (all : AreFilled kept old) (others : new.rows ≡ slice_set old.rows r (row_at new r)) where
  found : slice_get kept r ≡ Some k
  found = kept_at kept old.rows r k requires is

  here : IsFilled k (row_at old r)
  here = all.each r k found

  -- a version of the reference is changed
  pub version_changed : (number stored : ℕ) (ver : Option ℕ) (change : Version → Version) → HasVersion k.kept.shown number
      → stored ≡ stored_number k number → version_place k.kept.shown ver ≡ version_place k.kept.shown (Some number)
      → Changes stored change (row_at old r) (row_at new r)
      → ((ways : List (By × Bool)) → AreSearchedBy ways (row_at old r) → AreSearchedBy ways (row_at new r))
      → (AreCounted (row_at old r) → AreCounted (row_at new r))
      → ((version : Version) → HasRisingNumbers number version → HasRisingNumbers number (change version))
      → Changed kept old new r (with_version ver change)
  version_changed number stored ver change has same place changes searched counted rising =
      let changed : Changes (stored_number k number) change (row_at old r) (row_at new r) =
      subst (λ n. Changes n change (row_at old r) (row_at new r)) same changes in record {
        is_filled = row_filled kept old new r k found (row_within kept old r requires all) all others
            (filled_after k number change (row_at old r) (row_at new r) here has changed
            (searched (use_ways k.kept.uses) here.searched) (counted here.counted)
            (rising (version_numbered (stored_number k number) (row_at old r)) (rising_here k (row_at old r) number here has)));
        shown = row_changed kept old new r k found (row_within kept old r requires all) all others (with_version ver change)
            (change_shown k ver number change (row_at old r) (row_at new r) here has place changed);
      }

  -- entries that pairs become are appended
  pub entries_appended : (number stored : ℕ) (pairs : List Pair) (entries : List Entry) (serial : ℕ) → HasVersion k.kept.shown number
      → stored ≡ stored_number k number → IsAdded (filled k (row_at old r)) number pairs entries serial
      → Changes stored (with_last_entries entries serial) (row_at old r) (row_at new r)
      → AreSearchedBy (use_ways k.kept.uses) (row_at new r) → AreCounted (row_at new r)
      → Changed kept old new r (with_pairs (Some number) pairs)
  entries_appended number stored pairs entries serial has same added changes searched counted =
      let changed : Changes (stored_number k number) (with_last_entries entries serial) (row_at old r) (row_at new r) =
      subst (λ n. Changes n (with_last_entries entries serial) (row_at old r) (row_at new r)) same changes in record {
        is_filled = row_filled kept old new r k found (row_within kept old r requires all) all others
            (filled_after k number (with_last_entries entries serial) (row_at old r) (row_at new r) here has changed searched counted
            (rising_with_added k number (row_at old r) pairs entries serial here has added));
        shown = row_changed kept old new r k found (row_within kept old r requires all) all others (with_pairs (Some number) pairs)
            (pairs_shown k number pairs entries serial (row_at old r) (row_at new r) here has changed added);
      }

-- ---- additions

module _ (kept : List StoredReference) (old : StoreView) (r : ℕ) (k : StoredReference) (requires : r < length (all_filled kept old.rows))
    (is : k ≡ slice_index_or kept r k) (all : AreFilled kept old) where
  at : slice_get kept r ≡ Some k
  at = kept_at kept old.rows r k requires is

  pub holds_here : IsFilled k (row_at old r)
  holds_here = all.each r k at

  -- the reference as it is seen
  pub seen_here : slice_get (all_filled kept old.rows) r ≡ Some (filled k (row_at old r))
  seen_here = filled_get kept old.rows r k at

  -- what holds of the entries of a version holds of them in the row
  pub few_in_row : (number stored count most : ℕ) → HasVersion k.kept.shown number → stored ≡ stored_number k number
      → length (version_entries (filled k (row_at old r)).shown (Some number)) + count < most
      → length (version_numbered stored (row_at old r)).entries + count < most
  few_in_row number stored count most has same few =
      subst (λ n. length (version_numbered n (row_at old r)).entries + count < most) (sym same)
      (rw (version_here k (row_at old r) number has) at few)

  -- where there are some, the row has no more entries than additions
  pub counted_in_row : (number stored : ℕ) (pairs : List Pair) (entries : List Entry) (serial count : ℕ) → HasVersion k.kept.shown number
      → stored ≡ stored_number k number → IsAdded (filled k (row_at old r)) number pairs entries serial → length entries ≡ count
      → length (version_numbered stored (row_at old r)).entries + count ≤ serial
  counted_in_row number stored pairs entries serial count has same added many =
      subst (λ n. length (version_numbered n (row_at old r)).entries + count ≤ serial) (sym same)
      (rw many at (few_added k number (row_at old r) pairs entries serial holds_here has added))

  -- where there are none, nothing is changed
  pub none_pairs : (number : ℕ) (pairs : List Pair) (entries : List Entry) (serial : ℕ) (seen : Kept) → HasVersion k.kept.shown number
      → entries ≡ [] → slice_get (all_filled kept old.rows) r ≡ Some seen → IsAdded seen number pairs entries serial
      → all_filled kept old.rows ≡ with_kept r (with_pairs (Some number) pairs) (all_filled kept old.rows)
  none_pairs number pairs entries serial seen has none there added =
      let same = seen_from kept old r k seen requires is there in
      let here : IsAdded (filled k (row_at old r)) number pairs [] serial =
      rw (same, none) at added in
      let within = row_within kept old r requires all in
      (entries_appended kept old old r k requires is all (same_rows kept old r k at within all) number (stored_number k number) pairs [] serial has refl here
      (none_appended k number pairs serial (row_at old r) has here) holds_here.searched holds_here.counted).shown

  -- a version that is asked for is that of its number
  pub same_version : (ver : Option ℕ) (number : ℕ) (seen : Kept) → version_place k.kept.shown ver ≡ version_place k.kept.shown (Some number)
      → slice_get (all_filled kept old.rows) r ≡ Some seen → version_of seen.shown ver ≡ version_of seen.shown (Some number)
  same_version ver number seen place there =
      subst (λ (x : Kept). version_of x.shown ver ≡ version_of x.shown (Some number))
      (sym (seen_from kept old r k seen requires is there))
      (ap (option_and_then (slice_get (filled k (row_at old r)).shown.versions)) place)

  pub has_version : (number : ℕ) (seen : Kept) → HasVersion k.kept.shown number
      → slice_get (all_filled kept old.rows) r ≡ Some seen → HasVersion seen.shown number
  has_version number seen has there =
      subst (λ (x : Kept). HasVersion x.shown number) (sym (seen_from kept old r k seen requires is there)) has

  -- a version that the reference hasn't
  pub no_version : (ver : Option ℕ) (seen : Kept) → version_place k.kept.shown ver ≡ None
      → slice_get (all_filled kept old.rows) r ≡ Some seen → version_of seen.shown ver ≡ None
  no_version ver seen none there =
      subst (λ (x : Kept). version_of x.shown ver ≡ None) (sym (seen_from kept old r k seen requires is there))
      (ap (option_and_then (slice_get (filled k (row_at old r)).shown.versions)) none)

  -- nothing is changed in a version that the reference hasn't
  pub none_changed : (ver : Option ℕ) (change : Version → Version) → version_place k.kept.shown ver ≡ None
      → all_filled kept old.rows ≡ with_kept r (with_version ver change) (all_filled kept old.rows)
  none_changed ver change none =
      rw (seen_here, none) (sym (set_itself (all_filled kept old.rows) r (filled k (row_at old r)) seen_here))

  -- the entries of a version, whether the reference has it or not
  pub entries_seen : (ver : Option ℕ) (stored : ℕ) (seen : Kept)
      → IfSome (version_place k.kept.shown ver) (λ place. stored ≡ k.stored_first + place)
      → (version_place k.kept.shown ver ≡ None → (stored < k.stored_first) ⊎ (stored_last k < stored))
      → slice_get (all_filled kept old.rows) r ≡ Some seen
      → (version_numbered stored (row_at old r)).entries ≡ version_entries seen.shown ver
  entries_seen ver stored seen some none there =
      sym (entries_numbered k (row_at old r) ver stored holds_here some none)
      ∙ ap (λ (x : Kept). version_entries x.shown ver) (sym (seen_from kept old r k seen requires is there))

  -- the version of a number, as it is seen
  pub seen_version : (number stored : ℕ) (seen : Kept) → HasVersion k.kept.shown number → stored ≡ stored_number k number
      → slice_get (all_filled kept old.rows) r ≡ Some seen
      → version_of seen.shown (Some number) ≡ Some (version_numbered stored (row_at old r))
  seen_version number stored seen has same there =
      ap (λ (x : Kept). version_of x.shown (Some number)) (seen_from kept old r k seen requires is there)
      ∙ version_here k (row_at old r) number has
      ∙ ap (λ n. Some (version_numbered n (row_at old r))) (sym same)

  -- additions to it are refused as the reference refuses them
  pub fault_seen : (limits : Limits) (number stored count serial : ℕ) (pairs : List Pair) (seen : Kept) → HasVersion k.kept.shown number
      → stored ≡ stored_number k number → count ≡ length (version_numbered stored (row_at old r)).entries
      → serial ≡ (version_numbered stored (row_at old r)).serial → slice_get (all_filled kept old.rows) r ≡ Some seen
      → version_fault (kept_demands seen limits) (version_of seen.shown (Some number)) pairs
      ≡ pairs_fault (kept_demands k.kept limits) count serial pairs
  fault_seen limits number stored count serial pairs seen has same entries last there =
      ap (λ v. version_fault (kept_demands seen limits) v pairs) (seen_version number stored seen has same there)
      ∙ ap (λ (x : Kept). pairs_fault (kept_demands x limits) (length (version_numbered stored (row_at old r)).entries)
      (version_numbered stored (row_at old r)).serial pairs) (seen_from kept old r k seen requires is there)
      ∙ ap (λ n. pairs_fault (kept_demands k.kept limits) n (version_numbered stored (row_at old r)).serial pairs) (sym entries)
      ∙ ap (λ n. pairs_fault (kept_demands k.kept limits) count n pairs) (sym last)

  pub asked_seen : (limits : Limits) (number stored count serial : ℕ) (pairs : List Pair) (seen : Kept) → HasVersion k.kept.shown number
      → stored ≡ stored_number k number → count ≡ length (version_numbered stored (row_at old r)).entries
      → serial ≡ (version_numbered stored (row_at old r)).serial → slice_get (all_filled kept old.rows) r ≡ Some seen
      → (text : ExpressionText) → PairsAskFor (kept_demands k.kept limits) count serial pairs text
      → VersionAsksFor (kept_demands seen limits) (version_of seen.shown (Some number)) pairs text
  asked_seen limits number stored count serial pairs seen has same entries last there text asked =
      subst (λ v. VersionAsksFor (kept_demands seen limits) v pairs text) (sym (seen_version number stored seen has same there))
      (subst (λ n. PairsAskFor (kept_demands seen limits) n (version_numbered stored (row_at old r)).serial pairs text) entries
      (subst (λ n. PairsAskFor (kept_demands seen limits) count n pairs text) last
      (subst (λ (x : Kept). PairsAskFor (kept_demands x limits) count serial pairs text) (sym (seen_from kept old r k seen requires is there)) asked)))

  -- entries that pairs become are those of the reference as it is seen
  pub added_seen : (number stored serial last : ℕ) (pairs : List Pair) (entries : List Entry) (seen : Kept) → HasVersion k.kept.shown number
      → stored ≡ stored_number k number → serial ≡ (version_numbered stored (row_at old r)).serial
      → slice_get (all_filled kept old.rows) r ≡ Some seen → entries ≡ new_entries number serial pairs
      → last ≡ serial + length pairs → IsAdded seen number pairs entries last
  added_seen number stored serial last pairs entries seen has same before there are after =
      rw (seen_version number stored seen has same there)
      (are ∙ ap (λ n. new_entries number n pairs) before, after ∙ ap (λ n. n + length pairs) before)

  -- there are few of them
  pub few_seen : (number stored count more most : ℕ) (seen : Kept) → HasVersion k.kept.shown number → stored ≡ stored_number k number
      → count ≡ length (version_numbered stored (row_at old r)).entries → slice_get (all_filled kept old.rows) r ≡ Some seen
      → count + more < most → length (version_entries seen.shown (Some number)) + more < most
  few_seen number stored count more most seen has same entries there few =
      rw (seen_version number stored seen has same there) (omega (arith, entries, few))

  -- the reference may be committed
  pub may_commit : (number : ℕ) (seen : Kept) → None ≡ commit_fault number k.kept.shown
      → slice_get (all_filled kept old.rows) r ≡ Some seen → HasVersion seen.shown number
  may_commit number seen none there = has_version number seen (committable k.kept.shown number none) there

  -- its fault is that of the reference at the position
  pub fault_here : (own : Reference → Option RefFault) → kept_fault (all_filled kept old.rows) r own ≡ own (filled k (row_at old r)).shown
  fault_here own = rw seen_here refl

-- the fault of the reference at a position
pub fault_of : (kept : List Kept) (r : ℕ) (k : Kept) (own : Reference → Option RefFault) → slice_get kept r ≡ Some k
    → kept_fault kept r own ≡ own k.shown
fault_of kept r k own is = rw is refl

-- pairs that are added to a version by its number
pub with_pairs_at : (kept : List Kept) (r : ℕ) (ver : Option ℕ) (number : ℕ) (pairs : List Pair) (k : Kept)
    → slice_get kept r ≡ Some k → version_place k.shown ver ≡ version_place k.shown (Some number)
    → unwrap_or ver k.shown.curr ≡ number
    → with_kept r (with_pairs (Some number) pairs) kept ≡ with_kept r (with_pairs ver pairs) kept
with_pairs_at kept r ver number pairs k found place given =
    rw (found, place, given) refl

-- ---- removals and changes of values

-- there is no version where it has no number
pub unknown_version : (number place : Option ℕ) → is_some number ≡ false → IfNone number (place ≡ None) → place ≡ None
unknown_version None place is none = none
unknown_version (Some n) place is none = absurd (cc)

-- and only there
pub place_known : (reference : Reference) (ver number : Option ℕ) → IfNone number (version_place reference ver ≡ None)
    → IfSome number (λ n. version_place reference ver ≡ version_place reference (Some n)) → IfSome number (HasVersion reference)
    → is_some number ≡ is_some (version_place reference ver)
place_known reference ver None none place has = rw none refl
place_known reference ver (Some n) none place has = rw (place, place_within reference n has) refl

-- there is one where it has a number
pub known_version : (reference : Reference) (ver number : Option ℕ) → is_some number ≡ true
    → IfSome number (λ n. version_place reference ver ≡ version_place reference (Some n)) → IfSome number (HasVersion reference)
    → is_some (version_place reference ver) ≡ true
known_version reference ver None is place has = absurd (cc)
known_version reference ver (Some n) is place has = rw (place, place_within reference n has) refl

pub unknown_deletion : (ver : Option ℕ) (test : Entry → Bool) (reference : Reference) → version_place reference ver ≡ None
    → deletion_fault ver test reference ≡ Some BadVersion
unknown_deletion ver test reference none = rw none refl

pub lacking_deletion : (ver : Option ℕ) (test : Entry → Bool) (reference : Reference) → is_some (version_place reference ver) ≡ true
    → list_any test (version_entries reference ver) ≡ false → deletion_fault ver test reference ≡ Some KeyNotFound
lacking_deletion ver test reference has none = rw (has, none) refl

pub chosen_deletion : (ver : Option ℕ) (test : Entry → Bool) (reference : Reference) → is_some (version_place reference ver) ≡ true
    → list_any test (version_entries reference ver) ≡ true → deletion_fault ver test reference ≡ None
chosen_deletion ver test reference has some = rw (has, some) refl

pub lacking_value : (ver : Option ℕ) (test : Entry → Bool) (value : List ℕ) (reference : Reference) (fault : RefFault)
    → deletion_fault ver test reference ≡ Some fault → value_fault ver test value reference ≡ Some fault
lacking_value ver test value reference fault is = rw is refl

pub refused_value : (ver : Option ℕ) (test : Entry → Bool) (value : List ℕ) (reference : Reference)
    → deletion_fault ver test reference ≡ None → refuses_value reference.outputs value ≡ true
    → value_fault ver test value reference ≡ Some BadValue
refused_value ver test value reference none refused = rw (none, refused) refl

pub fine_value : (ver : Option ℕ) (test : Entry → Bool) (value : List ℕ) (reference : Reference)
    → deletion_fault ver test reference ≡ None → refuses_value reference.outputs value ≡ false
    → value_fault ver test value reference ≡ None
fine_value ver test value reference none fine = rw (none, fine) refl

-- a change may fail by its own fault
pub may_own : (own : Option RefFault) (fault : RefFault) → Some fault ≡ own → MayFail own fault
may_own own NoMemory is = tt
may_own own fault is = sym is
