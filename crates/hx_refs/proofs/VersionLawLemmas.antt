-- What is searched after changes of versions that aren't, and after a commit.
use Rattle.std.proofs.Common.{◌≡◌, ◌≢◌, ℕ, zero, suc, ◌+◌, ◌^◌, ◌<◌, Bool, false, List, [], ◌∷◌, ◌++◌, length, map, drop, refl, ap, sym, ◌∙◌, arith, inl, inr}
use Rattle.std.specs.Prelude.{Option, None, Some, is_some, IfSome, slice_get, slice_set}
use Rattle.std.specs.Option.{option_map_or}
use Rattle.std.proofs.lemmas.Bool.{cases_Bool}
use Rattle.std.proofs.lemmas.Option.{slice_get_cases}
use Rattle.hx_sample.specs.Changes.{with_value, without_chosen}
use Rattle.hx_sample.specs.Find.{Entry}
use Rattle.hx_refs.specs.Additions.{after_addition, Pair}
use Rattle.hx_refs.specs.Changes.{after_change_of_value, after_clearing, after_commit, after_deletion, after_preparation, commit_fault, fault_at, preparation_fault, prepared_version, with_current_version, with_new_version, with_version}
use Rattle.hx_refs.specs.Numbers.{HasRoom, HasVersionsInOrder, IsAnotherVersion, IsNotBehind, IsNotSearched}
use Rattle.hx_refs.specs.declared.limits.Limits.{Limits}
use Rattle.hx_refs.specs.References.{changed_at, empty_version, entries_in, has_version, is_open, searched_lists, version_entries, version_place, with_reference, Reference, References, Version}
use Rattle.hx_refs.specs.VersionNumbers.{ahead, number_ahead}
use Rattle.hx_versions.specs.Rows.{changed_entries}
use Rattle.hx_refs.specs.Versions.{with_new_entries}
use Rattle.hx_refs.proofs.ListLemmas.{get_last, get_set_other, get_set_same}
use Rattle.hx_refs.proofs.OpenLemmas.{committed_open, new_open, new_place, none_committed, open_committed, opened, prepared_room, unused_prepared}
use Rattle.hx_refs.proofs.TableLemmas.{list_at, lists_with, set_same}
use Rattle.hx_refs.proofs.VersionNumberLemmas.{ahead_apart}

-- ---- a reference

get_dropped : {A : Type 0} → (n k : ℕ) (xs : List A) → slice_get (drop n xs) k ≡ slice_get xs (n + k)
get_dropped zero k xs = let same : 0 + k ≡ k = omega arith in rw same refl
get_dropped (suc n) k [] = refl
get_dropped (suc n) k (x ∷ xs) =
    let same : suc n + k ≡ suc (n + k) = omega arith in rw same (get_dropped n k xs)

first_left : {A : Type 0} → (n : ℕ) (xs : List A) → slice_get (drop n xs) 0 ≡ slice_get xs n
first_left zero xs = refl
first_left (suc n) [] = refl
first_left (suc n) (x ∷ xs) = first_left n xs

get_changed_other : {A : Type 0} → (xs : List A) (r q : ℕ) (change : A → A) → r ≢ q
    → slice_get (changed_at r change xs) q ≡ slice_get xs q
get_changed_other {A} xs r q change other = go (slice_get xs r)
  where
    go : (found : Option A) → slice_get (option_map_or (λ x. slice_set xs r (change x)) found xs) q ≡ slice_get xs q
    go None = refl
    go (Some x) = get_set_other xs r q (change x) other

-- a change of a version that isn't searched
searched_apart : (limits : Limits) (number : ℕ) (change : Version → Version) (old : Reference) → IsAnotherVersion limits number old
    → version_entries (with_version (Some number) change old) None ≡ version_entries old None
searched_apart limits number change old apart = elim (cases_Bool (is_open old number)) [
  | inl found ↦
      let has = opened old number found in
      rw (found, get_changed_other old.versions (ahead old.curr number) 0 change (λ none. apart.other (ahead_apart old.curr number apart.order.short.0 has.0 none)))
      refl
  | inr closed ↦ rw closed refl
]

-- one version more
searched_prepared : (old : Reference) → version_entries (with_new_version old) None ≡ version_entries old None
searched_prepared old = go old.versions
  where
    go : (versions : List Version)
        → option_map_or (λ (version : Version). version.entries) (slice_get (versions ++ empty_version ∷ []) 0) []
        ≡ option_map_or (λ (version : Version). version.entries) (slice_get versions 0) []
    go [] = refl
    go (version ∷ versions) = refl

-- a commit that isn't refused
searched_committed : (number : ℕ) (old : Reference) → commit_fault number old ≡ None
    → version_entries (with_current_version number old) None ≡ version_entries old (Some number)
searched_committed number old none =
    rw (committed_open number old none, first_left (ahead old.curr number) old.versions) refl

-- it keeps what is ahead of it
later_stays : (number later : ℕ) (old : Reference) → commit_fault number old ≡ None → IsNotBehind number later old
    → version_entries (with_current_version number old) (Some later) ≡ version_entries old (Some later)
later_stays number later old none ahead_of =
    let has = opened old number (committed_open number old none) in
    elim (cases_Bool (is_open old later)) [
      | inl found ↦
          let stays = open_committed old number ahead_of.0 has later found ahead_of.1 in
          rw (stays.0, found, get_dropped (ahead old.curr number) (ahead number later) old.versions, stays.1) refl
      | inr closed ↦ rw (none_committed old number ahead_of.0 has later closed, closed) refl
    ]

-- ---- the references

-- a change of a reference that leaves what is searched of it
lists_stay : (refs : References) (r : ℕ) (change : Reference → Reference)
    → IfSome (slice_get refs.references r) (λ old. version_entries (change old) None ≡ version_entries old None)
    → searched_lists (with_reference r change refs) ≡ searched_lists refs
lists_stay refs r change same = elim (slice_get_cases refs.references r).1 [
  | inl w ↦
      let stays : version_entries (change w.0) None ≡ version_entries w.0 None = rw w.2 at same in
      lists_with refs r w.0 change w.2
      ∙ rw stays (set_same (searched_lists refs) r (version_entries w.0 None) (list_at refs r w.0 w.2))
  | inr past ↦ rw past.1 refl
]

if_some : {A : Type 0} {P Q : A → Type 0} (found : Option A) → ((x : A) → P x → Q x) → IfSome found P → IfSome found Q
if_some None f p = tt
if_some (Some x) f p = f x p

always : {A : Type 0} {Q : A → Type 0} (found : Option A) → ((x : A) → Q x) → IfSome found Q
always None f = tt
always (Some x) f = f x

pub lists_after_addition : (refs : References) (r number : ℕ) (pairs : List Pair) → IsNotSearched refs r number
    → searched_lists (after_addition refs r (Some number) pairs) ≡ searched_lists refs
lists_after_addition refs r number pairs apart =
    lists_stay refs r (with_version (Some number) (with_new_entries number pairs))
    (if_some (slice_get refs.references r) (searched_apart refs.limits number (with_new_entries number pairs)) apart)

pub lists_after_clearing : (refs : References) (r number : ℕ) → IsNotSearched refs r number
    → searched_lists (after_clearing refs r (Some number)) ≡ searched_lists refs
lists_after_clearing refs r number apart =
    lists_stay refs r (with_version (Some number) (changed_entries (λ _. [])))
    (if_some (slice_get refs.references r) (searched_apart refs.limits number (changed_entries (λ _. []))) apart)

pub lists_after_deletion : (refs : References) (r number : ℕ) (test : Entry → Bool) → IsNotSearched refs r number
    → searched_lists (after_deletion refs r (Some number) test) ≡ searched_lists refs
lists_after_deletion refs r number test apart =
    lists_stay refs r (with_version (Some number) (changed_entries (without_chosen test)))
    (if_some (slice_get refs.references r) (searched_apart refs.limits number (changed_entries (without_chosen test))) apart)

pub lists_after_change_of_value : (refs : References) (r number : ℕ) (test : Entry → Bool) (value : List ℕ) → IsNotSearched refs r number
    → searched_lists (after_change_of_value refs r (Some number) test value) ≡ searched_lists refs
lists_after_change_of_value refs r number test value apart =
    lists_stay refs r (with_version (Some number) (changed_entries (map (with_value test value))))
    (if_some (slice_get refs.references r) (searched_apart refs.limits number (changed_entries (map (with_value test value)))) apart)

pub lists_after_preparation : (refs : References) (r : ℕ) → searched_lists (after_preparation refs r) ≡ searched_lists refs
lists_after_preparation refs r =
    lists_stay refs r with_new_version (always (slice_get refs.references r) searched_prepared)

pub list_after_commit : (refs : References) (r number : ℕ) → r < length refs.references
    → fault_at refs r (commit_fault number) ≡ None
    → slice_get (searched_lists (after_commit refs r number)) r ≡ Some (entries_in refs r (Some number))
list_after_commit refs r number within none = elim (slice_get_cases refs.references r).1 [
  | inl w ↦
      let fine : commit_fault number w.0 ≡ None = rw w.2 at none in
      rw (lists_with refs r w.0 (with_current_version number) w.2, get_set_same (searched_lists refs) r (version_entries w.0 None) (version_entries (with_current_version number w.0) None) (list_at refs r w.0 w.2), w.2)
      (ap Some (searched_committed number w.0 fine))
  | inr past ↦ absurd (omega (arith, past.0, within))
]

pub lists_after_commit : (refs : References) (r number other : ℕ) → other ≢ r
    → slice_get (searched_lists (after_commit refs r number)) other ≡ slice_get (searched_lists refs) other
lists_after_commit refs r number other apart = elim (slice_get_cases refs.references r).1 [
  | inl w ↦
      rw (lists_with refs r w.0 (with_current_version number) w.2)
      (get_set_other (searched_lists refs) r other (version_entries (with_current_version number w.0) None) (λ e. apart (sym e)))
  | inr past ↦ rw past.1 refl
]

pub later_after_commit : (refs : References) (r number later : ℕ) → fault_at refs r (commit_fault number) ≡ None
    → IfSome (slice_get refs.references r) (IsNotBehind number later)
    → entries_in (after_commit refs r number) r (Some later) ≡ entries_in refs r (Some later)
later_after_commit refs r number later none ahead_of = elim (slice_get_cases refs.references r).1 [
  | inl w ↦
      let fine : commit_fault number w.0 ≡ None = rw w.2 at none in
      let far : IsNotBehind number later w.0 = rw w.2 at ahead_of in
      rw (w.2, get_set_same refs.references r w.0 (with_current_version number w.0) w.2)
      (later_stays number later w.0 fine far)
  | inr past ↦ rw (past.1, past.1) refl
]

-- ---- a number of its own

unused_here : (limits : Limits) (old : Reference) → limits.versions < 2 ^ 32 → HasVersionsInOrder old → preparation_fault limits old ≡ None
    → is_some (version_place old (Some (number_ahead old.next 1))) ≡ false
unused_here limits old few order none =
    rw (unused_prepared old order.short (prepared_room limits old few none)) refl

empty_here : (limits : Limits) (old : Reference) → limits.versions < 2 ^ 32 → HasVersionsInOrder old → preparation_fault limits old ≡ None
    → version_entries (with_new_version old) (Some (number_ahead old.next 1)) ≡ []
empty_here limits old few order none =
    let room = prepared_room limits old few none in
    rw (new_open old order.short room, new_place old order.short room order, get_last old.versions empty_version) refl

pub unused_number : (refs : References) (r : ℕ) → HasRoom refs r → fault_at refs r (preparation_fault refs.limits) ≡ None
    → has_version refs r (Some (prepared_version refs r)) ≡ false
unused_number refs r room none = go (slice_get refs.references r) room.1 none
  where
    go : (found : Option Reference) → IfSome found HasVersionsInOrder → option_map_or (preparation_fault refs.limits) found None ≡ None
        → option_map_or
        (λ reference. is_some (version_place reference (Some (option_map_or (λ old. number_ahead old.next 1) found 0)))) found false
        ≡ false
    go None order none = refl
    go (Some x) order none = unused_here refs.limits x room.0 order none

pub no_entries : (refs : References) (r : ℕ) → HasRoom refs r → fault_at refs r (preparation_fault refs.limits) ≡ None
    → entries_in (after_preparation refs r) r (Some (prepared_version refs r)) ≡ []
no_entries refs r room none = elim (slice_get_cases refs.references r).1 [
  | inl w ↦
      let order : HasVersionsInOrder w.0 = rw w.2 at room.1 in
      let fine : preparation_fault refs.limits w.0 ≡ None = rw w.2 at none in
      rw (w.2, get_set_same refs.references r w.0 (with_new_version w.0) w.2) (empty_here refs.limits w.0 room.0 order fine)
  | inr past ↦ rw (past.1, past.1) refl
]
