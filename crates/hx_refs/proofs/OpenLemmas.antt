-- Which versions a reference has, after changes of them, after a preparation and after a commit.
use Rattle.std.proofs.Common.{◌≡◌, ℕ, ◌+◌, ◌^◌, ◌<◌, ◌≤◌, Bool, true, false, [], ◌∷◌, length, refl, sym, ◌∙◌, arith, inl, inr}
use Rattle.std.specs.Prelude.{Option, None, Some, slice_get, slice_set, ◌&&◌, nat_le, nat_lt}
use Rattle.std.specs.Option.{option_map_or}
use Rattle.std.proofs.lemmas.Bool.{and_parts, both_ways, cases_lt, false_from_ne_true, le-leb, leb-true, lt-ltb, ltb-true}
use Rattle.std.proofs.lemmas.List.{length-append, length-drop, length-set}
use Rattle.hx_refs.specs.Changes.{commit_fault, fault_unless, preparation_fault, with_current_version, with_new_version, with_version}
use Rattle.hx_refs.specs.declared.fault.RefFault.{RefFault}
use Rattle.hx_refs.specs.declared.fault.RefFault.TheVariants.{BadVersion, NoMoreVersions}
use Rattle.hx_refs.specs.declared.limits.Limits.{Limits}
use Rattle.hx_refs.specs.Numbers.{HasShortNumbers, HasVersionsInOrder}
use Rattle.hx_refs.specs.References.{changed_at, empty_version, is_open, span, version_place, Reference, Version}
use Rattle.hx_refs.specs.VersionNumbers.{ahead, is_from_to, number_ahead}
use Rattle.hx_refs.specs.Versions.{HasVersion}
use Rattle.hx_refs.proofs.VersionNumberLemmas.{ahead_behind, ahead_fits, ahead_next, ahead_on, number_fits}

-- ---- numbers of versions

-- a number that is open is that of a version
pub opened : (reference : Reference) (number : ℕ) → is_open reference number ≡ true → HasVersion reference number
unfolding is_from_to
opened reference number is =
    let parts = and_parts (nat_lt number (2 ^ 32)) (nat_le (ahead reference.curr number) (span reference)) is in
    (ltb-true number (2 ^ 32) parts.0, leb-true (ahead reference.curr number) (span reference) parts.1)

-- and that of a version is open
pub is_opened : (reference : Reference) (number : ℕ) → HasVersion reference number → is_open reference number ≡ true
unfolding is_from_to
is_opened reference number has =
    rw (lt-ltb number (2 ^ 32) has.0, le-leb (ahead reference.curr number) (span reference) has.1) refl

-- what is open in one reference only where it is in another
closed_like : (old new : Reference) (number : ℕ) → (HasVersion new number → HasVersion old number)
    → is_open old number ≡ false → is_open new number ≡ false
closed_like old new number back closed =
    false_from_ne_true (is_open new number) (λ is.
    both_ways (is_open old number) closed (is_opened old number (back (opened new number is))))

-- ---- faults

no_fault : (fine : Bool) (fault : RefFault) → fault_unless fine fault ≡ None → fine ≡ true
no_fault true fault none = refl
no_fault false fault none = absurd (cc)

-- the version of a commit that isn't refused is open
pub committed_open : (number : ℕ) (old : Reference) → commit_fault number old ≡ None → is_open old number ≡ true
committed_open number old none =
    (and_parts (is_open old number) (nat_lt 0 (ahead old.curr number)) (no_fault (is_open old number && nat_lt 0 (ahead old.curr number)) BadVersion none)).0

-- there is a number for one version more
pub prepared_room : (limits : Limits) (old : Reference) → limits.versions < 2 ^ 32 → preparation_fault limits old ≡ None
    → span old + 1 < 2 ^ 32
prepared_room limits old few none =
    let room = ltb-true (span old) limits.versions (no_fault (nat_lt (span old) limits.versions) NoMoreVersions none) in
    omega (arith, room, few)

-- ---- after a change of a version

pub order_changed : (number : Option ℕ) (change : Version → Version) (old : Reference) → HasVersionsInOrder old
    → HasVersionsInOrder (with_version number change old)
order_changed number change old order = go (version_place old number)
  where
    length_stays : (place : ℕ) (found : Option Version)
        → length (option_map_or (λ x. slice_set old.versions place (change x)) found old.versions) ≡ length old.versions
    length_stays place None = refl
    length_stays place (Some x) = length-set old.versions place (change x)

    go : (place : Option ℕ)
        → HasVersionsInOrder (option_map_or (λ at_place. record old { versions = changed_at at_place change old.versions }) place old)
    go None = order
    go (Some place) = record {
      short = order.short;
      count = length_stays place (slice_get old.versions place) ∙ order.count;
    }

-- ---- after a preparation

module _ (old : Reference) (short : HasShortNumbers old) (room : span old + 1 < 2 ^ 32) where
  -- how far the new version is ahead
  next_ahead : span (with_new_version old) ≡ span old + 1
  next_ahead = ahead_next old.curr old.next short.0 short.1 room

  -- its number is that of no version so far
  pub unused_prepared : is_open old (number_ahead old.next 1) ≡ false
  unused_prepared =
      false_from_ne_true (is_open old (number_ahead old.next 1)) (λ is.
      let has = opened old (number_ahead old.next 1) is in
      omega (arith, has.1, next_ahead))

  pub new_open : is_open (with_new_version old) (number_ahead old.next 1) ≡ true
  new_open =
      is_opened (with_new_version old) (number_ahead old.next 1)
      (number_fits old.next 1 short.1 (omega arith), omega arith)

  -- and its place is the last
  pub new_place : HasVersionsInOrder old → ahead old.curr (number_ahead old.next 1) ≡ length old.versions
  new_place order = omega (arith, next_ahead, order.count)

  pub open_prepared : (number : ℕ) → is_open old number ≡ true → is_open (with_new_version old) number ≡ true
  open_prepared number is =
      let has = opened old number is in
      is_opened (with_new_version old) number (has.0, omega (arith, has.1, next_ahead))

  -- a number that wasn't open is that of the new version
  pub last_prepared : (number : ℕ) → is_open old number ≡ false → is_open (with_new_version old) number ≡ true
      → ahead old.curr number ≡ span old + 1
  last_prepared number closed is =
      let has = opened (with_new_version old) number is in
      elim (cases_lt (span old) (ahead old.curr number)) [
        | inl past ↦ omega (arith, past, has.1, next_ahead)
        | inr within ↦ absurd (both_ways (is_open old number) closed (is_opened old number (has.0, within)))
      ]

  pub order_prepared : HasVersionsInOrder old → HasVersionsInOrder (with_new_version old)
  order_prepared order = record {
    short = (short.0, number_fits old.next 1 short.1 (omega arith));
    count = omega (arith, length-append old.versions (empty_version ∷ []), order.count, next_ahead);
  }

-- ---- after a commit

module _ (old : Reference) (number : ℕ) (short : HasShortNumbers old) (has : HasVersion old number) where
  rest_ahead : ahead old.curr number + span (with_current_version number old) ≡ span old
  rest_ahead = ahead_on old.curr number old.next short.0 has.0 short.1 has.1

  -- a version that isn't behind stays
  pub open_committed : (other : ℕ) → is_open old other ≡ true → ahead old.curr number ≤ ahead old.curr other
      → (is_open (with_current_version number old) other ≡ true) × (ahead old.curr other ≡ ahead old.curr number + ahead number other)
  open_committed other is le =
      let there = opened old other is in
      let place = ahead_on old.curr number other short.0 has.0 there.0 le in (
        is_opened (with_current_version number old) other (there.0, omega (arith, place, rest_ahead, there.1)),
        sym place,
      )

  -- one that is behind is dropped
  pub closed_committed : (other : ℕ) → is_open old other ≡ true → ahead old.curr other < ahead old.curr number
      → is_open (with_current_version number old) other ≡ false
  closed_committed other is lt =
      let there = opened old other is in
      let place = ahead_behind old.curr number other short.0 has.0 there.0 lt in
      let fits = ahead_fits old.curr old.next short.0 short.1 in
      false_from_ne_true (is_open (with_current_version number old) other) (λ after.
      let left = opened (with_current_version number old) other after in
      omega (arith, place, fits, rest_ahead, left.1))

  -- no other is there
  pub none_committed : (other : ℕ) → is_open old other ≡ false → is_open (with_current_version number old) other ≡ false
  none_committed other closed =
      closed_like old (with_current_version number old) other back closed
    where
      back : HasVersion (with_current_version number old) other → HasVersion old other
      back left = elim (cases_lt (ahead old.curr other) (ahead old.curr number)) [
        | inl lt ↦ (left.0, omega (arith, lt, has.1))
        | inr le ↦ (left.0, omega (arith, ahead_on old.curr number other short.0 has.0 left.0 le, rest_ahead, left.1))
      ]

  pub order_committed : HasVersionsInOrder old → HasVersionsInOrder (with_current_version number old)
  order_committed order = record {
    short = (has.0, short.1);
    count = omega (arith, length-drop (ahead old.curr number) old.versions, order.count, rest_ahead);
  }
