-- A version that isn't searched as if nothing was added to it: what else is read of references, and
-- what changes of them make, stays.
use Rattle.std.proofs.Common.{◌≡◌, ◌≢◌, ℕ, ◌+◌, ◌<◌, ◌≤◌, ◌==◌, Bool, true, false, List, [], ◌∷◌, ◌++◌, length, drop, refl, ap, sym, ◌∙◌, arith, inl, inr, length-set}
use Rattle.std.specs.Prelude.{Option, None, Some, IfSome, option_map, slice_get, slice_set, Ok, if◌then◌else◌}
use Rattle.std.specs.List.{position_or_len}
use Rattle.std.specs.Option.{option_map_or}
use Rattle.std.specs.Str.{bytes_eq}
use Rattle.std.proofs.lemmas.Bool.{cases_Bool, cases_eq, cases_lt, eqb-false, false≢true}
use Rattle.std.proofs.lemmas.Option.{slice_get_past}
use Rattle.hx_base.specs.Bytes.{is_given}
use Rattle.hx_refs.specs.Changes.{answer, commit_fault, preparation_fault, with_current_version, with_new_version, with_version}
use Rattle.hx_refs.specs.declared.limits.Limits.{Limits}
use Rattle.hx_refs.specs.Naming.{is_named, named_number, resolution, side_fault}
use Rattle.hx_refs.specs.Numbers.{number_at, IsAnotherVersion, IsNotSearched}
use Rattle.hx_refs.specs.References.{changed_at, empty_version, is_open, searched_lists, version_entries, version_of, version_place, with_reference, Reference, References, Version}
use Rattle.hx_refs.specs.VersionNumbers.{ahead, number_ahead}
use Rattle.hx_refs.specs.Versions.{HasVersion}
use Rattle.hx_refs.specs.declared.fault.RefFault.{RefFault}
use Rattle.hx_refs.specs.declared.fault.RefFault.TheVariants.{UnknownRef}
use Rattle.hx_refs.specs.declared.side.Side.{Side}
use Rattle.hx_refs.specs.declared.side.Side.TheVariants.{Acl, AclWrite, Map}
use Rattle.hx_refs.proofs.OpenLemmas.{closed_committed, committed_open, last_prepared, none_committed, open_committed, open_prepared, opened, order_changed, order_committed, order_prepared, prepared_room}
use Rattle.hx_refs.proofs.VersionNumberLemmas.{ahead_apart, number_back}
use Rattle.hx_cli.specs.Unseen.{names_reference, with_empty_version, without_additions}
use Rattle.hx_cli.proofs.PositionLemmas.{change_covered, changes_apart, changes_here, dropped_before, dropped_over, first_stays, item_apart, item_here, map_stays, more_left, none_changed}

-- ---- lists of versions

-- the versions, as if nothing was added to the one at a place, where there is such a version
abbrev cleared : Bool → ℕ → List Version → List Version
cleared there place versions = if there then changed_at place (λ _. empty_version) versions else versions

version_stays : (there : Bool) (p place : ℕ) (versions : List Version) → (there ≡ true → p ≢ place)
    → slice_get (cleared there p versions) place ≡ slice_get versions place
version_stays true p place versions apart = item_apart p place (λ _. empty_version) versions (apart refl)
version_stays false p place versions apart = refl

change_stays : (there : Bool) (p place : ℕ) (change : Version → Version) (versions : List Version) → (there ≡ true → p ≢ place)
    → changed_at place change (cleared there p versions) ≡ cleared there p (changed_at place change versions)
change_stays true p place change versions apart =
    changes_apart place p change (λ _. empty_version) versions (λ same. apart refl (sym same))
change_stays false p place change versions apart = refl

pub always : {A : Type 0} {P : A → Type 0} (found : Option A) → ((x : A) → P x) → IfSome found P
always None f = tt
always (Some x) f = f x

change_lost : (p : ℕ) (change : Version → Version) (versions : List Version)
    → cleared true p (changed_at p change versions) ≡ cleared true p versions
change_lost p change versions =
    change_covered p (λ _. empty_version) change (λ _. empty_version) versions
    (always (slice_get versions p) (λ x. refl))

-- one version more, which is the one at the place where there was none
new_stays : (there now : Bool) (p : ℕ) (versions : List Version) → (there ≡ true → now ≡ true)
    → (there ≡ false → now ≡ true → p ≡ length versions)
    → cleared there p versions ++ empty_version ∷ [] ≡ cleared now p (versions ++ empty_version ∷ [])
new_stays true true p versions goes last = sym (more_left p (λ _. empty_version) empty_version versions refl)
new_stays true false p versions goes last = absurd (false≢true (goes refl))
new_stays false true p versions goes last =
    let past : length versions ≤ p = omega (arith, last refl refl) in
    sym (more_left p (λ _. empty_version) empty_version versions refl
    ∙ ap (λ xs. xs ++ empty_version ∷ []) (none_changed p (λ _. empty_version) versions (slice_get_past versions p past)))
new_stays false false p versions goes last = refl

-- the first versions are dropped
drop_stays : (there now : Bool) (n p q : ℕ) (versions : List Version) → (there ≡ true → n ≤ p → (now ≡ true) × (p ≡ n + q))
    → (there ≡ true → p < n → now ≡ false) → (there ≡ false → now ≡ false)
    → drop n (cleared there p versions) ≡ cleared now q (drop n versions)
drop_stays true now n p q versions kept lost none = elim (cases_lt p n) [
  | inl below ↦ rw (lost refl below) (dropped_over n p (λ _. empty_version) versions below)
  | inr above ↦
      let stays = kept refl above in
      rw stays.0 (dropped_before n q p (λ _. empty_version) versions stays.1)
]
drop_stays false now n p q versions kept lost none = rw (none refl) refl

-- ---- a reference

abbrev with_versions : Reference → List Version → Reference
with_versions old versions = record old { versions = versions }

-- the place of the version isn't that of another
place_apart : (limits : Limits) (v n : ℕ) (old : Reference) → IsAnotherVersion limits v old → HasVersion old n → (v == n) ≡ false
    → is_open old v ≡ true → ahead old.curr v ≢ ahead old.curr n
place_apart limits v n old apart has other there same =
    let curr = old.curr in
    let short = apart.order.short in
    let v_is = number_back curr v short.0 (opened old v there).0 in
    let n_is = number_back curr n short.0 has.0 in
    eqb-false v n other (sym v_is ∙ ap (number_ahead curr) same ∙ n_is)

-- nor the first
first_apart : (limits : Limits) (v : ℕ) (old : Reference) → IsAnotherVersion limits v old
    → is_open old v ≡ true → ahead old.curr v ≢ 0
first_apart limits v old apart there none =
    apart.other (ahead_apart old.curr v apart.order.short.0 (opened old v there).0 none)

pub version_is : (limits : Limits) (number : Option ℕ) (v : ℕ) (old : Reference) → is_given number v ≡ false → IsAnotherVersion limits v old
    → version_of (without_additions v old) number ≡ version_of old number
version_is limits None v old other apart =
    version_stays (is_open old v) (ahead old.curr v) 0 old.versions (first_apart limits v old apart)
version_is limits (Some n) v old other apart = elim (cases_Bool (is_open old n)) [
  | inl found ↦
      rw found
      (version_stays (is_open old v) (ahead old.curr v) (ahead old.curr n) old.versions
      (place_apart limits v n old apart (opened old n found) other))
  | inr none ↦ rw none refl
]

pub entries_are : (limits : Limits) (number : Option ℕ) (v : ℕ) (old : Reference) → is_given number v ≡ false → IsAnotherVersion limits v old
    → version_entries (without_additions v old) number ≡ version_entries old number
entries_are limits number v old other apart =
    ap (λ (found : Option Version). option_map_or (λ version. version.entries) found []) (version_is limits number v old other apart)

-- the versions stay in order
emptied_length : (there : Bool) (p : ℕ) (versions : List Version) → length (cleared there p versions) ≡ length versions
emptied_length true p versions = go (slice_get versions p)
  where
    go : (found : Option Version)
        → length (option_map_or (λ (x : Version). slice_set versions p empty_version) found versions) ≡ length versions
    go None = refl
    go (Some x) = length-set versions p empty_version
emptied_length false p versions = refl

pub another_emptied : (limits : Limits) (v : ℕ) (old : Reference) → IsAnotherVersion limits v old
    → IsAnotherVersion limits v (without_additions v old)
another_emptied limits v old apart = record {
  other = apart.other;
  order = record {
    short = apart.order.short;
    count = emptied_length (is_open old v) (ahead old.curr v) old.versions ∙ apart.order.count;
  };
  few = apart.few;
}

pub another_filled : (limits : Limits) (v : ℕ) (old : Reference) → IsAnotherVersion limits v (without_additions v old)
    → IsAnotherVersion limits v old
another_filled limits v old apart = record {
  other = apart.other;
  order = record {
    short = apart.order.short;
    count = sym (emptied_length (is_open old v) (ahead old.curr v) old.versions) ∙ apart.order.count;
  };
  few = apart.few;
}

-- what stays of the reference under a change, and that the change makes the same of it as if nothing
-- was added to the version
pub record GoesAlong (limits : Limits) (v : ℕ) (change : Reference → Reference) (old : Reference) : Type 0 where
  pub apart : IsAnotherVersion limits v (change old)
  pub same : change (without_additions v old) ≡ without_additions v (change old)

pub curr_stays : (number : Option ℕ) (change : Version → Version) (old : Reference) → (with_version number change old).curr ≡ old.curr
curr_stays number change old = go (version_place old number)
  where
    go : (place : Option ℕ)
        → (option_map_or (λ at. record old { versions = changed_at at change old.versions }) place old).curr ≡ old.curr
    go None = refl
    go (Some at) = refl

-- and what is searched
pub another_changed : (limits : Limits) (number : Option ℕ) (change : Version → Version) (v : ℕ) (old : Reference)
    → IsAnotherVersion limits v old → IsAnotherVersion limits v (with_version number change old)
another_changed limits number change v old apart = record {
  other = λ same. apart.other (same ∙ curr_stays number change old);
  order = order_changed number change old apart.order;
  few = apart.few;
}

pub change_along : (limits : Limits) (number : Option ℕ) (change : Version → Version) (v : ℕ) (old : Reference)
    → is_given number v ≡ false → IsAnotherVersion limits v old → GoesAlong limits v (with_version number change) old
change_along limits None change v old other apart = record {
  apart = another_changed limits None change v old apart;
  same =
      ap (with_versions old)
      (change_stays (is_open old v) (ahead old.curr v) 0 change old.versions (first_apart limits v old apart));
}
change_along limits (Some n) change v old other apart = record {
  apart = another_changed limits (Some n) change v old apart;
  same = elim (cases_Bool (is_open old n)) [
    | inl found ↦
        rw found
        (ap (with_versions old)
        (change_stays (is_open old v) (ahead old.curr v) (ahead old.curr n) change old.versions
        (place_apart limits v n old apart (opened old n found) other)))
    | inr none ↦ rw none refl
  ];
}

pub new_along : (limits : Limits) (v : ℕ) (old : Reference) → IsAnotherVersion limits v old → preparation_fault limits old ≡ None
    → GoesAlong limits v with_new_version old
new_along limits v old apart none =
    let short = apart.order.short in
    let room = prepared_room limits old apart.few none in record {
      apart = record {
        other = apart.other;
        order = order_prepared old short room apart.order;
        few = apart.few;
      };
      same =
          ap (λ (versions : List Version). record old { next = number_ahead old.next 1; versions = versions })
          (new_stays (is_open old v) (is_open (with_new_version old) v) (ahead old.curr v) old.versions
          (open_prepared old short room v)
          (λ closed there. last_prepared old short room v closed there ∙ sym apart.order.count));
    }

pub commit_along : (limits : Limits) (n v : ℕ) (old : Reference) → n ≢ v → IsAnotherVersion limits v old → commit_fault n old ≡ None
    → GoesAlong limits v (with_current_version n) old
commit_along limits n v old other apart none =
    let short = apart.order.short in
    let has = opened old n (committed_open n old none) in record {
      apart = record {
        other = λ same. other (sym same);
        order = order_committed old n short has apart.order;
        few = apart.few;
      };
      same =
          ap (λ (versions : List Version). record old { curr = n; versions = versions })
          (drop_stays (is_open old v) (is_open (with_current_version n old) v) (ahead old.curr n) (ahead old.curr v) (ahead n v) old.versions
          (open_committed old n short has v) (closed_committed old n short has v) (none_committed old n short has v));
    }

-- a change of the version itself shows nowhere else
pub change_hidden : (change : Version → Version) (v : ℕ) (old : Reference)
    → without_additions v (with_version (Some v) change old) ≡ without_additions v old
change_hidden change v old = elim (cases_Bool (is_open old v)) [
  | inl found ↦
      rw (found, found) (ap (with_versions old) (change_lost (ahead old.curr v) change old.versions))
  | inr none ↦ rw (none, none) refl
]

-- the number and the file stay
pub record KeepsNames (change : Reference → Reference) : Type 0 where
  pub number : (old : Reference) → (change old).id ≡ old.id
  pub file : (old : Reference) → (change old).file ≡ old.file

pub version_keeps_names : (number : Option ℕ) (change : Version → Version) → KeepsNames (with_version number change)
version_keeps_names number change = record {
  number = λ old. ids old (version_place old number);
  file = λ old. files old (version_place old number);
}
  where
    ids : (old : Reference) (place : Option ℕ)
        → (option_map_or (λ at. record old { versions = changed_at at change old.versions }) place old).id ≡ old.id
    ids old None = refl
    ids old (Some at) = refl

    files : (old : Reference) (place : Option ℕ)
        → (option_map_or (λ at. record old { versions = changed_at at change old.versions }) place old).file ≡ old.file
    files old None = refl
    files old (Some at) = refl

pub new_keeps_names : KeepsNames with_new_version
new_keeps_names = record { number = λ old. refl; file = λ old. refl }

pub commit_keeps_names : (n : ℕ) → KeepsNames (with_current_version n)
commit_keeps_names n = record { number = λ old. refl; file = λ old. refl }

-- ---- the references

named_alike : (number : Option ℕ) (word : List ℕ) (x y : Reference) → x.id ≡ y.id → x.file ≡ y.file
    → is_named number word x ≡ is_named number word y
named_alike None word x y id file = ap (λ (f : Option (List ℕ)). option_map_or (λ name. bytes_eq name word) f false) file
named_alike (Some n) word x y id file = ap (λ (m : ℕ). m == n) id

abbrev pub place_named : References → List ℕ → ℕ
place_named refs word = position_or_len (is_named (named_number word) word) refs.references

place_stays : (refs : References) (r : ℕ) (change : Reference → Reference) (word : List ℕ) → KeepsNames change
    → place_named (with_reference r change refs) word ≡ place_named refs word
place_stays refs r change word keeps =
    first_stays (is_named (named_number word) word) r change refs.references
    (always (slice_get refs.references r)
    (λ x. named_alike (named_number word) word (change x) x (keeps.number x) (keeps.file x)))

-- what holds of the references after a change, where it held before
pub record Follows (r v : ℕ) (old new : References) : Type 0 where
  pub apart : IsNotSearched new r v
  pub names : (word : List ℕ) → names_reference new r word ≡ names_reference old r word
  pub number : number_at new.references r ≡ number_at old.references r

pub if_some : {A : Type 0} {P Q : A → Type 0} (found : Option A) → ((x : A) → P x → Q x) → IfSome found P → IfSome found Q
if_some None f p = tt
if_some (Some x) f p = f x p

mapped_if_some : (limits : Limits) (v : ℕ) (found : Option Reference) (change : Reference → Reference)
    → IfSome found (λ x. IsAnotherVersion limits v (change x)) → IfSome (option_map change found) (IsAnotherVersion limits v)
mapped_if_some limits v None change p = tt
mapped_if_some limits v (Some x) change p = p

pub stays : (refs : References) (r v : ℕ) → IsNotSearched refs r v → Follows r v refs refs
stays refs r v apart = record { apart = apart; names = λ word. refl; number = refl }

number_stays : (refs : References) (r at : ℕ) (change : Reference → Reference) → KeepsNames change
    → number_at (with_reference at change refs).references r ≡ number_at refs.references r
number_stays refs r at change keeps = elim (cases_eq at r) [
  | inl here ↦ rw (here, item_here r change refs.references) (go (slice_get refs.references r))
  | inr apart ↦ rw (item_apart at r change refs.references apart) refl
]
  where
    go : (found : Option Reference)
        → option_map (λ (reference : Reference). reference.id) (option_map change found) ≡ option_map (λ reference. reference.id) found
    go None = refl
    go (Some x) = ap (λ n. Some n) (keeps.number x)

-- the change of a reference at a position
pub record IsAlong (r v : ℕ) (refs : References) (at : ℕ) (change : Reference → Reference) : Type 0 where
  pub keeps : KeepsNames change
  pub here : at ≡ r → IfSome (slice_get refs.references r) (GoesAlong refs.limits v change)

pub follows_change : (refs : References) (r v at : ℕ) (change : Reference → Reference) → IsNotSearched refs r v
    → IsAlong r v refs at change → Follows r v refs (with_reference at change refs)
follows_change refs r v at change apart along = record {
  apart = elim (cases_eq at r) [
    | inl here ↦
        rw (here, item_here r change refs.references)
        (mapped_if_some refs.limits v (slice_get refs.references r) change
        (if_some (slice_get refs.references r) (λ x goes. goes.apart) (along.here here)))
    | inr other ↦ rw (item_apart at r change refs.references other) apart
  ];
  names = λ word. ap (λ n. n == r) (place_stays refs at change word along.keeps);
  number = number_stays refs r at change along.keeps;
}

pub changes_alike : (refs : References) (r v at : ℕ) (change : Reference → Reference) → IsAlong r v refs at change
    → with_reference at change (with_empty_version r v refs) ≡ with_empty_version r v (with_reference at change refs)
changes_alike refs r v at change along =
    ap (λ references. record refs { references = references })
    (elim (cases_eq at r) [
      | inl here ↦
          rw here
          (changes_here r change (without_additions v) (without_additions v) change refs.references
          (if_some (slice_get refs.references r) (λ x goes. goes.same) (along.here here)))
      | inr other ↦ changes_apart at r change (without_additions v) refs.references other
    ])

pub hidden_change : (refs : References) (r v : ℕ) (change : Version → Version)
    → with_empty_version r v (with_reference r (with_version (Some v) change) refs) ≡ with_empty_version r v refs
hidden_change refs r v change =
    ap (λ references. record refs { references = references })
    (change_covered r (without_additions v) (with_version (Some v) change) (without_additions v) refs.references
    (always (slice_get refs.references r) (change_hidden change v)))

pub hidden_follows : (refs : References) (r v : ℕ) (change : Version → Version) → IsNotSearched refs r v
    → Follows r v refs (with_reference r (with_version (Some v) change) refs)
hidden_follows refs r v change apart = record {
  apart =
      rw (item_here r (with_version (Some v) change) refs.references)
      (mapped_if_some refs.limits v (slice_get refs.references r) (with_version (Some v) change)
      (if_some (slice_get refs.references r) (another_changed refs.limits (Some v) change v) apart));
  names = λ word. ap (λ n. n == r) (place_stays refs r (with_version (Some v) change) word (version_keeps_names (Some v) change));
  number = number_stays refs r r (with_version (Some v) change) (version_keeps_names (Some v) change);
}

-- ---- what is read of them

-- of the reference at a position
pub read_alike : {A : Type 0} (f : Reference → A) (none : A) (refs : References) (r v at : ℕ)
    → (at ≡ r → IfSome (slice_get refs.references r) (λ x. f (without_additions v x) ≡ f x))
    → option_map_or f (slice_get (with_empty_version r v refs).references at) none ≡ option_map_or f (slice_get refs.references at) none
read_alike {A} f none refs r v at same = elim (cases_eq r at) [
  | inl here ↦
      rw (← here, item_here r (without_additions v) refs.references)
      (go (slice_get refs.references r) (same (sym here)))
  | inr apart ↦ rw (item_apart r at (without_additions v) refs.references apart) refl
]
  where
    go : (found : Option Reference) → IfSome found (λ x. f (without_additions v x) ≡ f x)
        → option_map_or f (option_map (without_additions v) found) none ≡ option_map_or f found none
    go None same = refl
    go (Some x) same = same

pub searched_alike : (refs : References) (r v : ℕ) → IsNotSearched refs r v
    → searched_lists (with_empty_version r v refs) ≡ searched_lists refs
searched_alike refs r v apart =
    map_stays (λ reference. version_entries reference None) r (without_additions v) refs.references
    (if_some (slice_get refs.references r) (λ x other. entries_are refs.limits None v x refl other) apart)

keeps_additions : (v : ℕ) → KeepsNames (without_additions v)
keeps_additions v = record { number = λ old. refl; file = λ old. refl }

place_alike : (refs : References) (r v : ℕ) (word : List ℕ) → place_named (with_empty_version r v refs) word ≡ place_named refs word
place_alike refs r v word = place_stays refs r (without_additions v) word (keeps_additions v)

pub empty_follows : (refs : References) (r v : ℕ) → IsNotSearched refs r v → Follows r v refs (with_empty_version r v refs)
empty_follows refs r v apart = record {
  apart =
      rw (item_here r (without_additions v) refs.references)
      (mapped_if_some refs.limits v (slice_get refs.references r) (without_additions v)
      (if_some (slice_get refs.references r) (another_emptied refs.limits v) apart));
  names = λ word. ap (λ n. n == r) (place_alike refs r v word);
  number = number_stays refs r r (without_additions v) (keeps_additions v);
}

pub resolved_alike : (refs : References) (r v : ℕ) (word : List ℕ) (side : Side)
    → resolution (with_empty_version r v refs) word side ≡ resolution refs word side
resolved_alike refs r v word side =
    let empty = with_empty_version r v refs in
    ap (λ at. answer at (option_map_or (side_fault side) (slice_get empty.references at) (Some UnknownRef))) (place_alike refs r v word)
    ∙ ap (answer (place_named refs word))
    (read_alike (side_fault side) (Some UnknownRef) refs r v (place_named refs word)
    (λ here. always (slice_get refs.references r) (same_side side)))
  where
    same_side : (side : Side) (x : Reference) → side_fault side (without_additions v x) ≡ side_fault side x
    same_side Acl x = refl
    same_side AclWrite x = refl
    same_side Map x = refl

-- the position that a word is resolved to is the one that it names
pub resolved_is : (refs : References) (word : List ℕ) (side : Side) (at : ℕ) → resolution refs word side ≡ Ok at
    → place_named refs word ≡ at
resolved_is refs word side at is =
    go (option_map_or (side_fault side) (slice_get refs.references (place_named refs word)) (Some UnknownRef)) is
  where
    go : (fault : Option RefFault) → answer (place_named refs word) fault ≡ Ok at → place_named refs word ≡ at
    go None is = cc
    go (Some fault) is = absurd (cc)
