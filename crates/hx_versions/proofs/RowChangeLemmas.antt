-- Changes of one version of a row, and the version that stands in a place.
use Rattle.std.proofs.Common.{◌≡◌, ◌≢◌, ℕ, zero, suc, ◌+◌, ◌*◌, ◌<◌, ◌≤◌, ◌==◌, List, [], ◌∷◌, ◌++◌, length, All, refl, sym, ap, subst, ◌∙◌, inl, inr, arith, ne_eqb, eq-eqb}
use Rattle.std.specs.Prelude.{⊤}
use Rattle.std.proofs.lemmas.Bool.{cases_eq}
use Rattle.std.proofs.lemmas.List.Elements.{All-head, All-tail}
use Rattle.hx_versions.specs.Versions.{empty_version, Version}
use Rattle.hx_versions.specs.Rows.{AreBelow, AreNumbered, Changes, ChangesVersion, ShownVersion, cleared_slots, filled_one, version_in_row, version_numbered, version_slots}

-- the number of a version is smaller
abbrev pub is_below : ℕ → ShownVersion → Type 0
is_below number version = version.number < number

-- the first of the versions has a greater number
abbrev pub BeginsAbove : ℕ → List ShownVersion → Type 0
BeginsAbove number [] = ⊤
BeginsAbove number (version ∷ row) = number < version.number

-- ---- numbers

-- a version has no smaller number than the first
pub least_here : (first last : ℕ) (before : List ShownVersion) (v : ShownVersion) (after : List ShownVersion) → AreNumbered first last (before ++ v ∷ after) → first ≤ v.number
least_here first last [] v after all = all.0
least_here first last (w ∷ before) v after all = omega (arith, all.0, least_here (w.number + 1) last before v after all.2)

pub none_below : (number first last : ℕ) (row : List ShownVersion) → AreNumbered first last row → number < first → version_numbered number row ≡ empty_version
none_below number first last [] all below = refl
none_below number first last (v ∷ row) all below =
    rw (ne_eqb v.number number (λ same. omega (arith, all.0)))
    (none_below number (v.number + 1) last row all.2 (omega (arith, all.0)))

pub none_above : (number first last : ℕ) (row : List ShownVersion) → AreNumbered first last row → BeginsAbove number row → version_numbered number row ≡ empty_version
none_above number first last [] all above = refl
none_above number first last (v ∷ row) all above =
    rw (ne_eqb v.number number (λ same. omega (arith, above)))
    (none_below number (v.number + 1) last row all.2 (omega (arith, above)))

-- ---- the version in a place

pub version_here : (number : ℕ) (before : List ShownVersion) (v : ShownVersion) (after : List ShownVersion) → AreBelow number before → v.number ≡ number → version_numbered number (before ++ v ∷ after) ≡ version_in_row v
version_here number [] v after below same = rw (eq-eqb v.number number same) refl
version_here number (w ∷ before) v after below same =
    rw (ne_eqb w.number number (λ e. omega (arith, All-head (is_below number) w before below)))
    (version_here number before v after (All-tail (is_below number) w before below) same)

pub version_absent : (number first last : ℕ) (before after : List ShownVersion) → AreNumbered first last (before ++ after) → AreBelow number before → BeginsAbove number after → version_numbered number (before ++ after) ≡ empty_version
version_absent number first last [] after all below above = none_above number first last after all above
version_absent number first last (w ∷ before) after all below above =
    rw (ne_eqb w.number number (λ e. omega (arith, All-head (is_below number) w before below)))
    (version_absent number (w.number + 1) last before after all.2 (All-tail (is_below number) w before below) above)

pub cleared_here : (number : ℕ) (before : List ShownVersion) (v : ShownVersion) (after : List ShownVersion) → AreBelow number before → v.number ≡ number → cleared_slots number (before ++ v ∷ after) ≡ filled_one v * version_slots v
cleared_here number [] v after below same = rw (eq-eqb v.number number same) refl
cleared_here number (w ∷ before) v after below same =
    rw (ne_eqb w.number number (λ e. omega (arith, All-head (is_below number) w before below)))
    (cleared_here number before v after (All-tail (is_below number) w before below) same)

cleared_below : (number first last : ℕ) (row : List ShownVersion) → AreNumbered first last row → number < first → cleared_slots number row ≡ 0
cleared_below number first last [] all below = refl
cleared_below number first last (v ∷ row) all below =
    rw (ne_eqb v.number number (λ same. omega (arith, all.0)))
    (cleared_below number (v.number + 1) last row all.2 (omega (arith, all.0)))

pub cleared_absent : (number first last : ℕ) (before after : List ShownVersion) → AreNumbered first last (before ++ after) → AreBelow number before → BeginsAbove number after → cleared_slots number (before ++ after) ≡ 0
cleared_absent number first last [] [] all below above = refl
cleared_absent number first last [] (v ∷ after) all below above =
    rw (ne_eqb v.number number (λ same. omega (arith, above)))
    (cleared_below number (v.number + 1) last after all.2 (omega (arith, above)))
cleared_absent number first last (w ∷ before) after all below above =
    rw (ne_eqb w.number number (λ e. omega (arith, All-head (is_below number) w before below)))
    (cleared_absent number (w.number + 1) last before after all.2 (All-tail (is_below number) w before below) above)

-- ---- changes

-- the version in a place is another
pub changed_here : (first last number : ℕ) (before : List ShownVersion) (v new : ShownVersion) (after : List ShownVersion) (change : Version → Version) → AreNumbered first last (before ++ v ∷ after) → v.number ≡ number → new.number ≡ number → version_in_row new ≡ change (version_in_row v) → ChangesVersion first last number change (before ++ v ∷ after) (before ++ new ∷ after)
changed_here first last number [] v new after change all same still shown =
    let alike : v.number ≡ new.number = same ∙ sym still in
    record {
      numbers = (rw (← alike) all.0, rw (← alike) all.1, rw (← alike) all.2);
      changed = rw (eq-eqb new.number number still, eq-eqb v.number number same) shown;
      others = λ other apart.
          rw (ne_eqb new.number other (λ e. apart (sym e ∙ still)), ne_eqb v.number other (λ e. apart (sym e ∙ same))) refl;
    }
changed_here first last number (w ∷ before) v new after change all same still shown =
    let least = least_here (w.number + 1) last before v after all.2 in
    let rest = changed_here (w.number + 1) last number before v new after change all.2 same still shown in
    record {
      numbers = (all.0, all.1, rest.numbers);
      changed = rw (ne_eqb w.number number (λ e. omega (arith, least, same, e))) rest.changed;
      others = λ other apart. elim (cases_eq w.number other) [
        | inl e ↦ rw (eq-eqb w.number other e) refl
        | inr e ↦ rw (ne_eqb w.number other e) (rest.others other apart)
      ];
    }

-- a version is put into a place
pub inserted_here : (first last number : ℕ) (before : List ShownVersion) (new : ShownVersion) (after : List ShownVersion) (change : Version → Version) → AreNumbered first last (before ++ after) → first ≤ number → number ≤ last → AreBelow number before → BeginsAbove number after → new.number ≡ number → version_in_row new ≡ change empty_version → ChangesVersion first last number change (before ++ after) (before ++ new ∷ after)
inserted_here first last number [] new after change all low high below above still shown = record {
  numbers = (rw still low, rw still high, later after all above);
  changed = rw (eq-eqb new.number number still) (shown ∙ ap change (sym (none_above number first last after all above)));
  others = λ other apart. rw (ne_eqb new.number other (λ e. apart (sym e ∙ still))) refl;
}
  where
    later : (row : List ShownVersion) → AreNumbered first last row → BeginsAbove number row → AreNumbered (new.number + 1) last row
    later [] numbered begins = tt
    later (x ∷ row) numbered begins = (omega (arith, begins, still), numbered.1, numbered.2)
inserted_here first last number (w ∷ before) new after change all low high below above still shown =
    let here = All-head (is_below number) w before below in
    let rest = inserted_here (w.number + 1) last number before new after change all.2 (omega (arith, here)) high (All-tail (is_below number) w before below) above still shown in
    record {
      numbers = (all.0, all.1, rest.numbers);
      changed = rw (ne_eqb w.number number (λ e. omega (arith, here))) rest.changed;
      others = λ other apart. elim (cases_eq w.number other) [
        | inl e ↦ rw (eq-eqb w.number other e) refl
        | inr e ↦ rw (ne_eqb w.number other e) (rest.others other apart)
      ];
    }

-- nothing is changed where there is no version to change
pub unchanged : (first last number : ℕ) (before after : List ShownVersion) (change : Version → Version) → AreNumbered first last (before ++ after) → AreBelow number before → BeginsAbove number after → change empty_version ≡ empty_version → ChangesVersion first last number change (before ++ after) (before ++ after)
unchanged first last number before after change all below above still =
    let empty = version_absent number first last before after all below above in record {
      numbers = all;
      changed = empty ∙ sym still ∙ ap change (sym empty);
      others = λ other apart. refl;
    }
