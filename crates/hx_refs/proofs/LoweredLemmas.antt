-- Versions in a row whose numbers are lowered.
use Rattle.std.proofs.Common.{◌≡◌, ℕ, zero, suc, ◌+◌, ◌-◌, ◌≤◌, Bool, List, [], ◌∷◌, map, All, refl, ap, ◌∙◌, arith, inl, inr}
use Rattle.std.proofs.lemmas.Bool.{ne_eqb, eq-eqb, cases_eq}
use Rattle.std.proofs.lemmas.List.Elements.{All-cons, All-map, All-nil}
use Rattle.hx_text.specs.declared.kinds.By.{By}
use Rattle.hx_versions.specs.Rows.{lowered, version_numbered, versions_from, AreCounted, AreNumbered, AreSearchedBy, IsCounted, IsSearchedBy, ShownVersion}

-- no number is smaller than one that isn't larger than the first
pub none_smaller : (by first last : ℕ) (row : List ShownVersion) → by ≤ first → AreNumbered first last row
    → All (λ (v : ShownVersion). by ≤ v.number) row
none_smaller by first last [] le all = All-nil (λ (v : ShownVersion). by ≤ v.number)
none_smaller by first last (v ∷ row) le all =
    All-cons (λ (v : ShownVersion). by ≤ v.number) v row (omega (arith, all.0, le))
    (none_smaller by (v.number + 1) last row (omega (arith, all.0, le)) all.2)

-- the numbers lie between two that are lowered too
pub lowered_numbers : (by first last : ℕ) (row : List ShownVersion) → by ≤ first → AreNumbered first last row
    → AreNumbered (first - by) (last - by) (map (lowered by) row)
lowered_numbers by first last [] le all = tt
lowered_numbers by first last (v ∷ row) le all =
    let next : v.number + 1 - by ≡ v.number - by + 1 = omega (arith, all.0, le) in (
      omega (arith, all.0),
      omega (arith, all.1),
      rw next at (lowered_numbers by (v.number + 1) last row (omega (arith, all.0, le)) all.2),
    )

-- a version is found by its lowered number
pub lowered_version : (by first last number : ℕ) (row : List ShownVersion) → by ≤ first → AreNumbered first last row
    → by ≤ number → version_numbered (number - by) (map (lowered by) row) ≡ version_numbered number row
lowered_version by first last number [] le all within = refl
lowered_version by first last number (v ∷ row) le all within = elim (cases_eq v.number number) [
  | inl here ↦
      rw (eq-eqb (v.number - by) (number - by) (ap (λ n. n - by) here), eq-eqb v.number number here) refl
  | inr apart ↦
      rw (ne_eqb (v.number - by) (number - by) (λ same. apart (omega (arith, same, all.0, le, within))), ne_eqb v.number number apart)
      (lowered_version by (v.number + 1) last number row (omega (arith, all.0, le)) all.2 within)
]

-- nothing is changed where they are lowered by 0
pub lowered_by_none : (by : ℕ) (row : List ShownVersion) → by ≤ 0 → row ≡ map (lowered by) row
lowered_by_none by [] none = refl
lowered_by_none by (v ∷ row) none =
    let same : v.number ≡ v.number - by = omega (arith, none) in
    ap (λ n. record v { number = n } ∷ row) same
    ∙ ap (λ (rest : List ShownVersion). lowered by v ∷ rest) (lowered_by_none by row none)

-- so are all of them
pub lowered_versions : (by first last number count : ℕ) (row : List ShownVersion) → by ≤ first → AreNumbered first last row
    → by ≤ number → versions_from (number - by) count (map (lowered by) row) ≡ versions_from number count row
lowered_versions by first last number zero row le all within = refl
lowered_versions by first last number (suc count) row le all within =
    let next : number - by + 1 ≡ number + 1 - by = omega arith in
    rw (next, lowered_version by first last number row le all within, lowered_versions by first last (number + 1) count row le all (omega arith))
    refl

-- nothing else of them is changed
pub lowered_searched : (by : ℕ) (ways : List (By × Bool)) (row : List ShownVersion) → AreSearchedBy ways row
    → AreSearchedBy ways (map (lowered by) row)
lowered_searched by ways row all = All-map (IsSearchedBy ways) (lowered by) row all

pub lowered_counted : (by : ℕ) (row : List ShownVersion) → AreCounted row → AreCounted (map (lowered by) row)
lowered_counted by row all = All-map IsCounted (lowered by) row all
