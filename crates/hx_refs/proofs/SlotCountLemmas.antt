-- The slots that are in use, counted over the versions that callers see.
use Rattle.std.proofs.Common.{◌≡◌, ◌≢◌, ℕ, zero, suc, ◌+◌, ◌-◌, ◌*◌, ◌<◌, ◌≤◌, Bool, List, [], ◌∷◌, length, All, refl, sym, ap, subst, ◌∙◌, arith, inl, inr}
use Rattle.std.specs.Prelude.{Some, min, slice_get}
use Rattle.std.specs.List.{enumerate_from, sum_by}
use Rattle.std.proofs.lemmas.Bool.{ne_eqb, eq-eqb, cases_eq}
use Rattle.std.proofs.lemmas.List.{length-map}
use Rattle.std.proofs.lemmas.List.Elements.{All-head, All-tail, All-weaker}
use Rattle.std.proofs.lemmas.List.Sums.{sum_by-cons}
use Rattle.hx_text.specs.declared.kinds.By.{By}
use Rattle.hx_sample.specs.Tables.{TableHead}
use Rattle.hx_refs.specs.declared.limits.Limits.{Limits}
use Rattle.hx_refs.specs.Kept.{all_filled, filled, kept_uses, shown_references, slots_in_kept, stored_last, AreFilled, AreKept, StoredReference, IsFilled, Kept}
use Rattle.hx_refs.specs.References.{after_tidying, empty_version, Version}
use Rattle.hx_versions.specs.Rows.{kept_slots, row_slots, store_slots, use_ways, version_in_row, version_numbered, version_slots, versions_from, AreNumbered, IsSearchedBy, ShownVersion, StoreView}
use Rattle.hx_refs.specs.SlotCounts.{least_slots, most_slots, slots_in, slots_in_all}
use Rattle.hx_refs.specs.Uses.{uses_of, Use}
use Rattle.hx_refs.proofs.FilledLemmas.{row_in}
use Rattle.hx_refs.proofs.KeptLemmas.{content_of}
use Rattle.hx_refs.proofs.VersionLemmas.{none_below, same_versions}

-- ---- a row

-- the versions after one that stands first in the row
later : (number count last : ℕ) (w : ShownVersion) (row : List ShownVersion) → w.number ≡ number
    → versions_from (number + 1) count (w ∷ row) ≡ versions_from (number + 1) count row
later number count last w row here =
    same_versions (number + 1) count row (w ∷ row) (λ other low high. rw (ne_eqb w.number other (λ e. omega arith)) refl)

-- the version of a number that stands first in the row, or isn't in it
is_first : (number : ℕ) (w : ShownVersion) (row : List ShownVersion) → w.number ≡ number
    → version_numbered number (w ∷ row) ≡ version_in_row w
is_first number w row here = rw (eq-eqb w.number number here) refl

is_none : (number last : ℕ) (w : ShownVersion) (row : List ShownVersion) → AreNumbered number last (w ∷ row)
    → w.number ≢ number → version_numbered number (w ∷ row) ≡ empty_version
is_none number last w row all above =
    none_below number w.number last (w ∷ row) (omega arith, all.1, all.2) (omega (arith, all.0, above))

-- what is counted of versions, in the list of all of them and in the row
module _ (f : Version → ℕ) (g : ShownVersion → ℕ) where
  pub at_least : f empty_version ≡ 0 → (number count last : ℕ) (row : List ShownVersion) → AreNumbered number last row
      → All (λ v. f (version_in_row v) ≤ g v) row → sum_by f (versions_from number count row) ≤ sum_by g row
  at_least none number zero last row all each = omega arith
  at_least none number (suc count) last [] all each =
      let rest = at_least none (number + 1) count last [] tt each in
      omega (arith, sum_by-cons f empty_version (versions_from (number + 1) count []), rest, none)
  at_least none number (suc count) last (w ∷ row) all each = elim (cases_eq w.number number) [
    | inl here ↦
        let rest = at_least none (number + 1) count last row (rw here at all.2) (All-tail (λ v. f (version_in_row v) ≤ g v) w row each) in
        let first = All-head (λ v. f (version_in_row v) ≤ g v) w row each in
        rw (is_first number w row here, later number count last w row here)
        (omega (arith, sum_by-cons f (version_in_row w) (versions_from (number + 1) count row), sum_by-cons g w row, rest, first))
    | inr above ↦
        let rest = at_least none (number + 1) count last (w ∷ row) (omega (arith, all.0, above), all.1, all.2) each in
        rw (is_none number last w row all above)
        (omega (arith, sum_by-cons f empty_version (versions_from (number + 1) count (w ∷ row)), rest, none))
  ]

  pub at_most : (number count last : ℕ) (row : List ShownVersion) → AreNumbered number last row → last < number + count
      → All (λ v. g v ≤ f (version_in_row v)) row → sum_by g row ≤ sum_by f (versions_from number count row)
  at_most number count last [] all within each = omega arith
  at_most number zero last (w ∷ row) all within each = absurd (omega (arith, all.0, all.1, within))
  at_most number (suc count) last (w ∷ row) all within each = elim (cases_eq w.number number) [
    | inl here ↦
        let rest = at_most (number + 1) count last row (rw here at all.2) (omega (arith, within)) (All-tail (λ v. g v ≤ f (version_in_row v)) w row each) in
        let first = All-head (λ v. g v ≤ f (version_in_row v)) w row each in
        rw (is_first number w row here, later number count last w row here)
        (omega (arith, sum_by-cons f (version_in_row w) (versions_from (number + 1) count row), sum_by-cons g w row, rest, first))
    | inr above ↦
        let rest = at_most (number + 1) count last (w ∷ row) (omega (arith, all.0, above), all.1, all.2) (omega (arith, within)) each in
        rw (is_none number last w row all above)
        (omega (arith, sum_by-cons f empty_version (versions_from (number + 1) count (w ∷ row)), rest))
  ]

-- ---- a version

-- the slots of one with so many entries and ways, which are the uses unless there is nothing
least_of : (n uses ways : ℕ) → ways ≡ uses → n * (1 + uses) ≤ 1 + n * (1 + ways)
least_of n uses ways same = subst (λ k. n * (1 + uses) ≤ 1 + n * (1 + k)) (sym same) (omega arith)

most_of : (n uses ways : ℕ) → ways ≡ uses → 1 + n * (1 + ways) ≤ (n + 1) * (1 + uses)
most_of n uses ways same = subst (λ k. 1 + n * (1 + k) ≤ (n + 1) * (1 + uses)) (sym same) (omega arith)

least_of_none : (n uses ways : ℕ) → n ≡ 0 → n * (1 + uses) ≤ 1 + n * (1 + ways)
least_of_none n uses ways none = subst (λ k. k * (1 + uses) ≤ 1 + k * (1 + ways)) (sym none) (omega arith)

most_of_none : (n uses ways : ℕ) → n ≡ 0 → 1 + n * (1 + ways) ≤ (n + 1) * (1 + uses)
most_of_none n uses ways none = subst (λ k. 1 + k * (1 + ways) ≤ (k + 1) * (1 + uses)) (sym none) (omega arith)

module _ (uses : ℕ) (ways : List (By × Bool)) (many : length ways ≡ uses) where
  pub least_here : (v : ShownVersion) → IsSearchedBy ways v → least_slots uses (version_in_row v) ≤ version_slots v
  least_here v (inl same) = least_of (length v.entries) uses (length v.ways) (ap length same ∙ many)
  least_here v (inr none) = least_of_none (length v.entries) uses (length v.ways) (ap length none.1)

  pub most_here : (v : ShownVersion) → IsSearchedBy ways v → version_slots v ≤ most_slots uses (version_in_row v)
  most_here v (inl same) = most_of (length v.entries) uses (length v.ways) (ap length same ∙ many)
  most_here v (inr none) = most_of_none (length v.entries) uses (length v.ways) (ap length none.1)

-- ---- the references

-- of a reference, so many for each version
abbrev pub kept_by : (ℕ → Version → ℕ) → Kept → ℕ
kept_by of_version k = sum_by (of_version (length k.uses)) k.shown.versions

least_of_row : (k : StoredReference) (row : List ShownVersion) → IsFilled k row → kept_by least_slots (filled k row) ≤ row_slots row
least_of_row k row all =
    at_least (least_slots (length k.kept.uses)) version_slots (omega arith)
    k.stored_first (suc (stored_last k - k.stored_first)) (stored_last k) row all.numbers
    (All-weaker (IsSearchedBy (use_ways k.kept.uses)) (λ v. least_slots (length k.kept.uses) (version_in_row v) ≤ version_slots v)
    (least_here (length k.kept.uses) (use_ways k.kept.uses) (length-map k.kept.uses (λ (u : Use). (u.by, u.ci)))) row all.searched)

most_of_row : (k : StoredReference) (row : List ShownVersion) → IsFilled k row → row_slots row ≤ kept_by most_slots (filled k row)
most_of_row k row all =
    at_most (most_slots (length k.kept.uses)) version_slots
    k.stored_first (suc (stored_last k - k.stored_first)) (stored_last k) row all.numbers (omega arith)
    (All-weaker (IsSearchedBy (use_ways k.kept.uses)) (λ v. version_slots v ≤ most_slots (length k.kept.uses) (version_in_row v))
    (most_here (length k.kept.uses) (use_ways k.kept.uses) (length-map k.kept.uses (λ (u : Use). (u.by, u.ci)))) row all.searched)

least_of_all : (kept : List StoredReference) (rows : List (List ShownVersion)) → length rows ≡ length kept
    → ((r : ℕ) (k : StoredReference) → slice_get kept r ≡ Some k → IsFilled k (row_in rows r))
    → slots_in_kept least_slots (all_filled kept rows) ≤ kept_slots rows
least_of_all [] rows same each = omega arith
least_of_all (k ∷ kept) [] same each = absurd (omega (arith, same))
least_of_all (k ∷ kept) (row ∷ rows) same each =
    let first = least_of_row k row (each 0 k refl) in
    let rest = least_of_all kept rows (omega (arith, same)) (λ r x is. each (suc r) x is) in
    omega (arith, sum_by-cons (kept_by least_slots) (filled k row) (all_filled kept rows), sum_by-cons row_slots row rows, first, rest)

most_of_all : (kept : List StoredReference) (rows : List (List ShownVersion)) → length rows ≡ length kept
    → ((r : ℕ) (k : StoredReference) → slice_get kept r ≡ Some k → IsFilled k (row_in rows r))
    → kept_slots rows ≤ slots_in_kept most_slots (all_filled kept rows)
most_of_all [] [] same each = omega arith
most_of_all [] (row ∷ rows) same each = absurd (omega (arith, same))
most_of_all (k ∷ kept) [] same each = absurd (omega (arith, same))
most_of_all (k ∷ kept) (row ∷ rows) same each =
    let first = most_of_row k row (each 0 k refl) in
    let rest = most_of_all kept rows (omega (arith, same)) (λ r x is. each (suc r) x is) in
    omega (arith, sum_by-cons (kept_by most_slots) (filled k row) (all_filled kept rows), sum_by-cons row_slots row rows, first, rest)

pub least_counted : (kept : List StoredReference) (store : StoreView) → AreFilled kept store
    → slots_in_kept least_slots (all_filled kept store.rows) + store.waiting ≤ kept_slots store.rows + store.waiting
least_counted kept store all = omega (arith, least_of_all kept store.rows all.count all.each)

pub most_counted : (kept : List StoredReference) (store : StoreView) → AreFilled kept store
    → kept_slots store.rows + store.waiting ≤ slots_in_kept most_slots (all_filled kept store.rows) + store.waiting
most_counted kept store all = omega (arith, most_of_all kept store.rows all.count all.each)

-- ---- by their heads

-- the uses that references keep are those that the heads give them
pub same_slots : (of_version : ℕ → Version → ℕ) (limits : Limits) (first : ℕ) (heads : List TableHead) (kept : List Kept) → AreKept heads kept
    → slots_in_all of_version (content_of limits first heads kept) ≡ slots_in_kept of_version kept
same_slots of_version limits first heads kept all =
    go 0 kept (λ q. rw (none_before q) (all.uses q))
  where
    none_before : (q : ℕ) → 0 + q ≡ q
    none_before q = omega arith

    go : (p : ℕ) (rest : List Kept) → ((q : ℕ) → uses_of heads (p + q) ≡ kept_uses rest q)
        → sum_by (slots_in of_version heads) (enumerate_from p (shown_references rest)) ≡ slots_in_kept of_version rest
    go p [] is = refl
    go p (k ∷ rest) is =
        let at_first : p + 0 ≡ p = omega arith in
        let next : (q : ℕ) → p + suc q ≡ p + 1 + q = λ q. omega arith in
        let uses : uses_of heads p ≡ k.uses = rw at_first at (is 0) in
        sum_by-cons (slots_in of_version heads) (p, k.shown) (enumerate_from (p + 1) (shown_references rest))
        ∙ ap (λ (us : List Use). sum_by (of_version (length us)) k.shown.versions + sum_by (slots_in of_version heads) (enumerate_from (p + 1) (shown_references rest))) uses
        ∙ ap (λ n. kept_by of_version k + n) (go (p + 1) rest (λ q. rw (next q) at (is (suc q))))
        ∙ sym (sum_by-cons (kept_by of_version) k rest)

-- ---- slots that are given back

-- what waits is less, and nothing else is
pub tidied_filled : (kept : List StoredReference) (old new : StoreView) (waiting : ℕ) → new ≡ record old { waiting = waiting }
    → AreFilled kept old → AreFilled kept new
tidied_filled kept old new waiting is all =
    subst (λ (store : StoreView). AreFilled kept store) (sym is) (record { count = all.count; each = all.each })

pub tidied_slots : (n : ℕ) (old new : StoreView) → new ≡ record old { waiting = old.waiting - n }
    → store_slots new ≡ after_tidying n (store_slots old)
tidied_slots n old new is =
    let fewer : kept_slots old.rows + (old.waiting - n) ≡ kept_slots old.rows + old.waiting - min n old.waiting = omega arith in
    ap store_slots is ∙ rw fewer refl
