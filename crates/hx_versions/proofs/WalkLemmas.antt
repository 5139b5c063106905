-- What a walk to the chosen entries of a content finds there.
use Rattle.std.proofs.Common.{◌≡◌, ℕ, Bool, true, false, not, List, [], ◌∷◌, ◌++◌, Some, refl, sym, ap, ◌∙◌, inl, inr, append-nil}
use Rattle.std.specs.List.{list_any}
use Rattle.std.proofs.lemmas.Bool.{cases_Bool}
use Rattle.std.proofs.lemmas.List.Elements.{filter-append}
use Rattle.hx_pool.specs.Pool.{get}
use Rattle.hx_index.specs.Index.{NodePool}
use Rattle.hx_sample.specs.Changes.{without_chosen}
use Rattle.hx_sample.specs.Find.{Entry}
use Rattle.hx_versions.specs.declared.content.Content.{Content}
use Rattle.hx_versions.specs.declared.stored_entry.StoredEntry.{StoredEntry}
use Rattle.hx_versions.specs.StoredEntries.{stored_entry}
use Rattle.hx_versions.specs.Contents.{EntryPool, IsContent, PlacedEntry, entries_of, without_chosen_entries}
use Rattle.hx_versions.proofs.IndexListLemmas.{some_same}
use Rattle.hx_versions.proofs.PlacedLemmas.{has_it, is_at}

pub joined : (xs ys : List PlacedEntry) (x : PlacedEntry) → xs ++ x ∷ ys ≡ (xs ++ x ∷ []) ++ ys
joined [] ys x = refl
joined (y ∷ xs) ys x = ap (λ zs. y ∷ zs) (joined xs ys x)

-- what a test says of the entry in the slot it says of the entry for which the slot stands
pub tested : (e : EntryPool) (n : NodePool) (v : ℕ) (c : Content) (before : List PlacedEntry) (p : PlacedEntry) (after : List PlacedEntry) (slot : ℕ) (here : p.slot ≡ slot) (h : IsContent e n v c (before ++ p ∷ after)) (test : Entry → Bool) (answer : Bool) → ((s : StoredEntry) → get e slot ≡ Some s → answer ≡ test (stored_entry s)) → test p.entry ≡ answer
tested e n v c before p after slot here h test answer says =
    let has = has_it e n v c before p after slot here h in
    sym (says has.0 (is_at e n v c before p after slot here h) ∙ ap test has.3)

pub tested_one : (e : EntryPool) (n : NodePool) (v : ℕ) (c : Content) (before : List PlacedEntry) (p : PlacedEntry) (after : List PlacedEntry) (slot : ℕ) (here : p.slot ≡ slot) (h : IsContent e n v c (before ++ p ∷ after)) (test : Entry → Bool) (s : StoredEntry) → get e slot ≡ Some s → test (stored_entry s) ≡ true → test p.entry ≡ true
tested_one e n v c before p after slot here h test s is hit =
    let has = has_it e n v c before p after slot here h in
    let same : s ≡ has.0 = some_same s has.0 (sym is ∙ is_at e n v c before p after slot here h) in
    ap test (sym has.3) ∙ ap (λ x. test (stored_entry x)) (sym same) ∙ hit

-- ---- whether one is chosen

pub any_step : (test : Entry → Bool) (x : PlacedEntry) (xs : List PlacedEntry) → test x.entry ≡ false → list_any test (entries_of (x ∷ xs)) ≡ list_any test (entries_of xs)
any_step test x xs miss = rw miss refl

pub any_hit : (test : Entry → Bool) (x : PlacedEntry) (xs : List PlacedEntry) → test x.entry ≡ true → list_any test (entries_of (x ∷ xs)) ≡ true
any_hit test x xs hit = rw hit refl

-- the entries that are left have one that is chosen if all have
abbrev pub AnyLeft : (Entry → Bool) → List PlacedEntry → List PlacedEntry → List PlacedEntry → Type 0
AnyLeft test placed seen rest = list_any test (entries_of rest) ≡ list_any test (entries_of placed)

-- ---- without those that are chosen

pub without_more : (test : Entry → Bool) (seen : List PlacedEntry) (x : PlacedEntry) → without_chosen_entries test (seen ++ x ∷ []) ≡ without_chosen_entries test seen ++ without_chosen_entries test (x ∷ [])
without_more test seen x = filter-append (λ (p : PlacedEntry). not (test p.entry)) seen (x ∷ [])

-- the content stands for those that were passed, without the chosen, and those that are left
abbrev pub OthersLeft : (Entry → Bool) → EntryPool → NodePool → ℕ → Content → List PlacedEntry → List PlacedEntry → Type 0
OthersLeft test e n v c seen rest = IsContent e n v c (without_chosen_entries test seen ++ rest)

-- the entry at which the walk is goes out, or stays
pub chosen_out : (test : Entry → Bool) (before : List PlacedEntry) (x : PlacedEntry) (after : List PlacedEntry) → test x.entry ≡ true → (before ++ without_chosen_entries test (x ∷ [])) ++ after ≡ before ++ after
chosen_out test before x after hit = rw hit (ap (λ xs. xs ++ after) (append-nil before))

pub other_stays : (test : Entry → Bool) (before : List PlacedEntry) (x : PlacedEntry) (after : List PlacedEntry) → test x.entry ≡ false → (before ++ without_chosen_entries test (x ∷ [])) ++ after ≡ before ++ x ∷ after
other_stays test before x after miss = rw miss (sym (joined before after x))

-- as callers see it
pub shown_without : (test : Entry → Bool) (placed : List PlacedEntry) → entries_of (without_chosen_entries test placed) ≡ without_chosen test (entries_of placed)
shown_without test [] = refl
shown_without test (x ∷ xs) = elim (cases_Bool (test x.entry)) [
  | inl chosen ↦ rw chosen (shown_without test xs)
  | inr kept ↦ rw kept (ap (λ rest. x.entry ∷ rest) (shown_without test xs))
]
