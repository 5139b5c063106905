-- A walk along the chain of a content, on which entries get a value.
use Rattle.std.proofs.Common.{◌≡◌, ℕ, zero, suc, ◌<◌, Bool, true, false, List, [], ◌∷◌, ◌++◌, length, map, replicate, Option, Some, None, IsSome, refl, sym, ap, subst, ◌∙◌, arith, inl, inr, append_assoc}
use Rattle.std.proofs.lemmas.Bool.{cases_Bool}
use Rattle.std.proofs.lemmas.List.{length-replicate, map-append}
use Rattle.hx_pool.specs.Pool.{IsLive, Updates, get}
use Rattle.hx_index.specs.Index.{NodePool}
use Rattle.hx_sample.specs.Changes.{with_value}
use Rattle.hx_sample.specs.Find.{Entry}
use Rattle.hx_versions.specs.declared.content.Content.{Content}
use Rattle.hx_versions.specs.declared.stored_entry.StoredEntry.{StoredEntry}
use Rattle.hx_versions.specs.StoredEntries.{stored_entry}
use Rattle.hx_versions.specs.Contents.{AreCopies, EntryPool, IsContent, LeavesOthers, PlacedEntry, entries_of, with_chosen_values, with_other_value}
use Rattle.hx_versions.specs.Versions.{chosen_count}
use Rattle.hx_versions.proofs.ContentLemmas.{leaves_self}
use Rattle.hx_versions.proofs.PlacedLemmas.{has_it, is_at}
use Rattle.hx_versions.proofs.ValueLemmas.{valued, valued_others}
use Rattle.hx_versions.proofs.WalkLemmas.{joined}

-- ---- copies

pub chosen_more : (test : Entry → Bool) (x : PlacedEntry) (xs : List PlacedEntry) → test x.entry ≡ true → chosen_count test (entries_of (x ∷ xs)) ≡ suc (chosen_count test (entries_of xs))
chosen_more test x xs hit = rw hit refl

pub other_more : (test : Entry → Bool) (x : PlacedEntry) (xs : List PlacedEntry) → test x.entry ≡ false → chosen_count test (entries_of (x ∷ xs)) ≡ chosen_count test (entries_of xs)
other_more test x xs miss = rw miss refl

-- the copies so far and those for what is left are all
abbrev pub CopiesLeft : (Entry → Bool) → List ℕ → List PlacedEntry → List (List ℕ) → List PlacedEntry → List PlacedEntry → Type 0
CopiesLeft test value placed copies seen rest =
    copies ++ replicate (chosen_count test (entries_of rest)) value ≡ replicate (chosen_count test (entries_of placed)) value

-- they stay all as the walk passes an entry
pub copied : (test : Entry → Bool) (value : List ℕ) (x : PlacedEntry) (xs : List PlacedEntry) (chosen : Bool) (copies copies' all : List (List ℕ)) → test x.entry ≡ chosen → (chosen ≡ true → copies' ≡ copies ++ value ∷ []) → (chosen ≡ false → copies' ≡ copies) → copies ++ replicate (chosen_count test (entries_of (x ∷ xs))) value ≡ all → copies' ++ replicate (chosen_count test (entries_of xs)) value ≡ all
copied test value x xs true copies copies' all hit more same before =
    let m = chosen_count test (entries_of xs) in
    ap (λ ys. ys ++ replicate m value) (more refl) ∙ append_assoc copies (value ∷ []) (replicate m value)
    ∙ ap (λ k. copies ++ replicate k value) (sym (chosen_more test x xs hit)) ∙ before
copied test value x xs false copies copies' all miss more same before =
    let m = chosen_count test (entries_of xs) in
    ap (λ ys. ys ++ replicate m value) (same refl)
    ∙ ap (λ k. copies ++ replicate k value) (sym (other_more test x xs miss)) ∙ before

replicated : (n : ℕ) (value last : List ℕ) (rest : List (List ℕ)) → replicate (suc n) value ≡ rest ++ last ∷ [] → (rest ≡ replicate n value) × (last ≡ value)
replicated zero value last [] e = let same : last ≡ value = cc in (refl, same)
replicated zero value last (x ∷ rest) e = absurd (two rest last (tail_of e))
  where
    two : (rest : List (List ℕ)) (last : List ℕ) → [] ≡ rest ++ last ∷ [] → ⊥
    two [] last e = cc
    two (x ∷ rest) last e = cc

    tail_of : value ∷ [] ≡ x ∷ (rest ++ last ∷ []) → [] ≡ rest ++ last ∷ []
    tail_of e = cc
replicated (suc n) value last [] e = cc
replicated (suc n) value last (x ∷ rest) e =
    let head : x ≡ value = cc in
    let tail : replicate (suc n) value ≡ rest ++ last ∷ [] = cc in
    let more = replicated n value last rest tail in
    (ap (λ y. y ∷ rest) head ∙ ap (λ ys. value ∷ ys) more.0, more.1)

-- ---- the entry at which the walk is

given_is : (test : Entry → Bool) (value : List ℕ) (before : List PlacedEntry) (p : PlacedEntry) (after : List PlacedEntry) → test p.entry ≡ true → (before ++ with_chosen_values test value (p ∷ [])) ++ after ≡ before ++ with_other_value value p ∷ after
given_is test value before p after hit =
    let entry : with_value test value p.entry ≡ record p.entry { value = value } = rw hit refl in
    ap (λ (x : Entry). (before ++ record p { entry = x } ∷ []) ++ after) entry ∙ sym (joined before after (with_other_value value p))

kept_is : (test : Entry → Bool) (value : List ℕ) (before : List PlacedEntry) (p : PlacedEntry) (after : List PlacedEntry) → test p.entry ≡ false → (before ++ with_chosen_values test value (p ∷ [])) ++ after ≡ before ++ p ∷ after
kept_is test value before p after miss =
    let entry : with_value test value p.entry ≡ p.entry = rw miss refl in
    ap (λ (x : Entry). (before ++ record p { entry = x } ∷ []) ++ after) entry ∙ sym (joined before after p)

-- the content stands for those that were passed, with the value where they are chosen, and those
-- that are left, for which there are the copies
pub record ValuesLeft (test : Entry → Bool) (value : List ℕ) (e : EntryPool) (n : NodePool) (v : ℕ) (c : Content) (copies : List (List ℕ)) (seen rest : List PlacedEntry) : Type 0 where
  pub content : IsContent e n v c (with_chosen_values test value seen ++ rest)
  pub copies_are : AreCopies test rest value copies

pub values_more : (test : Entry → Bool) (value : List ℕ) (seen : List PlacedEntry) (x : PlacedEntry) → with_chosen_values test value (seen ++ x ∷ []) ≡ with_chosen_values test value seen ++ with_chosen_values test value (x ∷ [])
values_more test value seen x = map-append (λ (p : PlacedEntry). record p { entry = with_value test value p.entry }) seen (x ∷ [])

-- the entry in a slot gets the last of the values, if the test chooses it
pub record GivesValue (test : Entry → Bool) (slot : ℕ) (e e' : EntryPool) (values values' : List (List ℕ)) : Type 0 where
  pub chosen : (s : StoredEntry) → get e slot ≡ Some s → test (stored_entry s) ≡ true → (value : List ℕ) × (values ≡ values' ++ value ∷ []) × Updates e e' slot (Some (record s { value = value }))
  pub other : (s : StoredEntry) → get e slot ≡ Some s → test (stored_entry s) ≡ false → (e' ≡ e) × (values' ≡ values)

-- what stands after it
pub record Given (test : Entry → Bool) (value : List ℕ) (e e' : EntryPool) (n : NodePool) (v : ℕ) (c : Content) (before : List PlacedEntry) (p : PlacedEntry) (after : List PlacedEntry) (values' : List (List ℕ)) : Type 0 where
  pub content : IsContent e' n v c ((before ++ with_chosen_values test value (p ∷ [])) ++ after)
  pub others : LeavesOthers v e e' n n
  pub copies : AreCopies test after value values'

module _ (test : Entry → Bool) (value : List ℕ) (e e' : EntryPool) (n : NodePool) (v : ℕ) (c : Content) (before : List PlacedEntry) (p : PlacedEntry) (after : List PlacedEntry) (slot : ℕ) (here : p.slot ≡ slot) (h : IsContent e n v c (before ++ p ∷ after)) (values values' : List (List ℕ)) (gives : GivesValue test slot e e' values values') (copies : AreCopies test (p ∷ after) value values) where
  abbrev old : StoredEntry
  old = (has_it e n v c before p after slot here h).0

  old_at : get e slot ≡ Some old
  old_at = is_at e n v c before p after slot here h

  old_is : stored_entry old ≡ p.entry
  old_is = (has_it e n v c before p after slot here h).3

  when_chosen : test p.entry ≡ true → Given test value e e' n v c before p after values'
  when_chosen hit =
      let count = chosen_more test p after hit in
      let all : values ≡ replicate (suc (chosen_count test (entries_of after))) value = copies ∙ ap (λ k. replicate k value) count in
      let update : (s : StoredEntry) → get e slot ≡ Some s → Updates e e' slot (Some (record s { value = value })) = λ s is.
      let both : Some old ≡ Some s = sym old_at ∙ is in
      let same : old ≡ s = cc in
      let g = gives.chosen s is (ap (λ x. test (stored_entry x)) (sym same) ∙ ap test old_is ∙ hit) in
      subst (λ x. Updates e e' slot (Some (record s { value = x }))) (replicated (chosen_count test (entries_of after)) value g.0 values' (sym all ∙ g.1)).1 g.2 in
      let g = gives.chosen old old_at (ap test old_is ∙ hit) in
      record {
        content = subst (IsContent e' n v c) (sym (given_is test value before p after hit)) (valued e e' n v c before p after slot value here h update);
        others = valued_others e e' n v c before p after slot value here h update;
        copies = (replicated (chosen_count test (entries_of after)) value g.0 values' (sym all ∙ g.1)).0;
      }

  when_other : test p.entry ≡ false → Given test value e e' n v c before p after values'
  when_other miss =
      let same = gives.other old old_at (ap test old_is ∙ miss) in
      record {
        content = subst (λ x. IsContent x n v c ((before ++ with_chosen_values test value (p ∷ [])) ++ after)) (sym same.0) (subst (IsContent e n v c) (sym (kept_is test value before p after miss)) h);
        others = subst (λ x. LeavesOthers v e x n n) (sym same.0) (leaves_self v e n);
        copies = same.1 ∙ copies ∙ ap (λ k. replicate k value) (other_more test p after miss);
      }

  pub given : Given test value e e' n v c before p after values'
  given = elim (cases_Bool (test p.entry)) as (λ _. Given test value e e' n v c before p after values') [ inl hit ↦ when_chosen hit | inr miss ↦ when_other miss ]

-- where the entry is chosen, there is a value for it
pub value_left : (test : Entry → Bool) (value : List ℕ) (p : PlacedEntry) (after : List PlacedEntry) (values : List (List ℕ)) → AreCopies test (p ∷ after) value values → test p.entry ≡ true → 0 < length values
value_left test value p after values copies hit =
    let count = chosen_more test p after hit in
    omega (arith, ap length copies, length-replicate (chosen_count test (entries_of (p ∷ after))) value, count)

-- as callers see it
pub shown_values : (test : Entry → Bool) (value : List ℕ) (placed : List PlacedEntry) → entries_of (with_chosen_values test value placed) ≡ map (with_value test value) (entries_of placed)
shown_values test value [] = refl
shown_values test value (x ∷ xs) = ap (λ ys. with_value test value x.entry ∷ ys) (shown_values test value xs)

-- ---- a live slot has an entry

pub live_has : (e : EntryPool) (slot : ℕ) → IsLive e slot → (s : StoredEntry) × (get e slot ≡ Some s)
live_has e slot live = go (get e slot) refl live
  where
    go : (o : Option StoredEntry) → get e slot ≡ o → IsSome o → (s : StoredEntry) × (get e slot ≡ Some s)
    go None is live = absurd (cc)
    go (Some s) is live = (s, is)
