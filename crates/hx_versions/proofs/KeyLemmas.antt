-- Entries of a content that are found by their key.
use Rattle.std.proofs.Common.{◌≡◌, ℕ, zero, suc, ◌+◌, ◌<◌, Bool, true, false, List, [], ◌∷◌, length, get_or, Some, refl, sym, ap, subst, ◌∙◌, arith, inl, inr, true≢false}
use Rattle.std.proofs.lemmas.Bool.{cases_lt}
use Rattle.std.specs.Prelude.{slice_get}
use Rattle.std.proofs.lemmas.Option.{slice_get_read}
use Rattle.std.proofs.lemmas.List.Elements.{All-cons, All-nil}
use Rattle.hx_text.specs.declared.kinds.By.{By}
use Rattle.hx_index.specs.declared.index.Index.{Index}
use Rattle.hx_index.specs.Index.{entry_with, ignores_case, keeps_texts, method_of}
use Rattle.hx_sample.specs.Changes.{has_key}
use Rattle.hx_sample.specs.Find.{Entry}
use Rattle.hx_versions.specs.Contents.{IsReached, KeepsTextsAt, PlacedEntry, Way, first_chosen, items_of, ways_of}
use Rattle.hx_versions.proofs.FindLemmas.{way_here}
use Rattle.hx_versions.proofs.IndexListLemmas.{index_at, way_of, ways_get}

-- ---- the index at the position

within_list : {X : Type 0} (xs : List X) (at : ℕ) (x : X) → slice_get xs at ≡ Some x
    → at < length xs
within_list [] at x is = absurd (cc)
within_list (y ∷ xs) zero x is = omega arith
within_list (y ∷ xs) (suc at) x is = omega (arith, within_list xs at x is)

pub is_within : (indexes : List Index) (at : ℕ) → KeepsTextsAt (ways_of indexes) at
    → at < length indexes
is_within indexes at keeps =
    let r = index_at indexes at keeps.0 keeps.1 in within_list indexes at r.0 r.1

-- the index that is read keeps texts
pub read_keeps : (indexes : List Index) (at : ℕ) (index : Index) → index ≡ get_or indexes at index
    → KeepsTextsAt (ways_of indexes) at
    → keeps_texts (method_of index) (ignores_case index) ≡ true
read_keeps indexes at index read keeps =
    subst (λ (way : By × Bool). keeps_texts way.0 way.1 ≡ true)
    (sym (way_here indexes at index keeps.0 (is_within indexes at keeps) read keeps.1)) keeps.2

-- an index that keeps texts, where it is read
pub keeps_here : (indexes : List Index) (at : ℕ) (index : Index) → at < length indexes
    → index ≡ get_or indexes at index → keeps_texts (method_of index) (ignores_case index) ≡ true
    → KeepsTextsAt (ways_of indexes) at
keeps_here indexes at index within read keeps = (
  way_of index,
  ways_get indexes at index (slice_get_read indexes (length indexes) at index refl within read),
  keeps,
)

-- keys are found whole through none of the first so many indexes
abbrev pub NoneKeeps : List (By × Bool) → ℕ → Type 0
NoneKeeps ways count = (at : ℕ) → at < count → KeepsTextsAt ways at → ⊥

pub none_first : (ways : List (By × Bool)) → NoneKeeps ways 0
none_first ways at below keeps = omega (arith, below)

pub none_more : (indexes : List Index) (count : ℕ) (index : Index) → count < length indexes
    → index ≡ get_or indexes count index
    → keeps_texts (method_of index) (ignores_case index) ≡ false
    → NoneKeeps (ways_of indexes) count → NoneKeeps (ways_of indexes) (count + 1)
none_more indexes count index within read misses before at below keeps =
    elim (cases_lt at count) as (λ _. ⊥) [
      | inl earlier ↦ before at earlier keeps
      | inr later ↦
          let same : at ≡ count = omega (arith, below, later) in
          let mine = subst (KeepsTextsAt (ways_of indexes)) same keeps in
          true≢false (sym (read_keeps indexes count index read mine) ∙ misses)
    ]

-- ---- the first entry that is chosen

first_step : (b : Bool) (at : ℕ) (method : By) (ci : Bool) (p : PlacedEntry)
    (key : List ℕ) (placed : List PlacedEntry)
    → entry_with key (items_of placed at method ci) ≡ first_chosen (has_key key) placed
    → has_key key p.entry ≡ b
    → entry_with key (items_of (p ∷ placed) at method ci) ≡ first_chosen (has_key key) (p ∷ placed)
first_step true at method ci p key placed rest hit = rw hit refl
first_step false at method ci p key placed rest miss = rw miss rest

-- the first entry with a key is that of the first item with that text
pub first_is : (at : ℕ) (method : By) (ci : Bool) (key : List ℕ) (placed : List PlacedEntry)
    → entry_with key (items_of placed at method ci) ≡ first_chosen (has_key key) placed
first_is at method ci key [] = refl
first_is at method ci key (p ∷ placed) =
    first_step (has_key key p.entry) at method ci p key placed (first_is at method ci key placed)
    refl

module _ (way : Way) (test : Entry → Bool) where
  split_step : (b : Bool) (p : PlacedEntry) (placed : List PlacedEntry) (slot : ℕ)
      → test p.entry ≡ b → first_chosen test (p ∷ placed) ≡ Some slot
      → (first_chosen test placed ≡ Some slot → IsReached way test slot placed)
      → IsReached way test slot (p ∷ placed)
  split_step true p placed slot hit is rest =
      let some : Some p.slot ≡ Some slot = rw hit at is in
      let here : p.slot ≡ slot = cc in
      record {
        before = [];
        entry = p;
        after = placed;
        is = refl;
        here = here;
        chosen = λ some. hit;
        passed = All-nil (λ (q : PlacedEntry). test q.entry ≡ false);
      }
  split_step false p placed slot miss is rest =
      let r = rest (rw miss at is) in
      record {
        before = p ∷ r.before;
        entry = r.entry;
        after = r.after;
        is = ap (λ xs. p ∷ xs) r.is;
        here = r.here;
        chosen = r.chosen;
        passed = All-cons (λ (q : PlacedEntry). test q.entry ≡ false) p r.before miss r.passed;
      }

  pub first_splits : (placed : List PlacedEntry) (slot : ℕ) → first_chosen test placed ≡ Some slot
      → IsReached way test slot placed
  first_splits [] slot is = absurd (cc)
  first_splits (p ∷ placed) slot is =
      split_step (test p.entry) p placed slot refl is (first_splits placed slot)
