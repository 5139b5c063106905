-- A content whose version waits for its slots to be given back.
use Rattle.std.proofs.Common.{◌≡◌, ◌≢◌, ℕ, zero, suc, ◌+◌, ◌*◌, Bool, List, [], ◌∷◌, ◌++◌, length, map, get_or, Option, Some, None, All, refl, sym, ap, subst, ◌∙◌, arith}
use Rattle.std.specs.List.{sum_by}
use Rattle.std.specs.Prelude.{slice_get, sum}
use Rattle.std.proofs.lemmas.List.{length-map}
use Rattle.std.proofs.lemmas.List.Elements.{All-nil, All-cons, All-weaker}
use Rattle.std.proofs.lemmas.List.Sums.{sum_by-cons}
use Rattle.hx_text.specs.declared.kinds.By.{By}
use Rattle.hx_index.specs.Items.{Item}
use Rattle.hx_index.specs.Index.{NodePool}
use Rattle.hx_versions.specs.declared.content.Content.{Content}
use Rattle.hx_versions.specs.Contents.{EntryPool, HasEntry, IsContent, IsOfVersion, IsRetired, PlacedEntry, Remains, item_of, items_of, remaining_items, remaining_slots, slots_of, ways_of}
use Rattle.hx_versions.specs.Store.{item_lists, whole_of}
use Rattle.hx_versions.proofs.ContentLemmas.{entry_of_version, items_of_version}
use Rattle.hx_versions.proofs.IndexListLemmas.{some_same, stand_same}

lists_many : (placed : List PlacedEntry) (at : ℕ) (ways : List (By × Bool)) → length (item_lists placed at ways) ≡ length ways
lists_many placed at [] = refl
lists_many placed at (way ∷ ways) = ap suc (lists_many placed (suc at) ways)

list_there : (placed : List PlacedEntry) (at k : ℕ) (ways : List (By × Bool)) (way : By × Bool) → slice_get ways k ≡ Some way → get_or (item_lists placed at ways) k [] ≡ items_of placed (at + k) way.0 way.1
list_there placed at k [] way is = absurd (cc)
list_there placed at zero (w ∷ ways) way is =
    let same : w ≡ way = some_same w way is in
    let here : at ≡ at + 0 = omega arith in
    ap (λ (x : By × Bool). items_of placed at x.0 x.1) same ∙ ap (λ i. items_of placed i way.0 way.1) here
list_there placed at (suc k) (w ∷ ways) way is =
    let next : suc at + k ≡ at + suc k = omega arith in
    list_there placed (suc at) k ways way is ∙ ap (λ i. items_of placed i way.0 way.1) next

lists_owned : (e : EntryPool) (v : ℕ) (placed : List PlacedEntry) (at : ℕ) (ways : List (By × Bool)) → All (HasEntry e v) placed → All (All (λ (item : Item). IsOfVersion e v item.entry)) (item_lists placed at ways)
lists_owned e v placed at [] found = All-nil (All (λ (item : Item). IsOfVersion e v item.entry))
lists_owned e v placed at (way ∷ ways) found =
    All-cons (All (λ (item : Item). IsOfVersion e v item.entry)) (items_of placed at way.0 way.1) (item_lists placed (suc at) ways)
    (items_of_version e v placed at way.0 way.1 found) (lists_owned e v placed (suc at) ways found)

slots_owned : (e : EntryPool) (v : ℕ) (placed : List PlacedEntry) → All (HasEntry e v) placed → All (IsOfVersion e v) (slots_of placed)
slots_owned e v [] found = All-nil (IsOfVersion e v)
slots_owned e v (x ∷ xs) found =
    All-cons (IsOfVersion e v) x.slot (slots_of xs) (entry_of_version e v x (All-first x xs found)) (slots_owned e v xs (All-rest x xs found))
  where
    All-first : (y : PlacedEntry) (ys : List PlacedEntry) → All (HasEntry e v) (y ∷ ys) → HasEntry e v y
    All-first y ys all = all 0 y (omega arith)

    All-rest : (y : PlacedEntry) (ys : List PlacedEntry) → All (HasEntry e v) (y ∷ ys) → All (HasEntry e v) ys
    All-rest y ys all = λ k d below. all (suc k) d (omega (arith, below))

-- where a content stands, all of it is left
pub retire : (e : EntryPool) (n : NodePool) (v : ℕ) (c : Content) (placed : List PlacedEntry) → IsContent e n v c placed → IsRetired e n v c (whole_of c placed)
retire e n v c placed h = record {
  chain = h.chain;
  found = slots_owned e v placed h.found;
  lists = lists_many placed 0 (ways_of c.indexes.items) ∙ length-map c.indexes.items _;
  indexes = stand_same n c.indexes.items (items_of placed) (remaining_items (item_lists placed 0 (ways_of c.indexes.items)))
      (λ at way is. list_there placed 0 at (ways_of c.indexes.items) way is ∙ ap (λ i. items_of placed i way.0 way.1) (zero_plus at)) h.indexes;
  owned = lists_owned e v placed 0 (ways_of c.indexes.items) h.found;
}
  where
    zero_plus : (k : ℕ) → 0 + k ≡ k
    zero_plus k = omega arith

-- ---- counts

items_counted : (placed : List PlacedEntry) (at : ℕ) (ways : List (By × Bool)) → sum (map length (item_lists placed at ways)) ≡ length placed * length ways
items_counted placed at [] = omega arith
items_counted placed at (way ∷ ways) =
    let first : length (items_of placed at way.0 way.1) ≡ length placed = length-map placed (item_of at way.0 way.1) in
    let rest = items_counted placed (suc at) ways in
    let whole = sum_by-cons (λ k. k) (length (items_of placed at way.0 way.1)) (map length (item_lists placed (suc at) ways)) in
    whole ∙ ap (λ k. k + sum (map length (item_lists placed (suc at) ways))) first
    ∙ ap (λ k. length placed + k) rest ∙ omega (arith, more (length placed) (length ways))
  where
    more : (a b : ℕ) → a * suc b ≡ a + a * b
    more a b = omega arith

pub whole_counted : (c : Content) (placed : List PlacedEntry) → remaining_slots (whole_of c placed) ≡ length placed * (1 + length (ways_of c.indexes.items))
whole_counted c placed =
    let slots = length-map placed (λ (p : PlacedEntry). p.slot) in
    let items = items_counted placed 0 (ways_of c.indexes.items) in
    ap (λ k. k + sum (map length (item_lists placed 0 (ways_of c.indexes.items)))) slots
    ∙ ap (λ k. length placed + k) items ∙ more (length placed) (length (ways_of c.indexes.items))
  where
    more : (a b : ℕ) → a + a * b ≡ a * (1 + b)
    more a b = omega arith
