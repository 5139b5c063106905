-- The entry that an index finds is the one that is found among the entries.
use Rattle.std.proofs.Common.{◌≡◌, ℕ, ◌+◌, ◌*◌, ◌<◌, Bool, false, List, [], ◌∷◌, length, map, get_or, filter, ◌==◌, Option, Some, None, All, refl, sym, ap, subst, ◌∙◌, option_map}
use Rattle.std.specs.Prelude.{slice_get}
use Rattle.std.proofs.lemmas.List.Elements.{All-head, All-filter}
use Rattle.std.proofs.lemmas.Option.{slice_get_read}
use Rattle.hx_text.specs.declared.kinds.By.{By}
use Rattle.hx_text.specs.declared.kinds.By.TheVariants as by
use Rattle.hx_pool.specs.Pool.{IsLive, get}
use Rattle.hx_sample.specs.declared.sample.Value.{Value}
use Rattle.hx_sample.specs.declared.sample.Value.TheVariants as value
use Rattle.hx_sample.specs.Find.{Entry, first_item, found_entry, greatest, nearness, prefix_width}
use Rattle.hx_sample.specs.Keys.{hits}
use Rattle.hx_index.specs.declared.index.Index.{Index}
use Rattle.hx_index.specs.Items.{shown_item}
use Rattle.hx_index.specs.Index.{NodePool, entry_found, ignores_case, listed_count, method_of, tree_steps}
use Rattle.hx_index.proofs.FoundItemLemmas.{found_item, found_shown, network_measure, preferred_items}
use Rattle.hx_versions.specs.declared.content.Content.{Content}
use Rattle.hx_versions.specs.declared.stored_entry.StoredEntry.{StoredEntry}
use Rattle.hx_versions.specs.StoredEntries.{stored_entry}
use Rattle.hx_versions.specs.Contents.{EntryPool, HasEntry, IsContent, PlacedEntry, entries_of, item_of, items_of, ways_of}
use Rattle.hx_versions.proofs.IndexListLemmas.{some_same, way_of, ways_get}
use Rattle.hx_versions.proofs.WritingLemmas.{live_entry}

abbrev key_of : PlacedEntry → List ℕ
key_of p = p.entry.key

abbrev found_placed : By → Bool → List PlacedEntry → Value → Option PlacedEntry
found_placed method ci placed v = found_item key_of method ci placed v

-- ---- it is one of the entries

first_of : (P : PlacedEntry → Type 0) (placed : List PlacedEntry) (p : PlacedEntry) → All P placed → first_item placed ≡ Some p → P p
first_of P [] p all e = absurd (cc)
first_of P (x ∷ xs) p all e = subst P (some_same x p e) (All-head P x xs all)

preferred_of : (P : PlacedEntry → Type 0) (method : By) (ci : Bool) (v : Value) (placed : List PlacedEntry) → All P placed → All P (preferred_items key_of method ci v placed)
preferred_of P by.Beg false v placed all =
    All-filter (λ (p : PlacedEntry). length (key_of p) == greatest (λ (q : PlacedEntry). length (key_of q)) placed) P placed all
preferred_of P by.Ip ci (value.Ip ip) placed all =
    let near = network_measure key_of (nearness ip) in
    let wide = network_measure key_of prefix_width in
    let nearest = filter (λ p. near p == greatest near placed) placed in
    All-filter (λ p. wide p == greatest wide nearest) P nearest (All-filter (λ p. near p == greatest near placed) P placed all)
preferred_of P _ ci v placed all = all

found_of : (P : PlacedEntry → Type 0) (method : By) (ci : Bool) (placed : List PlacedEntry) (v : Value) (p : PlacedEntry) → All P placed → found_placed method ci placed v ≡ Some p → P p
found_of P method ci placed v p all e =
    let hitting = filter (λ (q : PlacedEntry). hits method ci (key_of q) v) placed in
    first_of P (preferred_items key_of method ci v hitting) p
    (preferred_of P method ci v hitting (All-filter (λ (q : PlacedEntry). hits method ci (key_of q) v) P placed all)) e

-- ---- as the index sees it, and as callers do

map_twice : {A B C : Type 0} (f : A → B) (g : B → C) (xs : List A) → map g (map f xs) ≡ map (λ x. g (f x)) xs
map_twice f g [] = refl
map_twice f g (x ∷ xs) = ap (λ ys. g (f x) ∷ ys) (map_twice f g xs)

number_of : (at : ℕ) (method : By) (ci : Bool) (o : Option PlacedEntry) → option_map (λ (entry : Entry). entry.number) (option_map (λ (p : PlacedEntry). shown_item (item_of at method ci p)) o) ≡ option_map (λ (p : PlacedEntry). p.slot) o
number_of at method ci None = refl
number_of at method ci (Some p) = refl

by_index : (index : Index) (at : ℕ) (placed : List PlacedEntry) (v : Value) → entry_found index (items_of placed at (method_of index) (ignores_case index)) v ≡ option_map (λ (p : PlacedEntry). p.slot) (found_placed (method_of index) (ignores_case index) placed v)
by_index index at placed v =
    let method = method_of index in
    let ci = ignores_case index in
    let shown = λ (p : PlacedEntry). shown_item (item_of at method ci p) in
    ap (λ xs. option_map (λ (entry : Entry). entry.number) (found_entry method ci xs v)) (map_twice (item_of at method ci) shown_item placed)
    ∙ ap (option_map (λ (entry : Entry). entry.number)) (found_shown shown method ci placed v)
    ∙ number_of at method ci (found_placed method ci placed v)

by_entry : (method : By) (ci : Bool) (placed : List PlacedEntry) (v : Value) → found_entry method ci (entries_of placed) v ≡ option_map (λ (p : PlacedEntry). p.entry) (found_placed method ci placed v)
by_entry method ci placed v = found_shown (λ (p : PlacedEntry). p.entry) method ci placed v

module _ (e : EntryPool) (n : NodePool) (v : ℕ) (c : Content) (placed : List PlacedEntry) (h : IsContent e n v c placed) (index : Index) (at : ℕ) (sought : Value) where
  abbrev found : Option PlacedEntry
  found = found_placed (method_of index) (ignores_case index) placed sought

  -- the entry is in the slot that the index finds
  pub slot_found : (slot : ℕ) → Some slot ≡ entry_found index (items_of placed at (method_of index) (ignores_case index)) sought → (s : StoredEntry) × (get e slot ≡ Some s) × (Some (stored_entry s) ≡ found_entry (method_of index) (ignores_case index) (entries_of placed) sought)
  slot_found slot is = go found refl
    where
      go : (o : Option PlacedEntry) → found_placed (method_of index) (ignores_case index) placed sought ≡ o → (s : StoredEntry) × (get e slot ≡ Some s) × (Some (stored_entry s) ≡ found_entry (method_of index) (ignores_case index) (entries_of placed) sought)
      go None none =
          let lost : Some slot ≡ None = is ∙ by_index index at placed sought ∙ ap (option_map (λ (p : PlacedEntry). p.slot)) none in
          absurd (cc)
      go (Some p) some =
          let here : slot ≡ p.slot = some_same slot p.slot (is ∙ by_index index at placed sought ∙ ap (option_map (λ (q : PlacedEntry). q.slot)) some) in
          let has = found_of (HasEntry e v) (method_of index) (ignores_case index) placed sought p h.found some in (
            has.0,
            ap (get e) here ∙ has.1,
            ap Some has.3 ∙ sym (by_entry (method_of index) (ignores_case index) placed sought ∙ ap (option_map (λ (q : PlacedEntry). q.entry)) some),
          )

  pub slot_live : (slot : ℕ) → Some slot ≡ entry_found index (items_of placed at (method_of index) (ignores_case index)) sought → IsLive e slot
  slot_live slot is = let has = slot_found slot is in live_entry e slot has.0 has.1

  pub entry_is : (slot : ℕ) (s : StoredEntry) → Some slot ≡ entry_found index (items_of placed at (method_of index) (ignores_case index)) sought → get e slot ≡ Some s → Some (stored_entry s) ≡ found_entry (method_of index) (ignores_case index) (entries_of placed) sought
  entry_is slot s is at_slot =
      let has = slot_found slot is in
      ap (λ (x : StoredEntry). Some (stored_entry x)) (some_same s has.0 (sym at_slot ∙ has.1)) ∙ has.2

  pub none_is : None ≡ entry_found index (items_of placed at (method_of index) (ignores_case index)) sought → None ≡ found_entry (method_of index) (ignores_case index) (entries_of placed) sought
  none_is is = go found refl
    where
      go : (o : Option PlacedEntry) → found_placed (method_of index) (ignores_case index) placed sought ≡ o → None ≡ found_entry (method_of index) (ignores_case index) (entries_of placed) sought
      go None none = sym (by_entry (method_of index) (ignores_case index) placed sought ∙ ap (option_map (λ (q : PlacedEntry). q.entry)) none)
      go (Some p) some =
          let lost : None ≡ Some p.slot = is ∙ by_index index at placed sought ∙ ap (option_map (λ (q : PlacedEntry). q.slot)) some in
          absurd (cc)

-- the way at the position of an index is its own
pub way_here : (indexes : List Index) (at : ℕ) (index : Index) (way : By × Bool) → at < length indexes → index ≡ get_or indexes at index → slice_get (ways_of indexes) at ≡ Some way → way_of index ≡ way
way_here indexes at index way within read is =
    some_same (way_of index) way (sym (ways_get indexes at index (slice_get_read indexes (length indexes) at index refl within read)) ∙ is)

-- the steps of a search through the index are those of its way
pub steps_here : (indexes : List Index) (at : ℕ) (index : Index) (way : By × Bool) (placed : List PlacedEntry) (sought : Value) → way_of index ≡ way → tree_steps (method_of index) (ignores_case index) sought + 2 * listed_count (items_of placed at (method_of index) (ignores_case index)) ≡ tree_steps way.0 way.1 sought + 2 * listed_count (items_of placed at way.0 way.1)
steps_here indexes at index way placed sought same =
    ap (λ (w : By × Bool). tree_steps w.0 w.1 sought + 2 * listed_count (items_of placed at w.0 w.1)) same
