-- One of the entries for which a content stands.
use Rattle.std.proofs.Common.{◌≡◌, ◌≢◌, ℕ, Bool, List, [], ◌∷◌, ◌++◌, length, map, get_or, Some, All, refl, sym, ap, subst, ◌∙◌, inl, inr, ne_eqb, eq-eqb}
use Rattle.std.specs.Prelude.{slice_get}
use Rattle.std.proofs.lemmas.List.{map-append}
use Rattle.std.proofs.lemmas.List.Elements.{All-nil, All-cons, All-head, All-tail}
use Rattle.hx_text.specs.declared.kinds.By.{By}
use Rattle.hx_pool.specs.Pool.{IsLive, get}
use Rattle.hx_pool.specs.Chain.{AreDistinct, IsIn, LiesIn}
use Rattle.hx_pool.proofs.LyingLemmas.{distinct_off}
use Rattle.hx_index.specs.Items.{Item, nodes_of, without_node}
use Rattle.hx_index.specs.Index.{NodePool}
use Rattle.hx_index.proofs.HoldingLemmas.{without_off}
use Rattle.hx_versions.specs.declared.content.Content.{Content}
use Rattle.hx_versions.specs.declared.stored_entry.StoredEntry.{StoredEntry}
use Rattle.hx_versions.specs.StoredEntries.{entry_links, stored_nodes}
use Rattle.hx_versions.specs.Contents.{AreItemsOfVersion, AreNodes, EntryPool, HasEntry, HasNodes, IsContent, IsOfVersion, PlacedEntry, item_of, items_of, slots_of, ways_of, without_numbers}
use Rattle.hx_versions.proofs.ContentLemmas.{entry_of_version, items_of_version, one_version, placed_at}
use Rattle.hx_versions.proofs.IndexListLemmas.{index_at, some_same}
use Rattle.hx_versions.proofs.WritingLemmas.{live_entry}

-- ---- what holds of each of a list, and of one of them

abbrev slot_of : PlacedEntry → ℕ
slot_of p = p.slot

pub all_one : (P : PlacedEntry → Type 0) (before : List PlacedEntry) (p : PlacedEntry) (after : List PlacedEntry) → All P (before ++ p ∷ after) → P p
all_one P [] p after all = All-head P p after all
all_one P (x ∷ before) p after all = all_one P before p after (All-tail P x (before ++ p ∷ after) all)

pub all_others : (P : PlacedEntry → Type 0) (before : List PlacedEntry) (p : PlacedEntry) (after : List PlacedEntry) → All P (before ++ p ∷ after) → All P (before ++ after)
all_others P [] p after all = All-tail P p after all
all_others P (x ∷ before) p after all =
    All-cons P x (before ++ after) (All-head P x (before ++ p ∷ after) all) (all_others P before p after (All-tail P x (before ++ p ∷ after) all))

-- another fact of each, which follows for those whose slots are in the list
pub all_placed : (P Q : PlacedEntry → Type 0) (placed : List PlacedEntry) → ((p : PlacedEntry) → IsIn p.slot (slots_of placed) → P p → Q p) → All P placed → All Q placed
all_placed P Q [] step all = All-nil Q
all_placed P Q (x ∷ xs) step all =
    All-cons Q x xs (step x (inl refl) (All-head P x xs all)) (all_placed P Q xs (λ p there. step p (inr there)) (All-tail P x xs all))

-- one more, between the others
pub all_with : (P : PlacedEntry → Type 0) (before : List PlacedEntry) (p : PlacedEntry) (after : List PlacedEntry) → All P (before ++ after) → P p → All P (before ++ p ∷ after)
all_with P [] p after all one = All-cons P p after one all
all_with P (x ∷ before) p after all one =
    All-cons P x (before ++ p ∷ after) (All-head P x (before ++ after) all) (all_with P before p after (All-tail P x (before ++ after) all) one)

pub slots_about : (before : List PlacedEntry) (p : PlacedEntry) (after : List PlacedEntry) → slots_of (before ++ p ∷ after) ≡ slots_of before ++ p.slot ∷ slots_of after
slots_about before p after = map-append slot_of before (p ∷ after)

pub slots_joined : (before after : List PlacedEntry) → slots_of (before ++ after) ≡ slots_of before ++ slots_of after
slots_joined before after = map-append slot_of before after

-- ---- the items of one index

pub node_in : (f : PlacedEntry → Item) (before : List PlacedEntry) (p : PlacedEntry) (after : List PlacedEntry) → IsIn (f p).node (nodes_of (map f (before ++ p ∷ after)))
node_in f [] p after = inl refl
node_in f (x ∷ before) p after = inr (node_in f before p after)

pub items_without : (f : PlacedEntry → Item) (before : List PlacedEntry) (p : PlacedEntry) (after : List PlacedEntry) → AreDistinct (nodes_of (map f (before ++ p ∷ after))) → without_node (f p).node (map f (before ++ p ∷ after)) ≡ map f (before ++ after)
items_without f [] p after d = rw (eq-eqb (f p).node (f p).node refl) (without_off (f p).node (map f after) d.0)
items_without f (x ∷ before) p after d =
    let other : ((f x).node ≡ (f p).node) → ⊥ = λ same. d.0 (subst (λ k. IsIn k (nodes_of (map f (before ++ p ∷ after)))) (sym same) (node_in f before p after)) in
    rw (ne_eqb (f x).node (f p).node other) (ap (λ ys. f x ∷ ys) (items_without f before p after d.1))

-- the nodes of an entry are of its indexes
pub nodes_are : (ways : List (By × Bool)) (numbers : List ℕ) (before : List PlacedEntry) (p : PlacedEntry) (after : List PlacedEntry) → numbers ≡ p.nodes → AreNodes ways numbers (items_of (before ++ p ∷ after))
nodes_are ways numbers before p after same at way is =
    subst (λ ns. IsIn (get_or ns at 0) (nodes_of (items_of (before ++ p ∷ after) at way.0 way.1))) (sym same) (node_in (item_of at way.0 way.1) before p after)

-- ---- an entry of a content

module _ (e : EntryPool) (n : NodePool) (v : ℕ) (c : Content) (before : List PlacedEntry) (p : PlacedEntry) (after : List PlacedEntry) (slot : ℕ) (here : p.slot ≡ slot) (h : IsContent e n v c (before ++ p ∷ after)) where
  pub has_it : HasEntry e v p
  has_it = all_one (HasEntry e v) before p after h.found

  pub is_at : get e slot ≡ Some has_it.0
  is_at = ap (get e) (sym here) ∙ has_it.1

  pub entry_live : IsLive e slot
  entry_live = live_entry e slot has_it.0 is_at

  pub entry_nodes : (s : StoredEntry) → get e slot ≡ Some s → stored_nodes s ≡ p.nodes
  entry_nodes s is = ap stored_nodes (some_same s has_it.0 (sym is ∙ is_at)) ∙ has_it.4

  pub nodes_count : length p.nodes ≡ length c.indexes.items
  nodes_count = all_one (HasNodes (length c.indexes.items)) before p after h.whole

  pub entry_owned : AreItemsOfVersion e v (ways_of c.indexes.items) (items_of (before ++ p ∷ after))
  entry_owned at way is = items_of_version e v (before ++ p ∷ after) at way.0 way.1 h.found

  -- its slot stands in the chain, and is none of the others
  pub chain_about : LiesIn entry_links e c.entries (slots_of before ++ slot ∷ slots_of after)
  chain_about =
      subst (λ s. LiesIn entry_links e c.entries (slots_of before ++ s ∷ slots_of after)) here
      (subst (LiesIn entry_links e c.entries) (slots_about before p after) h.chain)

  pub slot_off : IsIn slot (slots_of before ++ slots_of after) → ⊥
  slot_off = distinct_off (slots_of before) slot (slots_of after) chain_about.distinct

  -- the items of the index at a position, without the entry's
  pub items_less : (numbers : List ℕ) → numbers ≡ p.nodes → (at : ℕ) (way : By × Bool) → slice_get (ways_of c.indexes.items) at ≡ Some way → items_of (before ++ after) at way.0 way.1 ≡ without_numbers numbers (items_of (before ++ p ∷ after)) at way.0 way.1
  items_less numbers same at way is =
      let index = index_at c.indexes.items at way is in
      let distinct = subst (λ (w : By × Bool). AreDistinct (nodes_of (items_of (before ++ p ∷ after) at w.0 w.1))) index.2 (h.indexes.holds at index.0 index.1).distinct in
      sym (ap (λ ns. without_node (get_or ns at 0) (items_of (before ++ p ∷ after) at way.0 way.1)) same
      ∙ items_without (item_of at way.0 way.1) before p after distinct)

  -- a slot that has an entry of another version is neither its nor one of the others
  pub other_slot : (k : ℕ) (stored : StoredEntry) → get e k ≡ Some stored → stored.version ≢ v → k ≢ slot
  other_slot k stored is other same =
      other (one_version e stored.version v k (stored, is, refl) (subst (IsOfVersion e v) (here ∙ sym same) (entry_of_version e v p has_it)))

  pub other_off : (k : ℕ) (stored : StoredEntry) → get e k ≡ Some stored → stored.version ≢ v → IsIn k (slots_of before ++ slots_of after) → ⊥
  other_off k stored is other there =
      let at = placed_at (HasEntry e v) (before ++ after) k (all_others (HasEntry e v) before p after h.found) (subst (IsIn k) (sym (slots_joined before after)) there) in
      other (one_version e stored.version v k (stored, is, refl) (subst (IsOfVersion e v) (sym at.1) (entry_of_version e v at.0 at.2)))
