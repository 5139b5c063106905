-- What the content of a version stands for, and that it stands as before where a step leaves its
-- entries and their nodes.
use Rattle.std.proofs.Common.{◌≡◌, ◌≢◌, ℕ, zero, suc, Bool, List, [], ◌∷◌, length, map, get_or, Option, Some, All, refl, sym, ap, subst, ◌∙◌, inl, inr}
use Rattle.std.specs.List.{cons_option, filter_map}
use Rattle.std.specs.Option.{option_map}
use Rattle.std.specs.Prelude.{slice_get}
use Rattle.std.proofs.lemmas.List.{length-map}
use Rattle.std.proofs.lemmas.List.Elements.{All-nil, All-head, All-tail, All-map, All-weaker}
use Rattle.hx_pool.specs.Pool.{get, SameValues}
use Rattle.hx_pool.specs.declared.links.Links.{Links}
use Rattle.hx_pool.specs.Chain.{IsIn, LiesAt, LiesIn, numbers_in}
use Rattle.hx_pool.proofs.ListLemmas.{lies_kept, lies_numbers}
use Rattle.hx_ebtree.specs.declared.node.Node.{Node}
use Rattle.hx_ebtree.specs.Node.{entry_of}
use Rattle.hx_match.specs.Patterns.{PatternText}
use Rattle.hx_index.specs.declared.index.Index.{Index}
use Rattle.hx_index.specs.Items.{Item, nodes_of}
use Rattle.hx_index.specs.Index.{HasNode, Holds, NodePool, ignores_case, method_of}
use Rattle.hx_index.proofs.ItemLemmas.{item_at}
use Rattle.hx_index.proofs.HoldingLemmas.{holds_frame}
use Rattle.hx_versions.specs.declared.content.Content.{Content}
use Rattle.hx_versions.specs.declared.stored_entry.StoredEntry.{StoredEntry}
use Rattle.hx_versions.specs.StoredEntries.{entry_links, stored_entry}
use Rattle.hx_versions.specs.Contents.{EntryPool, HasEntry, IsContent, IsOfVersion, IsRetired, KeepsContent, LeavesOthers, Listing, PlacedEntry, Remains, StandIn, content_entries, entries_of, entry_in, items_of, item_of, remaining_items, slots_of}

-- ---- entries in their slots

-- an entry whose slot it is, of which P holds
pub placed_at : (P : PlacedEntry → Type 0) (placed : List PlacedEntry) (k : ℕ) → All P placed → IsIn k (slots_of placed) → (p : PlacedEntry) × (k ≡ p.slot) × P p
placed_at P [] k all there = absurd there
placed_at P (x ∷ xs) k all (inl same) = (x, same, All-head P x xs all)
placed_at P (x ∷ xs) k all (inr there) = placed_at P xs k (All-tail P x xs all) there

entry_read : (e : EntryPool) (v : ℕ) (p : PlacedEntry) → HasEntry e v p → entry_in e p.slot ≡ Some p.entry
entry_read e v p has = ap (option_map stored_entry) has.1 ∙ ap Some has.3

entries_read : (e : EntryPool) (v : ℕ) (placed : List PlacedEntry) → All (HasEntry e v) placed → filter_map (entry_in e) (slots_of placed) ≡ entries_of placed
entries_read e v [] all = refl
entries_read e v (x ∷ xs) all =
    ap (λ o. cons_option o (filter_map (entry_in e) (slots_of xs))) (entry_read e v x (All-head (HasEntry e v) x xs all))
    ∙ ap (λ ys. x.entry ∷ ys) (entries_read e v xs (All-tail (HasEntry e v) x xs all))

-- what callers see of a content is what it stands for
pub content_view : (e : EntryPool) (n : NodePool) (v : ℕ) (c : Content) (placed : List PlacedEntry) → IsContent e n v c placed → content_entries e c ≡ entries_of placed
content_view e n v c placed h =
    let slot = λ (p : PlacedEntry). p.slot in
    let many : c.count ≡ length (slots_of placed) = h.count ∙ sym (length-map placed slot) in
    ap (filter_map (entry_in e)) (ap (numbers_in entry_links e c.entries) many ∙ lies_numbers entry_links e c.entries (slots_of placed) h.chain)
    ∙ entries_read e v placed h.found

-- ---- entries of a version

pub entry_of_version : (e : EntryPool) (v : ℕ) (p : PlacedEntry) → HasEntry e v p → IsOfVersion e v p.slot
entry_of_version e v p has = (has.0, has.1, has.2)

-- an entry that has a version has no other
pub one_version : (e : EntryPool) (v w slot : ℕ) → IsOfVersion e v slot → IsOfVersion e w slot → v ≡ w
one_version e v w slot a b =
    let some : Some a.0 ≡ Some b.0 = sym a.1 ∙ b.1 in
    let same : a.0 ≡ b.0 = cc in
    sym a.2 ∙ ap (λ (x : StoredEntry). x.version) same ∙ b.2

-- so are all items of a content
pub items_of_version : (e : EntryPool) (v : ℕ) (placed : List PlacedEntry) (at : ℕ) (method : _) (ci : Bool) → All (HasEntry e v) placed → All (λ (item : Item). IsOfVersion e v item.entry) (items_of placed at method ci)
items_of_version e v placed at method ci all =
    All-map (λ (item : Item). IsOfVersion e v item.entry) (item_of at method ci) placed (All-weaker (HasEntry e v) (λ p. IsOfVersion e v p.slot) (entry_of_version e v) placed all)

-- and those that are left of one
pub remaining_of_version : (P : Item → Type 0) (lists : List (List Item)) (at : ℕ) → All (All P) lists → All P (get_or lists at [])
remaining_of_version P [] at all = All-nil P
remaining_of_version P (xs ∷ lists) zero all = All-head (All P) xs lists all
remaining_of_version P (xs ∷ lists) (suc at) all = remaining_of_version P lists at (All-tail (All P) xs lists all)

-- ---- a step that leaves a content

module _ (w : ℕ) (e e' : EntryPool) (n n' : NodePool) (keeps : KeepsContent w e e' n n') where
  pub slot_same : (slot : ℕ) → IsOfVersion e w slot → get e' slot ≡ get e slot
  slot_same slot own = keeps.of_entries slot own.0 own.1 own.2 ∙ sym own.1

  node_same : (item : Item) → HasNode n item → IsOfVersion e w item.entry → get n' item.node ≡ get n item.node
  node_same item has own =
      keeps.of_nodes item.node has.0 own.0 has.1 (ap (get e) has.2 ∙ own.1) own.2 ∙ sym has.1

  -- an index of its entries stands as before
  pub index_frame : (index : Index) (items : List Item) → All (λ (item : Item). IsOfVersion e w item.entry) items → Holds n index items → Holds n' index items
  index_frame index items owned h =
      holds_frame n n' index items (λ k there.
      let both : All (λ (item : Item). HasNode n item × IsOfVersion e w item.entry) items = λ i d below. (h.found i d below, owned i d below) in
      let at = item_at (λ (item : Item). HasNode n item × IsOfVersion e w item.entry) items k both there in
      ap (get n') at.1 ∙ node_same at.0 at.2.0 at.2.1 ∙ ap (get n) (sym at.1)) h

  indexes_frame : (indexes : List Index) (items : Listing) → ((at : ℕ) (method : _) (ci : Bool) → All (λ (item : Item). IsOfVersion e w item.entry) (items at method ci)) → StandIn n indexes items → StandIn n' indexes items
  indexes_frame indexes items owned h = record {
    apart = h.apart;
    holds = λ at index is. index_frame index (items at (method_of index) (ignores_case index)) (owned at (method_of index) (ignores_case index)) (h.holds at index is);
  }

  entry_frame : (p : PlacedEntry) → HasEntry e w p → HasEntry e' w p
  entry_frame p has = (has.0, slot_same p.slot (has.0, has.1, has.2) ∙ has.1, has.2, has.3, has.4)

  of_version_frame : (slot : ℕ) → IsOfVersion e w slot → IsOfVersion e' w slot
  of_version_frame slot own = (own.0, slot_same slot own ∙ own.1, own.2)

  -- the content stands as before
  pub content_frame : (c : Content) (placed : List PlacedEntry) → IsContent e n w c placed → IsContent e' n' w c placed
  content_frame c placed h = record {
    chain = lies_kept entry_links e e' c.entries (slots_of placed) h.chain (λ k there.
        let at = placed_at (HasEntry e w) placed k h.found there in
        ap (get e') at.1 ∙ slot_same at.0.slot (entry_of_version e w at.0 at.2) ∙ ap (get e) (sym at.1));
    count = h.count;
    found = All-weaker (HasEntry e w) (HasEntry e' w) entry_frame placed h.found;
    whole = h.whole;
    indexes = indexes_frame c.indexes.items (items_of placed) (λ at method ci. items_of_version e w placed at method ci h.found) h.indexes;
  }

  slots_same : (slots : List ℕ) (k : ℕ) → All (IsOfVersion e w) slots → IsIn k slots → get e' k ≡ get e k
  slots_same [] k all there = absurd there
  slots_same (x ∷ xs) k all (inl same) = ap (get e') same ∙ slot_same x (All-head (IsOfVersion e w) x xs all) ∙ ap (get e) (sym same)
  slots_same (x ∷ xs) k all (inr there) = slots_same xs k (All-tail (IsOfVersion e w) x xs all) there

  -- and so does what is left of one
  pub retired_frame : (c : Content) (left : Remains) → IsRetired e n w c left → IsRetired e' n' w c left
  retired_frame c left h = record {
    chain = lies_kept entry_links e e' c.entries left.slots h.chain (λ k there. slots_same left.slots k h.found there);
    found = All-weaker (IsOfVersion e w) (IsOfVersion e' w) of_version_frame left.slots h.found;
    lists = h.lists;
    indexes = indexes_frame c.indexes.items (remaining_items left.items) (λ at method ci. remaining_of_version (λ (item : Item). IsOfVersion e w item.entry) left.items at h.owned) h.indexes;
    owned = All-weaker (All (λ (item : Item). IsOfVersion e w item.entry)) (All (λ (item : Item). IsOfVersion e' w item.entry)) (All-weaker (λ (item : Item). IsOfVersion e w item.entry) (λ (item : Item). IsOfVersion e' w item.entry) (λ item. of_version_frame item.entry)) left.items h.owned;
  }

-- ---- steps one after another

pub leaves_self : (v : ℕ) (e : EntryPool) (n : NodePool) → LeavesOthers v e e n n
leaves_self v e n = record { of_entries = λ slot stored is other. is; of_nodes = λ id node stored at is other. at }

pub leaves_on : (v : ℕ) (e e' e'' : EntryPool) (n n' n'' : NodePool) → LeavesOthers v e e' n n' → LeavesOthers v e' e'' n' n'' → LeavesOthers v e e'' n n''
leaves_on v e e' e'' n n' n'' a b = record {
  of_entries = λ slot stored is other. b.of_entries slot stored (a.of_entries slot stored is other) other;
  of_nodes = λ id node stored at is other. b.of_nodes id node stored (a.of_nodes id node stored at is other) (a.of_entries (entry_of node) stored is other) other;
}

-- a step that leaves all others than one leaves each of them
pub keeps_other : (v w : ℕ) (e e' : EntryPool) (n n' : NodePool) → LeavesOthers v e e' n n' → w ≢ v → KeepsContent w e e' n n'
keeps_other v w e e' n n' leaves other = record {
  of_entries = λ slot stored is own. leaves.of_entries slot stored is (λ same. other (sym own ∙ same));
  of_nodes = λ id node stored is at own. leaves.of_nodes id node stored is at (λ same. other (sym own ∙ same));
}

pub keeps_self : (w : ℕ) (e : EntryPool) (n : NodePool) → KeepsContent w e e n n
keeps_self w e n = record { of_entries = λ slot stored is own. is; of_nodes = λ id node stored is at own. is }

-- values that are the same everywhere
pub keeps_same : (w : ℕ) (e e' : EntryPool) (n n' : NodePool) → SameValues e e' → SameValues n n' → KeepsContent w e e' n n'
keeps_same w e e' n n' entries nodes = record {
  of_entries = λ slot stored is own. entries slot ∙ is;
  of_nodes = λ id node stored is at own. nodes id ∙ is;
}

pub keeps_on : (w : ℕ) (e e' e'' : EntryPool) (n n' n'' : NodePool) → KeepsContent w e e' n n' → KeepsContent w e' e'' n' n'' → KeepsContent w e e'' n n''
keeps_on w e e' e'' n n' n'' a b = record {
  of_entries = λ slot stored is own. b.of_entries slot stored (a.of_entries slot stored is own) own;
  of_nodes = λ id node stored is at own. b.of_nodes id node stored (a.of_nodes id node stored is at own) (a.of_entries (entry_of node) stored at own) own;
}

-- without entries and indexes
pub no_content : (e : EntryPool) (n : NodePool) (v : ℕ) (c : Content) → c.count ≡ 0 → ((f : ℕ → Option Links) → LiesAt f c.entries []) → c.indexes.items ≡ [] → IsContent e n v c []
no_content e n v c count lies none = record {
  chain = lies _;
  count = count;
  found = All-nil (HasEntry e v);
  whole = All-nil _;
  indexes = subst (λ indexes. StandIn n indexes (items_of [])) (sym none) (record {
    apart = λ at other a b is_a is_b differs k in_a in_b. absurd in_a;
    holds = λ at index is. absurd (cc);
  });
}
