-- An entry is appended to a content.
use Rattle.std.proofs.Common.{◌≡◌, ◌≢◌, ℕ, ◌+◌, List, [], ◌∷◌, ◌++◌, length, map, Option, Some, None, All, refl, sym, ap, subst, ◌∙◌, inl, inr, length-append}
use Rattle.std.proofs.lemmas.List.Elements.{All-push, All-weaker}
use Rattle.hx_pool.specs.Pool.{Updates, get}
use Rattle.hx_pool.specs.Chain.{IsIn, IsSameSlot, LiesIn, Relinked}
use Rattle.hx_pool.proofs.ListLemmas.{lies_kept}
use Rattle.hx_pool.proofs.LyingLemmas.{free_off}
use Rattle.hx_ebtree.specs.Node.{entry_of}
use Rattle.hx_sample.specs.Find.{Entry}
use Rattle.hx_index.specs.Index.{NodePool}
use Rattle.hx_versions.specs.declared.content.Content.{Content}
use Rattle.hx_versions.specs.declared.stored_entry.StoredEntry.{StoredEntry}
use Rattle.hx_versions.specs.StoredEntries.{IsSameStoredEntry, entry_links, stored_entry, stored_nodes}
use Rattle.hx_versions.specs.Contents.{AreItemsOfVersion, EntryPool, HasEntry, HasNodes, IsContent, IsOfVersion, LeavesNodes, LeavesOthers, PlacedEntry, StandIn, item_of, items_of, slots_of, ways_of, with_items}
use Rattle.hx_versions.proofs.ContentLemmas.{entry_of_version, items_of_version, one_version, placed_at}
use Rattle.hx_versions.proofs.IndexListLemmas.{stand_same}

map_end : {A B : Type 0} (f : A → B) (xs : List A) (x : A) → map f (xs ++ x ∷ []) ≡ map f xs ++ f x ∷ []
map_end f [] x = refl
map_end f (y ∷ xs) x = ap (λ ys. f y ∷ ys) (map_end f xs x)

-- ---- entries that keep all but their links

has_step : (e' : EntryPool) (v : ℕ) (p : PlacedEntry) (stored : StoredEntry) → stored.version ≡ v → stored_entry stored ≡ p.entry → stored_nodes stored ≡ p.nodes → IsSameSlot IsSameStoredEntry (Some stored) (get e' p.slot) → HasEntry e' v p
has_step e' v p stored version entry nodes same =
    (same.0, same.1, ap (λ (x : StoredEntry). x.version) same.2 ∙ version, ap stored_entry same.2 ∙ entry, ap stored_nodes same.2 ∙ nodes)

pub has_relinked : (e e' : EntryPool) → Relinked IsSameStoredEntry e e' → (v : ℕ) (p : PlacedEntry) → HasEntry e v p → HasEntry e' v p
has_relinked e e' r v p has =
    has_step e' v p has.0 has.2 has.3 has.4 (subst (λ o. IsSameSlot IsSameStoredEntry o (get e' p.slot)) has.1 (r.values p.slot))

-- a slot that is free is of no version
none_some : (o : Option StoredEntry) (s : StoredEntry) → o ≡ None → o ≡ Some s → ⊥
none_some None s n e = cc
none_some (Some t) s n e = cc

pub free_other : (e : EntryPool) (free slot : ℕ) (s : StoredEntry) → get e free ≡ None → get e slot ≡ Some s → slot ≢ free
free_other e free slot s none is same = none_some (get e free) s none (ap (get e) (sym same) ∙ is)

-- ---- an entry in a slot that was free

module _ (e0 e1 e2 : EntryPool) (v slot : ℕ) (s1 s2 : StoredEntry) (free : get e0 slot ≡ None) (taken : Updates e0 e1 slot (Some s1)) (own : s1.version ≡ v) where
  pub new_own : IsOfVersion e1 v slot
  new_own = (s1, taken.changed, own)

  pub first_kept : (k : ℕ) (s : StoredEntry) → get e0 k ≡ Some s → get e1 k ≡ Some s
  first_kept k s is = taken.others k (free_other e0 slot k s free is) ∙ is

  first_has : (p : PlacedEntry) → HasEntry e0 v p → HasEntry e1 v p
  first_has p has = (has.0, first_kept p.slot has.0 has.1, has.2, has.3, has.4)

  -- while the nodes are put, the items are of entries of the version
  pub first_owned : (n : NodePool) (c : Content) (placed : List PlacedEntry) → IsContent e0 n v c placed → AreItemsOfVersion e1 v (ways_of c.indexes.items) (items_of placed)
  first_owned n c placed h at way is =
      items_of_version e1 v placed at way.0 way.1 (All-weaker (HasEntry e0 v) (HasEntry e1 v) first_has placed h.found)

  pub first_nodes : (n n' : NodePool) → LeavesNodes e1 v n n' → LeavesNodes e0 v n n'
  first_nodes n n' leaves id node stored is at_entry other = leaves id node stored is (first_kept (entry_of node) stored at_entry) other

  module _ (changed : Updates e1 e2 slot (Some s2)) where
    kept : (k : ℕ) (s : StoredEntry) → get e0 k ≡ Some s → get e2 k ≡ Some s
    kept k s is = changed.others k (free_other e0 slot k s free is) ∙ first_kept k s is

    pub off : (c : Content) (n : NodePool) (placed : List PlacedEntry) → IsContent e0 n v c placed → IsIn slot (slots_of placed) → ⊥
    off c n placed h = free_off entry_links e0 c.entries (slots_of placed) slot h.chain free

    -- the chain is as before
    pub chain_kept : (c : Content) (n : NodePool) (placed : List PlacedEntry) → IsContent e0 n v c placed → LiesIn entry_links e2 c.entries (slots_of placed)
    chain_kept c n placed h = lies_kept entry_links e0 e2 c.entries (slots_of placed) h.chain (λ k there.
        let at = placed_at (HasEntry e0 v) placed k h.found there in
        ap (get e2) at.1 ∙ kept at.0.slot at.2.0 at.2.1 ∙ sym at.2.1 ∙ ap (get e0) (sym at.1))

    later_has : (p : PlacedEntry) → HasEntry e0 v p → HasEntry e2 v p
    later_has p has = (has.0, kept p.slot has.0 has.1, has.2, has.3, has.4)

    module _ (e3 : EntryPool) (linked : Relinked IsSameStoredEntry e2 e3) where
      last_has : (p : PlacedEntry) → HasEntry e0 v p → HasEntry e3 v p
      last_has p has = has_relinked e2 e3 linked v p (later_has p has)

      -- entries of other versions are as before
      pub others_kept : (c : Content) (n n' : NodePool) (placed : List PlacedEntry) → IsContent e0 n v c placed → ((k : ℕ) → (IsIn k (slot ∷ slots_of placed) → ⊥) → get e3 k ≡ get e2 k) → LeavesNodes e1 v n n' → LeavesOthers v e0 e3 n n'
      others_kept c n n' placed h same leaves = record {
        of_entries = λ k stored is other.
            same k (λ there. elim there as (λ _. ⊥) [
              | inl e ↦ free_other e0 slot k stored free is e
              | inr inside ↦
                  let at = placed_at (HasEntry e0 v) placed k h.found inside in
                  other (one_version e0 stored.version v k (stored, is, refl) (subst (IsOfVersion e0 v) (sym at.1) (entry_of_version e0 v at.0 at.2)))
            ]) ∙ kept k stored is;
        of_nodes = first_nodes n n' leaves;
      }

      -- the content stands with the entry at its end
      pub appended : (c c' : Content) (n n' : NodePool) (placed : List PlacedEntry) (entry : Entry) (numbers : List ℕ) → IsContent e0 n v c placed
          → s2.version ≡ v → stored_entry s2 ≡ entry → stored_nodes s2 ≡ numbers
          → length numbers ≡ length c.indexes.items → ways_of c'.indexes.items ≡ ways_of c.indexes.items → length c'.indexes.items ≡ length c.indexes.items
          → c'.count ≡ c.count + 1 → LiesIn entry_links e3 c'.entries (slots_of placed ++ slot ∷ [])
          → StandIn n' c'.indexes.items (with_items slot entry.key numbers (items_of placed))
          → IsContent e3 n' v c' (placed ++ record { slot = slot; entry = entry; nodes = numbers } ∷ [])
      appended c c' n n' placed entry numbers h version_is entry_is nodes_are many ways count_of_indexes count_is lies stand =
          let p : PlacedEntry = record { slot = slot; entry = entry; nodes = numbers } in
          let has2 : HasEntry e2 v p = (s2, changed.changed, version_is, entry_is, nodes_are) in
          record {
            chain = subst (LiesIn entry_links e3 c'.entries) (sym (map_end (λ (x : PlacedEntry). x.slot) placed p)) lies;
            count = count_is ∙ ap (λ k. k + 1) h.count ∙ sym (length-append placed (p ∷ []));
            found = All-push (HasEntry e3 v) placed p (All-weaker (HasEntry e0 v) (HasEntry e3 v) last_has placed h.found) (has_relinked e2 e3 linked v p has2);
            whole = subst (λ k. All (HasNodes k) (placed ++ p ∷ [])) (sym count_of_indexes) (All-push (HasNodes (length c.indexes.items)) placed p h.whole many);
            indexes = stand_same n' c'.indexes.items (with_items slot entry.key numbers (items_of placed)) (items_of (placed ++ p ∷ []))
                (λ at way is. map_end (item_of at way.0 way.1) placed p) stand;
          }
