-- An entry is removed from a content.
use Rattle.std.proofs.Common.{◌≡◌, ℕ, ◌+◌, List, ◌∷◌, ◌++◌, length, None, All, sym, ap, subst, ◌∙◌, arith, length-append}
use Rattle.std.specs.Prelude.{slice_get}
use Rattle.hx_pool.specs.Pool.{Updates, get}
use Rattle.hx_pool.specs.Chain.{IsIn, LiesIn, Relinked}
use Rattle.hx_pool.proofs.LyingLemmas.{lies_updated}
use Rattle.hx_index.specs.Index.{NodePool}
use Rattle.hx_versions.specs.declared.content.Content.{Content}
use Rattle.hx_versions.specs.StoredEntries.{IsSameStoredEntry, entry_links}
use Rattle.hx_versions.specs.Contents.{EntryPool, HasEntry, HasNodes, IsContent, LeavesNodes, LeavesOthers, PlacedEntry, StandIn, items_of, slots_of, ways_of, without_numbers}
use Rattle.hx_versions.proofs.AppendLemmas.{has_relinked}
use Rattle.hx_versions.proofs.IndexListLemmas.{stand_same}
use Rattle.hx_versions.proofs.PlacedLemmas.{all_others, all_placed, items_less, other_off, other_slot, slot_off, slots_joined}
use Rattle.hx_versions.proofs.PuttingLemmas.{ways_length}

-- it is unlinked, and its slot given back
module _ (e e1 e2 : EntryPool) (n : NodePool) (v : ℕ) (c : Content) (before : List PlacedEntry) (p : PlacedEntry) (after : List PlacedEntry) (slot : ℕ) (here : p.slot ≡ slot) (h : IsContent e n v c (before ++ p ∷ after)) (freed : Updates e1 e2 slot None) where
  off : IsIn slot (slots_of before ++ slots_of after) → ⊥
  off = slot_off e n v c before p after slot here h

  pub others_left : (n' : NodePool) → ((k : ℕ) → (IsIn k (slots_of before ++ slots_of after) → ⊥) → get e1 k ≡ get e k) → LeavesNodes e v n n' → LeavesOthers v e e2 n n'
  others_left n' same nodes = record {
    of_entries = λ k stored is other.
        freed.others k (other_slot e n v c before p after slot here h k stored is other)
        ∙ same k (other_off e n v c before p after slot here h k stored is other) ∙ is;
    of_nodes = nodes;
  }

  module _ (linked : Relinked IsSameStoredEntry e e1) where
    still_has : (q : PlacedEntry) → IsIn q.slot (slots_of (before ++ after)) → HasEntry e v q → HasEntry e2 v q
    still_has q there has =
        let r = has_relinked e e1 linked v q has in
        let inside = subst (IsIn q.slot) (slots_joined before after) there in
        (r.0, freed.others q.slot (λ same. off (subst (λ k. IsIn k (slots_of before ++ slots_of after)) same inside)) ∙ r.1, r.2, r.3, r.4)

    -- the content stands for the others
    pub removed : (c' : Content) (n' : NodePool) (numbers : List ℕ) → numbers ≡ p.nodes → LiesIn entry_links e1 c'.entries (slots_of before ++ slots_of after) → c'.count + 1 ≡ c.count → ways_of c'.indexes.items ≡ ways_of c.indexes.items → StandIn n' c'.indexes.items (without_numbers numbers (items_of (before ++ p ∷ after))) → IsContent e2 n' v c' (before ++ after)
    removed c' n' numbers same lies fewer ways stand = record {
      chain = subst (LiesIn entry_links e2 c'.entries) (sym (slots_joined before after)) (lies_updated entry_links e1 e2 c'.entries (slots_of before ++ slots_of after) slot None lies off freed);
      count = omega (arith, fewer, h.count, length-append before (p ∷ after), length-append before after);
      found = all_placed (HasEntry e v) (HasEntry e2 v) (before ++ after) still_has (all_others (HasEntry e v) before p after h.found);
      whole = subst (λ k. All (HasNodes k) (before ++ after)) (ways_length c.indexes.items c'.indexes.items (sym ways)) (all_others (HasNodes (length c.indexes.items)) before p after h.whole);
      indexes = stand_same n' c'.indexes.items (without_numbers numbers (items_of (before ++ p ∷ after))) (items_of (before ++ after))
          (λ at way is. items_less e n v c before p after slot here h numbers same at way (ap (λ ws. slice_get ws at) (sym ways) ∙ is)) stand;
    }
