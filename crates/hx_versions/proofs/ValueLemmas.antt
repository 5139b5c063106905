-- An entry of a content gets another value.
use Rattle.std.proofs.Common.{◌≡◌, ℕ, List, [], ◌∷◌, ◌++◌, length, map, Some, refl, sym, ap, subst, ◌∙◌, inl, inr, arith, length-append}
use Rattle.std.specs.Option.{option_map}
use Rattle.std.proofs.lemmas.Bool.{cases_eq}
use Rattle.hx_pool.specs.Pool.{Updates, get}
use Rattle.hx_pool.specs.Chain.{IsIn, LiesIn, links_at}
use Rattle.hx_pool.proofs.ListLemmas.{lies_linked}
use Rattle.hx_sample.specs.Find.{Entry}
use Rattle.hx_index.specs.Items.{Item}
use Rattle.hx_index.specs.Index.{NodePool}
use Rattle.hx_versions.specs.declared.content.Content.{Content}
use Rattle.hx_versions.specs.declared.stored_entry.StoredEntry.{StoredEntry}
use Rattle.hx_versions.specs.StoredEntries.{entry_links}
use Rattle.hx_versions.specs.Contents.{EntryPool, HasEntry, HasNodes, IsContent, LeavesOthers, PlacedEntry, item_of, items_of, slots_of, with_other_value}
use Rattle.hx_versions.proofs.IndexListLemmas.{stand_same}
use Rattle.hx_versions.proofs.PlacedLemmas.{all_others, all_placed, all_with, has_it, is_at, nodes_count, other_slot, slot_off, slots_about, slots_joined}

mapped_same : (f : PlacedEntry → Item) (before : List PlacedEntry) (p q : PlacedEntry) (after : List PlacedEntry) → f q ≡ f p → map f (before ++ q ∷ after) ≡ map f (before ++ p ∷ after)
mapped_same f [] p q after same = ap (λ x. x ∷ map f after) same
mapped_same f (x ∷ before) p q after same = ap (λ xs. f x ∷ xs) (mapped_same f before p q after same)

module _ (e e' : EntryPool) (n : NodePool) (v : ℕ) (c : Content) (before : List PlacedEntry) (p : PlacedEntry) (after : List PlacedEntry) (slot : ℕ) (value : List ℕ) (here : p.slot ≡ slot) (h : IsContent e n v c (before ++ p ∷ after)) (update : (s : StoredEntry) → get e slot ≡ Some s → Updates e e' slot (Some (record s { value = value }))) where
  abbrev old : StoredEntry
  old = (has_it e n v c before p after slot here h).0

  abbrev new : PlacedEntry
  new = with_other_value value p

  step : Updates e e' slot (Some (record old { value = value }))
  step = update old (is_at e n v c before p after slot here h)

  off : IsIn slot (slots_of before ++ slots_of after) → ⊥
  off = slot_off e n v c before p after slot here h

  links_same : (k : ℕ) → links_at entry_links e' k ≡ links_at entry_links e k
  links_same k = elim (cases_eq k slot) as (λ _. links_at entry_links e' k ≡ links_at entry_links e k) [
    | inl same ↦
        ap (links_at entry_links e') same ∙ ap (option_map entry_links) step.changed
        ∙ sym (ap (option_map entry_links) (is_at e n v c before p after slot here h)) ∙ sym (ap (links_at entry_links e) same)
    | inr differs ↦ ap (option_map entry_links) (step.others k differs)
  ]

  still_has : (q : PlacedEntry) → IsIn q.slot (slots_of (before ++ after)) → HasEntry e v q → HasEntry e' v q
  still_has q there has =
      let inside = subst (IsIn q.slot) (slots_joined before after) there in
      (has.0, step.others q.slot (λ same. off (subst (λ k. IsIn k (slots_of before ++ slots_of after)) same inside)) ∙ has.1, has.2, has.3, has.4)

  new_has : HasEntry e' v new
  new_has =
      let has = has_it e n v c before p after slot here h in
      (record old { value = value }, ap (get e') here ∙ step.changed, has.2, ap (λ (x : Entry). record x { value = value }) has.3, has.4)

  -- the content stands for the same entries, but for the value of this one
  pub valued : IsContent e' n v c (before ++ new ∷ after)
  valued = record {
    chain = subst (LiesIn entry_links e' c.entries) (slots_about before p after ∙ sym (slots_about before new after)) (lies_linked entry_links e e' c.entries (slots_of (before ++ p ∷ after)) h.chain (λ k there. links_same k));
    count = omega (arith, h.count, length-append before (p ∷ after), length-append before (new ∷ after));
    found = all_with (HasEntry e' v) before new after (all_placed (HasEntry e v) (HasEntry e' v) (before ++ after) still_has (all_others (HasEntry e v) before p after h.found)) new_has;
    whole = all_with (HasNodes (length c.indexes.items)) before new after (all_others (HasNodes (length c.indexes.items)) before p after h.whole) (nodes_count e n v c before p after slot here h);
    indexes = stand_same n c.indexes.items (items_of (before ++ p ∷ after)) (items_of (before ++ new ∷ after)) (λ at way is. mapped_same (item_of at way.0 way.1) before p new after refl) h.indexes;
  }

  pub valued_others : LeavesOthers v e e' n n
  valued_others = record {
    of_entries = λ k stored is other. step.others k (other_slot e n v c before p after slot here h k stored is other) ∙ is;
    of_nodes = λ id node stored at is other. at;
  }
