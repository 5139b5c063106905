-- The nodes and the entries of a content are given back bit by bit.
use Rattle.std.proofs.Common.{◌≡◌, ◌≢◌, ℕ, zero, suc, ◌+◌, ◌-◌, ◌<◌, ◌≤◌, Bool, List, [], ◌∷◌, ◌++◌, length, map, get_or, set, not, ◌==◌, min, Option, Some, None, All, refl, sym, ap, subst, ◌∙◌, inl, inr, arith, length-set, get_or-set_same, get_or-set_other}
use Rattle.std.specs.Prelude.{slice_get, sum}
use Rattle.std.proofs.lemmas.Bool.{cases_eq, cases_lt}
use Rattle.std.proofs.lemmas.List.{length-map}
use Rattle.std.proofs.lemmas.List.Elements.{All-cons, All-filter, All-get_or, All-head, All-nil, All-set, All-tail}
use Rattle.std.proofs.lemmas.List.Sums.{sum_by-cons}
use Rattle.std.proofs.lemmas.Option.{slice_get_within}
use Rattle.hx_text.specs.declared.kinds.By.{By}
use Rattle.hx_index.specs.declared.index.Index.{Index}
use Rattle.hx_index.specs.Items.{Item, LeavesOut, without_node, without_nodes}
use Rattle.hx_index.specs.Index.{NodePool}
use Rattle.hx_pool.specs.declared.chain.Chain.{Chain}
use Rattle.hx_pool.specs.Pool.{Updates, get}
use Rattle.hx_pool.specs.Chain.{IsIn, IsSameSlot, LiesIn, Relinked, first_or}
use Rattle.hx_pool.proofs.LyingLemmas.{lies_updated}
use Rattle.hx_versions.specs.declared.stored_entry.StoredEntry.{StoredEntry}
use Rattle.hx_versions.specs.declared.content.Content.{Content}
use Rattle.hx_versions.specs.StoredEntries.{IsSameStoredEntry, entry_links}
use Rattle.hx_versions.specs.Contents.{EntryPool, IsOfVersion, IsRetired, IsTakenFrom, LeavesEntries, Listing, Remains, StandIn, remaining_items, remaining_slots, ways_of, with_list}
use Rattle.hx_versions.proofs.PuttingLemmas.{ways_length}
use Rattle.hx_versions.proofs.ContentLemmas.{one_version}
use Rattle.hx_versions.proofs.IndexListLemmas.{stand_same, way_of, with_other, with_same}

-- ---- sums of lengths

sum_cons : (xs : List Item) (lists : List (List Item)) → sum (map length (xs ∷ lists)) ≡ length xs + sum (map length lists)
sum_cons xs lists = sum_by-cons (λ k. k) (length xs) (map length lists)

counted_set : (lists : List (List Item)) (at : ℕ) (l : List Item) → at < length lists → sum (map length (set lists at l)) + length (get_or lists at []) ≡ sum (map length lists) + length l
counted_set [] at l within = absurd (omega (arith, within))
counted_set (x ∷ xs) zero l within = omega (arith, sum_cons x xs, sum_cons l xs)
counted_set (x ∷ xs) (suc at) l within =
    omega (arith, sum_cons x xs, sum_cons x (set xs at l), counted_set xs at l (omega (arith, within)))

pub sum_none : (lists : List (List Item)) → ((k : ℕ) → k < length lists → length (get_or lists k []) ≡ 0) → sum (map length lists) ≡ 0
sum_none [] none = refl
sum_none (x ∷ xs) none = omega (arith, sum_cons x xs, none 0 (omega arith), sum_none xs (λ k below. none (suc k) (omega (arith, below))))

-- where nothing is left, all of it is of one version
pub none_owned : (P : Item → Type 0) (lists : List (List Item)) → sum (map length lists) ≡ 0 → All (All P) lists
none_owned P [] none = All-nil (All P)
none_owned P ([] ∷ xs) none = All-cons (All P) [] xs (All-nil P) (none_owned P xs (omega (arith, sum_cons [] xs, none)))
none_owned P ((y ∷ ys) ∷ xs) none = absurd (omega (arith, sum_cons (y ∷ ys) xs, none))

-- ---- one list less

kept_items : (P : Item → Type 0) (gone : List ℕ) (xs : List Item) → All P xs → All P (without_nodes gone xs)
kept_items P [] xs all = all
kept_items P (id ∷ gone) xs all =
    All-filter (λ (item : Item). not (item.node == id)) P (without_nodes gone xs) (kept_items P gone xs all)

pub taken_none : (lists : List (List Item)) → IsTakenFrom 0 lists lists
taken_none lists = record { many = refl; counted = omega arith; owned = λ e v all. all }

pub taken_more : (before more at : ℕ) (lists left : List (List Item)) (l : List Item) → IsTakenFrom before lists left → at < length left → LeavesOut more (get_or left at []) l → IsTakenFrom (before + more) lists (set left at l)
taken_more before more at lists left l taken within out = record {
  many = length-set left at l ∙ taken.many;
  counted = omega (arith, counted_set left at l within, taken.counted, out.counted);
  owned = λ e v all.
      let P = λ (item : Item). IsOfVersion e v item.entry in
      let mine : All P (get_or left at []) = All-get_or (All P) left at [] within (taken.owned e v all) in
      All-set (All P) left at l (subst (All P) (sym out.rest) (kept_items P out.gone (get_or left at []) mine)) (taken.owned e v all);
}

-- the indexes stand for the lists of which one is another
pub stand_set : (n : NodePool) (indexes : List Index) (left : List (List Item)) (at : ℕ) (l : List Item) → at < length left → StandIn n indexes (with_list at l (remaining_items left)) → StandIn n indexes (remaining_items (set left at l))
stand_set n indexes left at l within h =
    stand_same n indexes (with_list at l (remaining_items left)) (remaining_items (set left at l)) (λ other way is. one other way.0 way.1) h
  where
    one : (other : ℕ) (method : By) (ci : Bool) → remaining_items (set left at l) other method ci ≡ with_list at l (remaining_items left) other method ci
    one other method ci = elim (cases_eq other at) as (λ _. remaining_items (set left at l) other method ci ≡ with_list at l (remaining_items left) other method ci) [
      | inl e ↦
          ap (λ k. get_or (set left at l) k []) e ∙ get_or-set_same left at l [] within
          ∙ sym (with_same at l (remaining_items left) method ci) ∙ ap (λ k. with_list at l (remaining_items left) k method ci) (sym e)
      | inr differs ↦
          get_or-set_other left at other l [] differs ∙ sym (with_other at other l (remaining_items left) method ci differs)
    ]

-- ---- the loop over the indexes

nothing_left : (n given more whole left : ℕ) → given ≤ n → more ≡ min (n - given) whole → left + more ≡ whole → given + more < n → left ≡ 0
nothing_left n given more whole left most many counted few = omega (arith, most, many, counted, few)

-- so many nodes were given back, out of the indexes up to a position
pub record Dismantled (n given at : ℕ) (nodes : NodePool) (indexes : List Index) (lists left : List (List Item)) : Type 0 where
  pub taken : IsTakenFrom given lists left
  pub stand : StandIn nodes indexes (remaining_items left)
  pub empty : given < n → (k : ℕ) → k < at → length (get_or left k []) ≡ 0

pub dismantled_none : (n : ℕ) (nodes : NodePool) (indexes : List Index) (lists : List (List Item)) → StandIn nodes indexes (remaining_items lists) → Dismantled n 0 0 nodes indexes lists lists
dismantled_none n nodes indexes lists h = record {
  taken = taken_none lists;
  stand = h;
  empty = λ few k below. absurd (omega (arith, below));
}

pub dismantled_more : (n given more at : ℕ) (nodes nodes' : NodePool) (indexes indexes' : List Index) (lists left : List (List Item)) (l : List Item) → given ≤ n → Dismantled n given at nodes indexes lists left → at < length left → more ≡ min (n - given) (length (get_or left at [])) → StandIn nodes' indexes' (with_list at l (remaining_items left)) → LeavesOut more (get_or left at []) l → Dismantled n (given + more) (at + 1) nodes' indexes' lists (set left at l)
dismantled_more n given more at nodes nodes' indexes indexes' lists left l most d within many h out = record {
  taken = taken_more given more at lists left l d.taken within out;
  stand = stand_set nodes' indexes' left at l within h;
  empty = λ few k below. elim (cases_eq k at) as (λ _. length (get_or (set left at l) k []) ≡ 0) [
    | inl e ↦
        ap (λ i. length (get_or (set left at l) i [])) e ∙ ap length (get_or-set_same left at l [] within)
        ∙ nothing_left n given more (length (get_or left at [])) (length l) most many out.counted few
    | inr differs ↦
        ap length (get_or-set_other left at k l [] differs) ∙ d.empty (omega (arith, few)) k (omega (arith, below, differs))
  ];
}

-- how many were given back in the end
pub dismantled_count : (n given at : ℕ) (nodes : NodePool) (indexes : List Index) (lists left : List (List Item)) → given ≤ n → Dismantled n given at nodes indexes lists left → length left ≤ at → given ≡ min n (sum (map length lists))
dismantled_count n given at nodes indexes lists left most d all = elim (cases_lt given n) as (λ _. given ≡ min n (sum (map length lists))) [
  | inl few ↦
      let none = sum_none left (λ k below. d.empty few k (omega (arith, below, all))) in
      omega (arith, none, d.taken.counted, few)
  | inr full ↦ omega (arith, full, most, d.taken.counted)
]

-- ---- what is left of the content

module _ (e e' : EntryPool) (n n' : NodePool) (v given : ℕ) (c c' : Content) (left : Remains) (lists : List (List Item)) (h : IsRetired e n v c left) (taken : IsTakenFrom given left.items lists) (ways : ways_of c'.indexes.items ≡ ways_of c.indexes.items) (stand : StandIn n' c'.indexes.items (remaining_items lists)) where
  lists_many : length lists ≡ length c'.indexes.items
  lists_many = taken.many ∙ h.lists ∙ sym (ways_length c'.indexes.items c.indexes.items ways)

  -- nodes alone were given back
  pub nodes_given : c'.entries ≡ c.entries → (now : Remains) × IsRetired e n' v c' now × (remaining_slots now + given ≡ remaining_slots left)
  nodes_given same = (
    record { slots = left.slots; items = lists },
    record {
      chain = subst (λ chain. LiesIn entry_links e chain left.slots) (sym same) h.chain;
      found = h.found;
      lists = lists_many;
      indexes = stand;
      owned = taken.owned e v h.owned;
    },
    omega (arith, taken.counted),
  )

  -- and all of them, and then entries
  pub entries_given : (slots : List ℕ) (more : ℕ) → given ≡ sum (map length left.items) → LiesIn entry_links e' c'.entries slots → All (IsOfVersion e' v) slots → length slots + more ≡ length left.slots → (now : Remains) × IsRetired e' n' v c' now × (remaining_slots now + (given + more) ≡ remaining_slots left)
  entries_given slots more all lies owned counted =
      let none : sum (map length lists) ≡ 0 = omega (arith, taken.counted, all) in (
        record { slots = slots; items = lists },
        record {
          chain = lies;
          found = owned;
          lists = lists_many;
          indexes = stand;
          owned = none_owned (λ (item : Item). IsOfVersion e' v item.entry) lists none;
        },
        omega (arith, taken.counted, counted),
      )

-- ---- one entry less

pub front_split : (slots : List ℕ) (slot : ℕ) → Some slot ≡ first_or slots None → (rest : List ℕ) × (slots ≡ slot ∷ rest)
front_split [] slot e = absurd (cc)
front_split (x ∷ xs) slot e = let same : slot ≡ x = cc in (xs, ap (λ k. k ∷ xs) (sym same))

pub front_none : (slots : List ℕ) → None ≡ first_or slots None → slots ≡ []
front_none [] e = refl
front_none (x ∷ xs) e = absurd (cc)

slot_in : (v : ℕ) (e : EntryPool) (slots : List ℕ) (k : ℕ) → All (IsOfVersion e v) slots → IsIn k slots → IsOfVersion e v k
slot_in v e [] k all there = absurd there
slot_in v e (x ∷ xs) k all (inl same) = subst (IsOfVersion e v) (sym same) (All-head (IsOfVersion e v) x xs all)
slot_in v e (x ∷ xs) k all (inr there) = slot_in v e xs k (All-tail (IsOfVersion e v) x xs all) there

still_of : (e e' : EntryPool) (v k : ℕ) → Relinked IsSameStoredEntry e e' → IsOfVersion e v k → IsOfVersion e' v k
still_of e e' v k relinked own =
    let z : IsSameSlot IsSameStoredEntry (Some own.0) (get e' k) = subst (λ o. IsSameSlot IsSameStoredEntry o (get e' k)) own.1 (relinked.values k) in
    (z.0, z.1, ap (λ (x : StoredEntry). x.version) z.2 ∙ own.2)

module _ (e0 e1 e2 : EntryPool) (chain0 chain1 : Chain) (v slot : ℕ) (rest : List ℕ)
    (lies : LiesIn entry_links e0 chain0 (slot ∷ rest)) (owned : All (IsOfVersion e0 v) (slot ∷ rest))
    (unlinked : LiesIn entry_links e1 chain1 rest) (relinked : Relinked IsSameStoredEntry e0 e1)
    (others : (k : ℕ) → (IsIn k rest → ⊥) → get e1 k ≡ get e0 k) (given : Updates e1 e2 slot None) where
  pub rest_lies : LiesIn entry_links e2 chain1 rest
  rest_lies = lies_updated entry_links e1 e2 chain1 rest slot None unlinked lies.distinct.0 given

  rest_kept : (xs : List ℕ) → All (IsOfVersion e0 v) xs → (IsIn slot xs → ⊥) → All (IsOfVersion e2 v) xs
  rest_kept [] all off = All-nil (IsOfVersion e2 v)
  rest_kept (x ∷ xs) all off =
      let own = still_of e0 e1 v x relinked (All-head (IsOfVersion e0 v) x xs all) in
      let here : IsOfVersion e2 v x = (own.0, given.others x (λ e. off (inl (sym e))) ∙ own.1, own.2) in
      All-cons (IsOfVersion e2 v) x xs here (rest_kept xs (All-tail (IsOfVersion e0 v) x xs all) (λ there. off (inr there)))

  pub rest_owned : All (IsOfVersion e2 v) rest
  rest_owned = rest_kept rest (All-tail (IsOfVersion e0 v) slot rest owned) lies.distinct.0

  pub others_left : LeavesEntries v e0 e2
  others_left k stored is other =
      let off : IsIn k (slot ∷ rest) → ⊥ = λ there. other (sym (one_version e0 v stored.version k (slot_in v e0 (slot ∷ rest) k owned there) (stored, is, refl))) in
      given.others k (λ e. off (inl e)) ∙ others k (λ there. off (inr there)) ∙ is
