-- Indexes of one content, of which one changes.
use Rattle.std.proofs.Common.{◌≡◌, ◌≢◌, ◌⊎◌, ℕ, zero, suc, ◌<◌, Bool, List, [], ◌∷◌, ◌++◌, length, get_or, set, Option, Some, None, IsSome, All, refl, sym, ap, subst, ◌∙◌, inl, inr, arith, ne_eqb, eq-eqb}
use Rattle.std.specs.Option.{option_map}
use Rattle.std.specs.Prelude.{slice_get}
use Rattle.std.proofs.lemmas.Bool.{cases_eq}
use Rattle.std.proofs.lemmas.Option.{slice_get-map, slice_get_read}
use Rattle.std.proofs.Math.Seq.{map-set_same}
use Rattle.hx_text.specs.declared.kinds.By.{By}
use Rattle.hx_pool.specs.Pool.{get, IsLive}
use Rattle.hx_pool.specs.Chain.{AreApart, IsIn}
use Rattle.hx_ebtree.specs.declared.node.Node.{Node}
use Rattle.hx_ebtree.specs.Node.{entry_of, value_of}
use Rattle.hx_match.specs.Patterns.{PatternText}
use Rattle.hx_index.specs.declared.index.Index.{Index}
use Rattle.hx_index.specs.Items.{Item, nodes_of}
use Rattle.hx_index.specs.Index.{HasNode, Holds, IsOfUse, NodePool, ignores_case, method_of}
use Rattle.hx_index.proofs.ItemLemmas.{item_at}
use Rattle.hx_index.proofs.HoldingLemmas.{holds_frame, holds_live}
use Rattle.hx_versions.specs.declared.stored_entry.StoredEntry.{StoredEntry}
use Rattle.hx_versions.specs.Contents.{AreItemsOfVersion, EntryPool, IsOfVersion, LeavesNodes, Listing, StandIn, items_at, ways_of, with_list}

-- ---- lists of which one item changes

pub get_set_same : {X : Type 0} (xs : List X) (i : ℕ) (x y : X) → slice_get xs i ≡ Some x → slice_get (set xs i y) i ≡ Some y
get_set_same [] i x y e = cc
get_set_same (z ∷ xs) zero x y e = refl
get_set_same (z ∷ xs) (suc i) x y e = get_set_same xs i x y e

pub get_set_other : {X : Type 0} (xs : List X) (i j : ℕ) (y : X) → j ≢ i → slice_get (set xs i y) j ≡ slice_get xs j
get_set_other [] i j y other = refl
get_set_other (z ∷ xs) zero zero y other = absurd (other refl)
get_set_other (z ∷ xs) zero (suc j) y other = refl
get_set_other (z ∷ xs) (suc i) zero y other = refl
get_set_other (z ∷ xs) (suc i) (suc j) y other = get_set_other xs i j y (λ e. other (ap suc e))

pub some_same : {X : Type 0} (a b : X) → Some a ≡ Some b → a ≡ b
some_same a b e = cc

-- ---- which index a node belongs to

abbrev pub way_of : Index → By × Bool
way_of index = (method_of index, ignores_case index)

pub same_way : (a b : Index) → method_of b ≡ method_of a → ignores_case b ≡ ignores_case a → way_of b ≡ way_of a
same_way a b by ci = ap (λ m. (m, ignores_case b)) by ∙ ap (λ c. (method_of a, c)) ci

-- the node of an item is live, is of an entry that has P, and keeps a pattern of the index's method and case
pub node_of : (P : ℕ → Type 0) (n : NodePool) (index : Index) (items : List Item) (k : ℕ) → Holds n index items → All (λ (item : Item). P item.entry) items → IsIn k (nodes_of items) → (node : Node PatternText) × (get n k ≡ Some node) × P (entry_of node) × ((value_of node).by ≡ method_of index) × ((value_of node).ci ≡ ignores_case index)
node_of P n index items k h owned there =
    let fact = λ (item : Item). HasNode n item × P item.entry × IsOfUse (method_of index) (ignores_case index) item in
    let all : All fact items = λ i d below. (h.found i d below, owned i d below, h.uses i d below) in
    let at = item_at fact items k all there in
    let has = at.2.0 in (
      has.0,
      ap (get n) at.1 ∙ has.1,
      subst P (sym has.2) at.2.1,
      ap (λ (p : PatternText). p.by) has.3 ∙ at.2.2.method_is,
      ap (λ (p : PatternText). p.ci) has.3 ∙ at.2.2.case_is,
    )

pub ways_get : (indexes : List Index) (at : ℕ) (index : Index) → slice_get indexes at ≡ Some index → slice_get (ways_of indexes) at ≡ Some (way_of index)
ways_get indexes at index is = slice_get-map way_of indexes at ∙ ap (option_map way_of) is

-- the way that stands at a position is that of the index there
pub way_at : (indexes : List Index) (at : ℕ) (index : Index) (way : By × Bool) → at < length indexes → index ≡ get_or indexes at index → slice_get (ways_of indexes) at ≡ Some way → way ≡ way_of index
way_at indexes at index way within read is =
    some_same way (way_of index) (sym is ∙ ways_get indexes at index (slice_get_read indexes (length indexes) at index refl within read))

-- ---- numbers that are free

-- a live number isn't one that was free
pub live_other : (n : NodePool) (k free : ℕ) → IsLive n k → get n free ≡ None → k ≢ free
live_other n k free live none same = go (get n free) none (subst (IsLive n) same live)
  where
    go : (o : Option (Node PatternText)) → o ≡ None → IsSome o → ⊥
    go None e live = cc
    go (Some m) e live = cc

-- ---- an item more

in_pushed : (items : List Item) (item : Item) (k : ℕ) → IsIn k (nodes_of (items ++ item ∷ [])) → IsIn k (nodes_of items) ⊎ (k ≡ item.node)
in_pushed [] item k (inl same) = inr same
in_pushed [] item k (inr there) = absurd there
in_pushed (x ∷ xs) item k (inl same) = inl (inl same)
in_pushed (x ∷ xs) item k (inr there) = elim (in_pushed xs item k there) as (λ _. IsIn k (nodes_of (x ∷ xs)) ⊎ (k ≡ item.node)) [
  | inl old ↦ inl (inr old)
  | inr new ↦ inr new
]

-- its node was free
pub put_grows : (n : NodePool) (items mine : List Item) (item : Item) → items ≡ mine → get n item.node ≡ None → (k : ℕ) → IsIn k (nodes_of (items ++ item ∷ [])) → IsIn k (nodes_of mine) ⊎ (get n k ≡ None)
put_grows n items mine item same free k there = elim (in_pushed items item k there) as (λ _. IsIn k (nodes_of mine) ⊎ (get n k ≡ None)) [
  | inl old ↦ inl (subst (λ xs. IsIn k (nodes_of xs)) same old)
  | inr e ↦ inr (ap (get n) e ∙ free)
]

-- ---- one index changes

-- the other lists stay
pub with_same : (at : ℕ) (list : List Item) (items : Listing) (method : By) (ci : Bool) → with_list at list items at method ci ≡ list
with_same at list items method ci = rw (eq-eqb at at refl) refl

pub with_other : (at other : ℕ) (list : List Item) (items : Listing) (method : By) (ci : Bool) → other ≢ at → with_list at list items other method ci ≡ items other method ci
with_other at other list items method ci differs = rw (ne_eqb other at differs) refl

module _ (n n' : NodePool) (indexes : List Index) (at : ℕ) (a b : Index) (items : Listing) (within : at < length indexes) (read : a ≡ get_or indexes at a) (method_is : method_of b ≡ method_of a) (case_is : ignores_case b ≡ ignores_case a) where
  pub here_is : slice_get indexes at ≡ Some a
  here_is = slice_get_read indexes (length indexes) at a refl within read

  pub ways_kept : ways_of (set indexes at b) ≡ ways_of indexes
  ways_kept = map-set_same way_of indexes at b a (same_way a b method_is case_is ∙ ap way_of read)

  -- the index at another position is the one that was there
  other_is : (other : ℕ) (c : Index) → slice_get (set indexes at b) other ≡ Some c → other ≢ at → slice_get indexes other ≡ Some c
  other_is other c is differs = sym (get_set_other indexes at other b differs) ∙ is

  here_items : (list : List Item) (other : ℕ) (c : Index) → other ≡ at → items_at (with_list at list items) other c ≡ list
  here_items list other c e =
      ap (λ o. with_list at list items o (method_of c) (ignores_case c)) e ∙ with_same at list items (method_of c) (ignores_case c)

  module _ (list : List Item) (h : StandIn n indexes items) (grows : (k : ℕ) → IsIn k (nodes_of list) → IsIn k (nodes_of (items_at items at a)) ⊎ (get n k ≡ None)) where
    -- its nodes are none of another index
    apart_here : (other : ℕ) (c : Index) → slice_get indexes other ≡ Some c → other ≢ at → (k : ℕ) → IsIn k (nodes_of list) → IsIn k (nodes_of (items_at items other c)) → ⊥
    apart_here other c there differs k mine theirs = elim (grows k mine) as (λ _. ⊥) [
      | inl old ↦ h.apart at other a c here_is there differs k old theirs
      | inr free ↦
          live_other n k k (holds_live n c (items_at items other c) k (h.holds other c there) theirs) free refl
    ]

    still_apart : (one other : ℕ) (c d : Index) → slice_get (set indexes at b) one ≡ Some c → slice_get (set indexes at b) other ≡ Some d → other ≢ one → AreApart (nodes_of (items_at (with_list at list items) one c)) (nodes_of (items_at (with_list at list items) other d))
    still_apart one other c d is_c is_d differs k in_c in_d = elim (cases_eq one at) as (λ _. ⊥) [
      | inl e ↦ elim (cases_eq other at) as (λ _. ⊥) [
        | inl f ↦ differs (f ∙ sym e)
        | inr off ↦ apart_here other d (other_is other d is_d off) off k (moved one c in_c e) (stays other d in_d off)
      ]
      | inr off ↦ elim (cases_eq other at) as (λ _. ⊥) [
        | inl f ↦ apart_here one c (other_is one c is_c off) off k (moved other d in_d f) (stays one c in_c off)
        | inr also ↦
            h.apart one other c d (other_is one c is_c off) (other_is other d is_d also) differs k (stays one c in_c off) (stays other d in_d also)
      ]
    ]
      where
        moved : (o : ℕ) (x : Index) → IsIn k (nodes_of (items_at (with_list at list items) o x)) → o ≡ at → IsIn k (nodes_of list)
        moved o x there e = subst (λ xs. IsIn k (nodes_of xs)) (here_items list o x e) there

        stays : (o : ℕ) (x : Index) → IsIn k (nodes_of (items_at (with_list at list items) o x)) → o ≢ at → IsIn k (nodes_of (items_at items o x))
        stays o x there off = subst (λ xs. IsIn k (nodes_of xs)) (with_other at o list items (method_of x) (ignores_case x) off) there

  -- The index stands for another list, of its own nodes and free ones, and of the live nodes its
  -- own alone change.
  pub list_changed : (list : List Item) → StandIn n indexes items → Holds n' b list → ((k : ℕ) → IsIn k (nodes_of list) → IsIn k (nodes_of (items_at items at a)) ⊎ (get n k ≡ None)) → ((k : ℕ) → IsLive n k → (IsIn k (nodes_of (items_at items at a)) → ⊥) → get n' k ≡ get n k) → StandIn n' (set indexes at b) (with_list at list items)
  list_changed list h held grows same = record {
    apart = still_apart list h grows;
    holds = λ other c is. elim (cases_eq other at) as (λ _. Holds n' c (with_list at list items other (method_of c) (ignores_case c))) [
      | inl e ↦
          let moved : slice_get (set indexes at b) at ≡ Some c = ap (slice_get (set indexes at b)) (sym e) ∙ is in
          let mine : b ≡ c = some_same b c (sym (get_set_same indexes at a b here_is) ∙ moved) in
          let list_is : with_list at list items other (method_of c) (ignores_case c) ≡ list = ap (λ o. with_list at list items o (method_of c) (ignores_case c)) e ∙ with_same at list items (method_of c) (ignores_case c) in
          subst (Holds n' c) (sym list_is) (subst (λ x. Holds n' x list) mine held)
      | inr differs ↦
          let there : slice_get indexes other ≡ Some c = sym (get_set_other indexes at other b differs) ∙ is in
          let theirs = items other (method_of c) (ignores_case c) in
          let stands = h.holds other c there in
          let framed = holds_frame n n' c theirs (λ k in_theirs. same k (holds_live n c theirs k stands in_theirs) (λ in_mine. h.apart at other a c here_is there differs k in_mine in_theirs)) stands in
          subst (Holds n' c) (sym (with_other at other list items (method_of c) (ignores_case c) differs)) framed
    ];
  }

  -- nodes of other versions' entries stay
  pub nodes_left : (e : EntryPool) (v : ℕ) → StandIn n indexes items → AreItemsOfVersion e v (ways_of indexes) items → ((k : ℕ) → IsLive n k → (IsIn k (nodes_of (items at (method_of a) (ignores_case a))) → ⊥) → get n' k ≡ get n k) → LeavesNodes e v n n'
  nodes_left e v h owned same id node stored is at_entry other =
      let mine = items at (method_of a) (ignores_case a) in
      same id (live (get n id) node is) (λ here.
      let x = node_of (IsOfVersion e v) n a mine id (h.holds at a here_is) (owned at (way_of a) (ways_get indexes at a here_is)) here in
      let node_is : x.0 ≡ node = some_same x.0 node (sym x.1 ∙ is) in
      let own : IsOfVersion e v (entry_of node) = subst (λ m. IsOfVersion e v (entry_of m)) node_is x.2 in
      let stored_is : own.0 ≡ stored = some_same own.0 stored (sym own.1 ∙ at_entry) in
      other (ap (λ (s : StoredEntry). s.version) (sym stored_is) ∙ own.2)) ∙ is
    where
      live : (o : Option (Node PatternText)) (m : Node PatternText) → o ≡ Some m → IsSome o
      live o m e = rw e refl

-- lists that are the same for the ways that there are
pub stand_same : (n : NodePool) (indexes : List Index) (items others : Listing) → ((at : ℕ) (way : By × Bool) → slice_get (ways_of indexes) at ≡ Some way → others at way.0 way.1 ≡ items at way.0 way.1) → StandIn n indexes items → StandIn n indexes others
stand_same n indexes items others same h = record {
  apart = λ at other a b is_a is_b differs k in_a in_b. h.apart at other a b is_a is_b differs k (before at a is_a k in_a) (before other b is_b k in_b);
  holds = λ at index is. subst (Holds n index) (sym (same at (way_of index) (ways_get indexes at index is))) (h.holds at index is);
}
  where
    before : (at : ℕ) (index : Index) → slice_get indexes at ≡ Some index → (k : ℕ) → IsIn k (nodes_of (items_at others at index)) → IsIn k (nodes_of (items_at items at index))
    before at index is k there = subst (λ xs. IsIn k (nodes_of xs)) (same at (way_of index) (ways_get indexes at index is)) there

-- ---- positions

pub get_within : {X : Type 0} (xs : List X) (at : ℕ) → at < length xs → (x : X) × (slice_get xs at ≡ Some x)
get_within [] at within = absurd (omega (arith, within))
get_within (x ∷ xs) zero within = (x, refl)
get_within (x ∷ xs) (suc at) within = get_within xs at (omega (arith, within))

-- the index at the position of a way
pub index_at : (indexes : List Index) (at : ℕ) (way : By × Bool) → slice_get (ways_of indexes) at ≡ Some way → (index : Index) × (slice_get indexes at ≡ Some index) × (way_of index ≡ way)
index_at [] at way is = absurd (cc)
index_at (x ∷ xs) zero way is = (x, refl, some_same (way_of x) way is)
index_at (x ∷ xs) (suc at) way is = index_at xs at way is
