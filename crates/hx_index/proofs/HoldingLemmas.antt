-- What an index stands for while nodes are taken, given, and moved in and out of its parts.
use Rattle.std.proofs.Common.{◌≡◌, ℕ, Bool, false, List, [], ◌∷◌, ◌++◌, All, Option, Some, None, IsSome, refl, sym, ap, subst, ◌∙◌, inl, inr}
use Rattle.std.proofs.lemmas.List.Elements.{All-nil, All-cons, All-head, All-tail, All-push, All-filter, All-weaker}
use Rattle.std.proofs.Common.{not, ◌==◌, ne_eqb}
use Rattle.hx_pool.specs.declared.chain.Chain.{Chain}
use Rattle.hx_pool.specs.Pool.{get, IsLive, Updates}
use Rattle.hx_pool.specs.Chain.{IsIn, AreApart, AreDistinct}
use Rattle.hx_pool.proofs.ChainLemmas.{distinct_join}
use Rattle.hx_ebtree.specs.declared.node.Node.{Node}
use Rattle.hx_ebtree.specs.declared.tree.Tree.{Tree}
use Rattle.hx_ebtree.specs.Node.{entry_of, value_of}
use Rattle.hx_ebtree.specs.Tree.{IsSameEntry, KeepsNodes}
use Rattle.hx_ebtree.proofs.FrameLemmas.{chain_frame, tree_frame}
use Rattle.hx_match.specs.Patterns.{PatternText}
use Rattle.hx_index.specs.declared.index.Index.{Index}
use Rattle.hx_index.specs.declared.part.Part.{Part}
use Rattle.hx_index.specs.declared.part.Part.TheVariants.{Listed, Keyed, Wide}
use Rattle.hx_index.specs.Items.{Item, nodes_of, without_node}
use Rattle.hx_index.specs.Parts.{is_same_part, pattern_part, pattern_key}
use Rattle.hx_index.specs.Index.{HasNode, Holds, HoldsPart, IsOfUse, NodePool, ignores_case, in_part, key_pairs, method_of}
use Rattle.hx_index.specs.Search.{IsNewItem}
use Rattle.hx_index.proofs.NumberLemmas.{distinct_filtered}
use Rattle.hx_index.proofs.ItemLemmas.{found_in, left_in, item_at, nodes_without, part_self, part_is, part_cases, part_without, part_with, part_with_other, ids_are}

abbrev belongs_to : Part → Item → Bool
belongs_to part item = is_same_part part (pattern_part item.pattern)

-- ---- items and their nodes

same_has : (p q : NodePool) (item : Item) → get q item.node ≡ get p item.node → HasNode p item → HasNode q item
same_has p q item same has = (has.0, same ∙ has.1, has.2, has.3)

kept_has : (p q : NodePool) → KeepsNodes p q → (item : Item) → HasNode p item → HasNode q item
kept_has p q kept item has =
    let e : IsSameEntry (Some has.0) (get q item.node) = subst (λ o. IsSameEntry o (get q item.node)) has.1 (kept.nodes item.node) in
    (e.0, e.1, e.3 ∙ has.2, e.4 ∙ has.3)

pub all_same : (p q : NodePool) (items : List Item) → ((k : ℕ) → IsIn k (nodes_of items) → get q k ≡ get p k) → All (HasNode p) items → All (HasNode q) items
all_same p q [] same all = All-nil (HasNode q)
all_same p q (x ∷ xs) same all =
    All-cons (HasNode q) x xs (same_has p q x (same x.node (inl refl)) (All-head (HasNode p) x xs all))
    (all_same p q xs (λ k there. same k (inr there)) (All-tail (HasNode p) x xs all))

live_some : (o : Option (Node PatternText)) (n : Node PatternText) → o ≡ Some n → IsSome o
live_some o n e = rw e refl

-- the nodes of an index are live
pub holds_live : (p : NodePool) (index : Index) (items : List Item) (k : ℕ) → Holds p index items → IsIn k (nodes_of items) → IsLive p k
holds_live p index items k h there =
    let at = item_at (HasNode p) items k h.found there in
    live_some (get p k) at.2.0 (ap (get p) at.1 ∙ at.2.1)

none_live : (o : Option (Node PatternText)) → o ≡ None → IsSome o → ⊥
none_live None e live = cc
none_live (Some n) e live = cc

-- a number that is free is not one of an index
pub free_off : (p : NodePool) (index : Index) (items : List Item) (k : ℕ) → Holds p index items → get p k ≡ None → IsIn k (nodes_of items) → ⊥
free_off p index items k h free there = none_live (get p k) free (holds_live p index items k h there)

-- an item of a part is one of the list
pub of_part : (p : NodePool) (index : Index) (part : Part) (items : List Item) (k : ℕ) → Holds p index items → IsIn k (nodes_of (in_part part items)) → IsIn k (nodes_of items)
of_part p index part items k h there =
    (found_in (HasNode p) (belongs_to part) items k h.found there).listed

-- the part of a node is that of the pattern that it keeps
pub part_of_node : (p : NodePool) (index : Index) (part : Part) (items : List Item) (k : ℕ) → Holds p index items → IsIn k (nodes_of (in_part part items)) → (n : Node PatternText) × (get p k ≡ Some n) × (part ≡ pattern_part (value_of n))
part_of_node p index part items k h there =
    let f = found_in (HasNode p) (belongs_to part) items k h.found there in (
      f.holds.0,
      ap (get p) f.here ∙ f.holds.1,
      part_is part (pattern_part f.item.pattern) f.passes ∙ ap pattern_part (sym f.holds.3),
    )

pub in_its_part : (p : NodePool) (index : Index) (part : Part) (items : List Item) (k : ℕ) (n : Node PatternText) → Holds p index items → IsIn k (nodes_of items) → get p k ≡ Some n → pattern_part (value_of n) ≡ part → IsIn k (nodes_of (in_part part items))
in_its_part p index part items k n h there at is =
    left_in (HasNode p) (belongs_to part) items k h.found there
    (λ item has here.
    let same : Some has.0 ≡ Some n = sym has.1 ∙ ap (get p) (sym here) ∙ at in
    let node : has.0 ≡ n = cc in
    let kept : pattern_part item.pattern ≡ part = ap pattern_part (sym has.3) ∙ ap (λ m. pattern_part (value_of m)) node ∙ is in
    ap (is_same_part part) kept ∙ part_self part)

-- two parts share no node
pub parts_apart : (p : NodePool) (index : Index) (a b : Part) (items : List Item) (k : ℕ) → Holds p index items → (a ≡ b → ⊥) → IsIn k (nodes_of (in_part a items)) → IsIn k (nodes_of (in_part b items)) → ⊥
parts_apart p index a b items k h other there here =
    let x = part_of_node p index a items k h there in
    let y = part_of_node p index b items k h here in
    let some : Some x.0 ≡ Some y.0 = sym x.1 ∙ y.1 in
    let same : x.0 ≡ y.0 = cc in
    other (x.2 ∙ ap (λ n. pattern_part (value_of n)) same ∙ sym y.2)

-- ---- frames

pub part_frame : (p q : NodePool) (index : Index) (part : Part) (items : List Item) → ((k : ℕ) → IsIn k (nodes_of items) → get q k ≡ get p k) → HoldsPart p index part items → HoldsPart q index part items
part_frame p q index Listed items same lies = chain_frame p q index.listed (nodes_of items) same lies
part_frame p q index Keyed items same stands = tree_frame p q index.keyed (key_pairs items) (λ k there. same k (subst (IsIn k) (ids_are items) there)) stands
part_frame p q index Wide items same stands = tree_frame p q index.wide (key_pairs items) (λ k there. same k (subst (IsIn k) (ids_are items) there)) stands

-- an index stands as before where its own nodes keep their values
pub holds_frame : (p q : NodePool) (index : Index) (items : List Item) → ((k : ℕ) → IsIn k (nodes_of items) → get q k ≡ get p k) → Holds p index items → Holds q index items
holds_frame p q index items same h = record {
  parts = λ part. part_frame p q index part (in_part part items) (λ k there. same k (of_part p index part items k h there)) (h.parts part);
  distinct = h.distinct;
  found = all_same p q items same h.found;
  uses = h.uses;
}

pub holds_updated : (p q : NodePool) (index : Index) (items : List Item) (id : ℕ) (value : Option (Node PatternText)) → Updates p q id value → (IsIn id (nodes_of items) → ⊥) → Holds p index items → Holds q index items
holds_updated p q index items id value u off h =
    holds_frame p q index items (λ k there. u.others k (λ e. off (subst (λ m. IsIn m (nodes_of items)) e there))) h

-- another index that shares no node stands as before
pub apart_frame : (p q : NodePool) (other : Index) (others items : List Item) → AreApart (nodes_of others) (nodes_of items) → ((k : ℕ) → (IsIn k (nodes_of items) → ⊥) → get q k ≡ get p k) → Holds p other others → Holds q other others
apart_frame p q other others items apart same h =
    holds_frame p q other others (λ k there. same k (λ here. apart k there here)) h

-- ---- nodes go in and out

-- two indexes of one method and one case
pub record IsSameUse (a b : Index) : Type 0 where
  pub method_is : method_of b ≡ method_of a
  pub case_is : ignores_case b ≡ ignores_case a

pub same_uses : (a b : Index) (items : List Item) → IsSameUse a b → All (IsOfUse (method_of a) (ignores_case a)) items → All (IsOfUse (method_of b) (ignores_case b)) items
same_uses a b items same all =
    subst (λ m. All (IsOfUse m (ignores_case b)) items) (sym same.method_is)
    (subst (λ ci. All (IsOfUse (method_of a) ci) items) (sym same.case_is) all)

pub nodes_end : (items : List Item) (item : Item) → nodes_of (items ++ item ∷ []) ≡ nodes_of items ++ item.node ∷ []
nodes_end [] item = refl
nodes_end (x ∷ xs) item = ap (λ ys. x.node ∷ ys) (nodes_end xs item)

pub pairs_end : (items : List Item) (item : Item) → key_pairs (items ++ item ∷ []) ≡ key_pairs items ++ (pattern_key item.pattern, item.node) ∷ []
pairs_end [] item = refl
pairs_end (x ∷ xs) item = ap (λ ys. (pattern_key x.pattern, x.node) ∷ ys) (pairs_end xs item)

pub without_off : (id : ℕ) (items : List Item) → (IsIn id (nodes_of items) → ⊥) → without_node id items ≡ items
without_off id [] off = refl
without_off id (x ∷ xs) off =
    let other : (x.node ≡ id) → ⊥ = λ same. off (inl (sym same)) in
    rw (ne_eqb x.node id other) (ap (λ ys. x ∷ ys) (without_off id xs (λ there. off (inr there))))

distinct_end : (items : List Item) (item : Item) → AreDistinct (nodes_of items) → (IsIn item.node (nodes_of items) → ⊥) → AreDistinct (nodes_of (items ++ item ∷ []))
distinct_end items item d off =
    subst AreDistinct (sym (nodes_end items item))
    (distinct_join (nodes_of items) (item.node ∷ []) d ((λ q. q), tt) (λ k here there. elim there as (λ _. ⊥) [ inl same ↦ off (subst (λ m. IsIn m (nodes_of items)) same here) | inr none ↦ none ]))

-- the parts but one are the same in both indexes, wherever they stand
pub record KeepsOtherParts (part : Part) (a b : Index) : Type 0 where
  pub holds : (q : NodePool) (other : Part) (items : List Item) → (other ≡ part → ⊥) → HoldsPart q a other items → HoldsPart q b other items
  pub use_is : IsSameUse a b

module _ (p q : NodePool) (a b : Index) (part : Part) (items : List Item) (h : Holds p a items) (kept : KeepsNodes p q) (others : KeepsOtherParts part a b) where
  pub attached : (item : Item) → IsNewItem p (method_of a) (ignores_case a) part items item → ((k : ℕ) → (IsIn k (nodes_of (in_part part items)) → ⊥) → (k ≡ item.node → ⊥) → get q k ≡ get p k) → HoldsPart q b part (in_part part items ++ item ∷ []) → Holds q b (items ++ item ∷ [])
  attached item new same held = record {
    parts = λ other. elim (part_cases other part) as (λ _. HoldsPart q b other (in_part other (items ++ item ∷ []))) [
      | inl is ↦
          let mine : HoldsPart q b part (in_part part (items ++ item ∷ [])) = subst (HoldsPart q b part) (sym (part_with part items item new.belongs)) held in
          subst (λ x. HoldsPart q b x (in_part x (items ++ item ∷ []))) (sym is) mine
      | inr differs ↦
          let away : is_same_part other (pattern_part item.pattern) ≡ false = ap (is_same_part other) new.belongs ∙ differs.1 in
          let framed = part_frame p q a other (in_part other items) (λ k there. same k (λ here. parts_apart p a other part items k h differs.0 there here) (λ e. new.off (subst (λ m. IsIn m (nodes_of items)) e (of_part p a other items k h there)))) (h.parts other) in
          subst (HoldsPart q b other) (sym (part_with_other other items item away)) (others.holds q other (in_part other items) differs.0 framed)
    ];
    distinct = distinct_end items item h.distinct new.off;
    found = All-push (HasNode q) items item (All-weaker (HasNode p) (HasNode q) (kept_has p q kept) items h.found) (kept_has p q kept item new.has);
    uses = same_uses a b (items ++ item ∷ []) others.use_is (All-push (IsOfUse (method_of a) (ignores_case a)) items item h.uses new.use_is);
  }

  pub detached : (id : ℕ) → IsIn id (nodes_of (in_part part items)) → ((k : ℕ) → (IsIn k (nodes_of (in_part part items)) → ⊥) → get q k ≡ get p k) → HoldsPart q b part (without_node id (in_part part items)) → Holds q b (without_node id items)
  detached id there same held = record {
    parts = λ other. elim (part_cases other part) as (λ _. HoldsPart q b other (in_part other (without_node id items))) [
      | inl is ↦
          let mine : HoldsPart q b part (in_part part (without_node id items)) = subst (HoldsPart q b part) (sym (part_without part id items)) held in
          subst (λ x. HoldsPart q b x (in_part x (without_node id items))) (sym is) mine
      | inr differs ↦
          let framed = part_frame p q a other (in_part other items) (λ k at. same k (λ here. parts_apart p a other part items k h differs.0 at here)) (h.parts other) in
          let off : without_node id (in_part other items) ≡ in_part other items = without_off id (in_part other items) (λ at. parts_apart p a other part items id h differs.0 at there) in
          subst (HoldsPart q b other) (sym (part_without other id items ∙ off)) (others.holds q other (in_part other items) differs.0 framed)
    ];
    distinct = subst AreDistinct (sym (nodes_without id items)) (distinct_filtered (λ x. not (x == id)) (nodes_of items) h.distinct);
    found = All-filter (λ (item : Item). not (item.node == id)) (HasNode q) items (All-weaker (HasNode p) (HasNode q) (kept_has p q kept) items h.found);
    uses = same_uses a b (without_node id items) others.use_is (All-filter (λ (item : Item). not (item.node == id)) (IsOfUse (method_of a) (ignores_case a)) items h.uses);
  }

-- ---- each part alone

pub listed_alone : (a : Index) (chain : Chain) → KeepsOtherParts Listed a (record a { listed = chain })
listed_alone a chain = record { holds = λ q other items differs held. elsewhere q other items differs held; use_is = record { method_is = refl; case_is = refl } }
  where
    elsewhere : (q : NodePool) (other : Part) (items : List Item) → (other ≡ Listed → ⊥) → HoldsPart q a other items → HoldsPart q (record a { listed = chain }) other items
    elsewhere q Listed items differs held = absurd (differs refl)
    elsewhere q Keyed items differs held = held
    elsewhere q Wide items differs held = held

pub keyed_alone : (a : Index) (tree : Tree) → KeepsOtherParts Keyed a (record a { keyed = tree })
keyed_alone a tree = record { holds = λ q other items differs held. elsewhere q other items differs held; use_is = record { method_is = refl; case_is = refl } }
  where
    elsewhere : (q : NodePool) (other : Part) (items : List Item) → (other ≡ Keyed → ⊥) → HoldsPart q a other items → HoldsPart q (record a { keyed = tree }) other items
    elsewhere q Listed items differs held = held
    elsewhere q Keyed items differs held = absurd (differs refl)
    elsewhere q Wide items differs held = held

pub wide_alone : (a : Index) (tree : Tree) → KeepsOtherParts Wide a (record a { wide = tree })
wide_alone a tree = record { holds = λ q other items differs held. elsewhere q other items differs held; use_is = record { method_is = refl; case_is = refl } }
  where
    elsewhere : (q : NodePool) (other : Part) (items : List Item) → (other ≡ Wide → ⊥) → HoldsPart q a other items → HoldsPart q (record a { wide = tree }) other items
    elsewhere q Listed items differs held = held
    elsewhere q Keyed items differs held = held
    elsewhere q Wide items differs held = absurd (differs refl)
