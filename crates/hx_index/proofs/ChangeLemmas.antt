-- What an index stands for once a node went into one of its parts, or out of it.
use Rattle.std.proofs.Common.{◌≡◌, ◌≢◌, ℕ, Bool, List, [], ◌∷◌, ◌++◌, Some, sym, ap, subst, ◌∙◌, inl, inr}
use Rattle.hx_pool.specs.declared.chain.Chain.{Chain}
use Rattle.hx_pool.specs.Pool.{get}
use Rattle.hx_pool.specs.Chain.{IsIn, LiesIn, Relinked}
use Rattle.hx_ebtree.specs.declared.node.Node.{Node}
use Rattle.hx_ebtree.specs.declared.tree.Tree.{Tree}
use Rattle.hx_ebtree.specs.Node.{key_of, links_of, IsSameNode}
use Rattle.hx_ebtree.specs.KeyList.{KeyList, IsOff, Lists, without}
use Rattle.hx_ebtree.specs.Tree.{KeepsNodes, Stands}
use Rattle.hx_ebtree.proofs.NodeLemmas.{kept_relinked}
use Rattle.hx_match.specs.Patterns.{PatternText}
use Rattle.hx_index.specs.declared.index.Index.{Index}
use Rattle.hx_index.specs.declared.part.Part.{Part}
use Rattle.hx_index.specs.declared.part.Part.TheVariants.{Listed}
use Rattle.hx_index.specs.Items.{Item, nodes_of, without_node}
use Rattle.hx_index.specs.Parts.{pattern_key}
use Rattle.hx_index.specs.Index.{Holds, HoldsPart, NodePool, ignores_case, in_part, key_pairs, method_of}
use Rattle.hx_index.specs.Search.{IsNewItem}
use Rattle.hx_index.proofs.NumberLemmas.{Around, around, less_around}
use Rattle.hx_index.proofs.ItemLemmas.{ids_are, nodes_without, pairs_without}
use Rattle.hx_index.proofs.HoldingLemmas.{KeepsOtherParts, attached, detached, listed_alone, nodes_end, of_part, pairs_end}

-- the nodes of a part are those of its pairs
pub to_ids : (items : List Item) (k : ℕ) → IsIn k (nodes_of items) → Lists (key_pairs items) k
to_ids items k there = subst (IsIn k) (sym (ids_are items)) there

pub from_ids : (items : List Item) (k : ℕ) → Lists (key_pairs items) k → IsIn k (nodes_of items)
from_ids items k there = subst (IsIn k) (ids_are items) there

widen : (before : List ℕ) (id : ℕ) (after : List ℕ) (k : ℕ) → IsIn k (before ++ after) → IsIn k (before ++ id ∷ after)
widen [] id after k here = inr here
widen (x ∷ before) id after k (inl e) = inl e
widen (x ∷ before) id after k (inr here) = inr (widen before id after k here)

-- what is left of a list around a number is of the list
pub less_in : (id : ℕ) (xs : List ℕ) (s : Around id xs) (k : ℕ) → IsIn k (s.before ++ s.after) → IsIn k xs
less_in id xs s k here = subst (IsIn k) (sym s.is) (widen s.before id s.after k here)

abbrev pair_of : List Bool → ℕ → List Bool × ℕ
pair_of key id = (key, id)

pair_is : (x y : List Bool) (m n : ℕ) → x ≡ y → m ≡ n → pair_of x m ≡ pair_of y n
pair_is x y m n e f = cc

module _ (p q : NodePool) (a : Index) (items : List Item) (h : Holds p a items) where
  off_part : (part : Part) (id : ℕ) → (IsIn id (nodes_of items) → ⊥) → IsIn id (nodes_of (in_part part items)) → ⊥
  off_part part id off there = off (of_part p a part items id h there)

  -- ---- the chain

  pub listed_in : (chain : Chain) (id : ℕ) (item : Item) → IsNewItem p (method_of a) (ignores_case a) Listed items item → item.node ≡ id → Relinked IsSameNode p q → ((xs : List ℕ) → LiesIn links_of p a.listed xs → (k : ℕ) → (IsIn k (id ∷ xs) → ⊥) → get q k ≡ get p k) → ((xs : List ℕ) → LiesIn links_of p a.listed xs → (IsIn id xs → ⊥) → LiesIn links_of q chain (xs ++ id ∷ [])) → Holds q (record a { listed = chain }) (items ++ item ∷ [])
  listed_in chain id item new is values others lies =
      let mine = in_part Listed items in
      let off : IsIn id (nodes_of items) → ⊥ = λ there. new.off (subst (λ m. IsIn m (nodes_of items)) (sym is) there) in
      let end : nodes_of (mine ++ item ∷ []) ≡ nodes_of mine ++ id ∷ [] = nodes_end mine item ∙ ap (λ k. nodes_of mine ++ k ∷ []) is in
      attached p q a (record a { listed = chain }) Listed items h (kept_relinked p q values) (listed_alone a chain) item new
      (λ k away differs. others (nodes_of mine) (h.parts Listed) k (λ there. elim there as (λ _. ⊥) [ inl e ↦ differs (e ∙ sym is) | inr t ↦ away t ]))
      (subst (LiesIn links_of q chain) (sym end) (lies (nodes_of mine) (h.parts Listed) (off_part Listed id off)))

  pub listed_out : (chain : Chain) (id : ℕ) → IsIn id (nodes_of (in_part Listed items)) → Relinked IsSameNode p q → ((xs ys : List ℕ) → LiesIn links_of p a.listed (xs ++ id ∷ ys) → (k : ℕ) → (IsIn k (xs ++ ys) → ⊥) → get q k ≡ get p k) → ((xs ys : List ℕ) → LiesIn links_of p a.listed (xs ++ id ∷ ys) → LiesIn links_of q chain (xs ++ ys)) → Holds q (record a { listed = chain }) (without_node id items)
  listed_out chain id there values others lies =
      let mine = in_part Listed items in
      let s = around id (nodes_of mine) there in
      let split : LiesIn links_of p a.listed (s.before ++ id ∷ s.after) = subst (LiesIn links_of p a.listed) s.is (h.parts Listed) in
      let left : nodes_of (without_node id mine) ≡ s.before ++ s.after = nodes_without id mine ∙ less_around id (nodes_of mine) s (h.parts Listed).distinct in
      detached p q a (record a { listed = chain }) Listed items h (kept_relinked p q values) (listed_alone a chain) id there
      (λ k away. others s.before s.after split k (λ here. away (less_in id (nodes_of mine) s k here)))
      (subst (LiesIn links_of q chain) (sym left) (lies s.before s.after split))

  -- ---- the trees

  pub tree_in : (b : Index) (part : Part) (old new : Tree) (id : ℕ) (item : Item) → KeepsOtherParts part a b → ((xs : List Item) → HoldsPart p a part xs → Stands p old (key_pairs xs)) → ((xs : List Item) → Stands q new (key_pairs xs) → HoldsPart q b part xs) → IsNewItem p (method_of a) (ignores_case a) part items item → item.node ≡ id → KeepsNodes p q → ((pairs : KeyList) → Stands p old pairs → IsOff id pairs → (k : ℕ) → IsOff k pairs → k ≢ id → get q k ≡ get p k) → ((pairs : KeyList) (node : Node PatternText) → Stands p old pairs → IsOff id pairs → get p id ≡ Some node → Stands q new (pairs ++ (key_of node, id) ∷ [])) → Holds q b (items ++ item ∷ [])
  tree_in b part old new id item alone opens closes fresh is kept others stands =
      let mine = in_part part items in
      let stood = opens mine (h.parts part) in
      let off : IsIn id (nodes_of items) → ⊥ = λ there. fresh.off (subst (λ m. IsIn m (nodes_of items)) (sym is) there) in
      let away : IsOff id (key_pairs mine) = λ there. off_part part id off (from_ids mine id there) in
      let node = fresh.has.0 in
      let at : get p id ≡ Some node = ap (get p) (sym is) ∙ fresh.has.1 in
      let key : key_of node ≡ pattern_key item.pattern = fresh.keyed node fresh.has.1 in
      let pair : pair_of (key_of node) id ≡ pair_of (pattern_key item.pattern) item.node = pair_is (key_of node) (pattern_key item.pattern) id item.node key (sym is) in
      let end : key_pairs mine ++ (key_of node, id) ∷ [] ≡ key_pairs (mine ++ item ∷ []) = ap (λ (x : List Bool × ℕ). key_pairs mine ++ x ∷ []) pair ∙ sym (pairs_end mine item) in
      attached p q a b part items h kept alone item fresh
      (λ k apart differs. others (key_pairs mine) stood away k (λ there. apart (from_ids mine k there)) (λ e. differs (e ∙ sym is)))
      (closes (mine ++ item ∷ []) (subst (Stands q new) end (stands (key_pairs mine) node stood away at)))

  pub tree_out : (b : Index) (part : Part) (old new : Tree) (id : ℕ) → KeepsOtherParts part a b → ((xs : List Item) → HoldsPart p a part xs → Stands p old (key_pairs xs)) → ((xs : List Item) → Stands q new (key_pairs xs) → HoldsPart q b part xs) → IsIn id (nodes_of (in_part part items)) → KeepsNodes p q → ((pairs : KeyList) → Stands p old pairs → Lists pairs id → (k : ℕ) → IsOff k pairs → get q k ≡ get p k) → ((pairs : KeyList) → Stands p old pairs → Lists pairs id → Stands q new (without id pairs)) → Holds q b (without_node id items)
  tree_out b part old new id alone opens closes there kept others stands =
      let mine = in_part part items in
      let stood = opens mine (h.parts part) in
      let lists = to_ids mine id there in
      detached p q a b part items h kept alone id there
      (λ k apart. others (key_pairs mine) stood lists k (λ here. apart (from_ids mine k here)))
      (closes (without_node id mine) (subst (Stands q new) (sym (pairs_without id mine)) (stands (key_pairs mine) stood lists)))
