-- What an index stands for once any node was taken out of a part.
use Rattle.std.proofs.Common.{◌≡◌, ℕ, List, [], ◌∷◌, ◌++◌, Option, Some, None, refl, sym, subst, ◌∙◌, inl, inr}
use Rattle.hx_pool.specs.declared.links.Links.{Links}
use Rattle.hx_pool.specs.declared.chain.Chain.{Chain}
use Rattle.hx_pool.specs.Pool.{get}
use Rattle.hx_pool.specs.Chain.{IsIn, LiesAt, LiesIn, Relinked, first_or, links_at}
use Rattle.hx_pool.proofs.ChainLemmas.{first_in}
use Rattle.hx_ebtree.specs.declared.tree.Tree.{Tree}
use Rattle.hx_ebtree.specs.Node.{links_of, IsSameNode}
use Rattle.hx_ebtree.specs.KeyList.{KeyList, IsOff, Lists, ids_of, without}
use Rattle.hx_ebtree.specs.Tree.{KeepsNodes, Stands}
use Rattle.hx_ebtree.proofs.NodeLemmas.{kept_relinked, kept_self}
use Rattle.hx_index.specs.declared.index.Index.{Index}
use Rattle.hx_index.specs.declared.part.Part.{Part}
use Rattle.hx_index.specs.declared.part.Part.TheVariants.{Listed}
use Rattle.hx_index.specs.Items.{Item, nodes_of, without_node}
use Rattle.hx_index.specs.Index.{Holds, HoldsPart, NodePool, in_part, key_pairs}
use Rattle.hx_index.specs.Search.{TakesOut}
use Rattle.hx_index.proofs.NumberLemmas.{around}
use Rattle.hx_index.proofs.ItemLemmas.{pairs_without, part_cases}
use Rattle.hx_index.proofs.HoldingLemmas.{KeepsOtherParts, all_same, detached, of_part, part_frame, same_uses}
use Rattle.hx_index.proofs.ChangeLemmas.{from_ids, less_in, listed_out}

pairs_none : (items : List Item) → key_pairs items ≡ [] → items ≡ []
pairs_none [] e = refl
pairs_none (x ∷ xs) e = cc

nodes_none : (items : List Item) → None ≡ first_or (nodes_of items) None → items ≡ []
nodes_none [] e = refl
nodes_none (x ∷ xs) e = cc

-- an empty part is replaced by another that stands for nothing, and no node changes
emptied : (p q : NodePool) (a b : Index) (part : Part) (items : List Item) → Holds p a items → in_part part items ≡ [] → KeepsOtherParts part a b → ((k : ℕ) → get q k ≡ get p k) → HoldsPart q b part [] → Holds q b items
emptied p q a b part items h empty alone same held = record {
  parts = λ other. elim (part_cases other part) as (λ _. HoldsPart q b other (in_part other items)) [
    | inl is ↦
        let mine : HoldsPart q b part (in_part part items) = subst (HoldsPart q b part) (sym empty) held in
        subst (λ x. HoldsPart q b x (in_part x items)) (sym is) mine
    | inr differs ↦ alone.holds q other (in_part other items) differs.0 (part_frame p q a other (in_part other items) (λ k _. same k) (h.parts other))
  ];
  distinct = h.distinct;
  found = all_same p q items (λ k _. same k) h.found;
  uses = same_uses a b items alone.use_is h.uses;
}

-- a node was taken out of a tree
pub tree_takes : (p q : NodePool) (a b : Index) (part : Part) (old new : Tree) (taken : Option ℕ) → KeepsOtherParts part a b → ((xs : List Item) → HoldsPart p a part xs → Stands p old (key_pairs xs)) → ((xs : List Item) → Stands q new (key_pairs xs) → HoldsPart q b part xs) → KeepsNodes p q → ((pairs : KeyList) → Stands p old pairs → taken ≡ None → (pairs ≡ []) × Stands q new []) → ((pairs : KeyList) (id : ℕ) → Stands p old pairs → taken ≡ Some id → Lists pairs id × Stands q new (without id pairs)) → ((pairs : KeyList) → Stands p old pairs → (k : ℕ) → IsOff k pairs → get q k ≡ get p k) → TakesOut part p a q b taken
tree_takes p q a b part old new taken alone opens closes kept none some others = record {
  none = λ items h e.
      let mine = in_part part items in
      let stood = opens mine (h.parts part) in
      let n = none (key_pairs mine) stood e in
      let empty = pairs_none mine n.0 in
      (empty, emptied p q a b part items h empty alone (λ k. others (key_pairs mine) stood k (λ there. subst (λ l. IsIn k (ids_of l)) n.0 there)) (closes [] n.1));
  some = λ items id h e.
      let mine = in_part part items in
      let stood = opens mine (h.parts part) in
      let s = some (key_pairs mine) id stood e in
      let there = from_ids mine id s.0 in (
        of_part p a part items id h there,
        detached p q a b part items h kept alone id there
            (λ k apart. others (key_pairs mine) stood k (λ here. apart (from_ids mine k here)))
            (closes (without_node id mine) (subst (Stands q new) (sym (pairs_without id mine)) s.1)),
      );
  kept = kept;
  others = λ items h k away.
      let mine = in_part part items in
      others (key_pairs mine) (opens mine (h.parts part)) k (λ here. away (of_part p a part items k h (from_ids mine k here)));
  method_is = alone.use_is.method_is;
  case_is = alone.use_is.case_is;
}

module _ (p : NodePool) (a : Index) (front : Option ℕ) (first : (f : ℕ → Option Links) (xs : List ℕ) → LiesAt f a.listed xs → front ≡ first_or xs None) where
  -- the first node of the chain is one of it
  pub front_in : (items : List Item) (id : ℕ) → front ≡ Some id → Holds p a items → IsIn id (nodes_of (in_part Listed items))
  front_in items id is h =
      let mine = nodes_of (in_part Listed items) in
      first_in mine id (sym (first (links_at links_of p) mine (h.parts Listed)) ∙ is)

  -- the first node was taken out of the chain
  pub listed_takes : (q : NodePool) (chain : Chain) (id : ℕ) → front ≡ Some id → Relinked IsSameNode p q → ((xs ys : List ℕ) → LiesIn links_of p a.listed (xs ++ id ∷ ys) → (k : ℕ) → (IsIn k (xs ++ ys) → ⊥) → get q k ≡ get p k) → ((xs ys : List ℕ) → LiesIn links_of p a.listed (xs ++ id ∷ ys) → LiesIn links_of q chain (xs ++ ys)) → TakesOut Listed p a q (record a { listed = chain }) (Some id)
  listed_takes q chain id is values others lies = record {
    none = λ items h e. cc;
    some = λ items node h e.
        let same : id ≡ node = cc in
        let there = front_in items id is h in
        subst (λ k. IsIn k (nodes_of items) × Holds q (record a { listed = chain }) (without_node k items)) same
        (of_part p a Listed items id h there, listed_out p q a items h chain id there values others lies);
    kept = kept_relinked p q values;
    others = λ items h k away.
        let mine = nodes_of (in_part Listed items) in
        let s = around id mine (front_in items id is h) in
        others s.before s.after (subst (LiesIn links_of p a.listed) s.is (h.parts Listed)) k
        (λ here. away (of_part p a Listed items k h (less_in id mine s k here)));
    method_is = refl;
    case_is = refl;
  }

  -- the chain is empty
  pub listed_ends : front ≡ None → TakesOut Listed p a p a None
  listed_ends is = record {
    none = λ items h e.
        let mine = in_part Listed items in
        (nodes_none mine (sym is ∙ first (links_at links_of p) (nodes_of mine) (h.parts Listed)), h);
    some = λ items node h e. cc;
    kept = kept_self p;
    others = λ items h k away. refl;
    method_is = refl;
    case_is = refl;
  }
