-- A node becomes a leaf of its own, or joins the chain of its key.
use Rattle.std.proofs.Common.{◌≡◌, ◌≢◌, ℕ, List, [], ◌∷◌, ◌++◌, Option, Some, None, refl, sym, ap, subst, ◌∙◌, inl, inr}
use Rattle.std.proofs.lemmas.Bool.{cases_eq}
use Rattle.std.specs.Option.{option_map, option_and_then}
use Rattle.hx_pool.specs.declared.chain.Chain.{Chain}
use Rattle.hx_pool.specs.Pool.{Pool, get}
use Rattle.hx_pool.specs.Chain.{IsIn, LiesAt, LiesIn, IsSameSlot, Relinked}
use Rattle.hx_pool.proofs.ChainLemmas.{lies_frame}
use Rattle.hx_ebtree.specs.declared.node.Up.{Up}
use Rattle.hx_ebtree.specs.declared.node.Branch.{Branch as Fork}
use Rattle.hx_ebtree.specs.declared.node.Node.{Node}
use Rattle.hx_ebtree.specs.Node.{links_of, IsSameNode}
use Rattle.hx_ebtree.specs.Shape.{LeafPart, links_in}
use Rattle.hx_ebtree.specs.Change.{TakesChain, PutsChain, SetsBranch, SetsLeaf, PutsLeaf, Pushes}
use Rattle.hx_ebtree.specs.Tree.{leaf_part, leaves_of, forks_of}
use Rattle.hx_ebtree.proofs.NodeLemmas.{slot_parts, lies_in_leaves, lies_in_pool}

alone : (id k : ℕ) → k ≢ id → IsIn k (id ∷ []) → ⊥
alone id k other (inl e) = other e
alone id k other (inr n) = n

-- a leaf part by one of its fields
has_up : (o : Option LeafPart) (up : Option Up) → option_map (λ (part : LeafPart). part.up) o ≡ Some up → (part : LeafPart) × (o ≡ Some part) × (part.up ≡ up)
has_up None up e = cc
has_up (Some part) up e = let same : part.up ≡ up = cc in (part, refl, same)

module _ {V : Type 0} where
  slot_key : (o : Option (Node V)) → option_map (λ (part : LeafPart). part.key) (option_map leaf_part o) ≡ option_map (λ (n : Node V). n.key) o
  slot_key None = refl
  slot_key (Some n) = refl

  slot_up : (o : Option (Node V)) → option_map (λ (part : LeafPart). part.up) (option_map leaf_part o) ≡ option_map (λ (n : Node V). n.leaf_up) o
  slot_up None = refl
  slot_up (Some n) = refl

  -- the leaf part of a node whose links alone changed
  relinked_part : (a b : Option (Node V)) (part : LeafPart) → option_map leaf_part a ≡ Some part → IsSameSlot IsSameNode a b → (new : LeafPart) × (option_map leaf_part b ≡ Some new) × (new.key ≡ part.key)
  relinked_part None b part e s = cc
  relinked_part (Some n) b part e s =
      let same : leaf_part n ≡ part = cc in
      (leaf_part s.0, ap (option_map leaf_part) s.1, ap (λ (m : Node V). m.key) s.2 ∙ ap (λ (w : LeafPart). w.key) same)

  -- the node is linked into a chain of its own in q, and is given it in r
  module _ (p q r : Pool (Node V)) (id : ℕ) (chain : Chain) (up : Option Up) (branch : Option Fork)
      (lies : LiesIn links_of q chain (id ∷ [])) (values : Relinked IsSameNode p q)
      (others : (k : ℕ) → (IsIn k (id ∷ []) → ⊥) → get q k ≡ get p k)
      (set : SetsLeaf (leaves_of q) (forks_of q) (leaves_of r) (forks_of r) id chain up branch) where
    linked_alone : (part : LeafPart) → leaves_of q id ≡ Some part → (k : ℕ) → IsIn k (id ∷ []) → links_in (leaves_of r) k ≡ links_in (leaves_of q) k
    linked_alone part here k (inl e) =
        ap (links_in (leaves_of r)) e ∙ ap (option_map (λ (w : LeafPart). w.links)) (set.leaf part here)
        ∙ sym (ap (option_map (λ (w : LeafPart). w.links)) here) ∙ ap (links_in (leaves_of q)) (sym e)
    linked_alone part here k (inr n) = absurd n

    pub puts_leaf : PutsLeaf (leaves_of p) (forks_of p) (leaves_of r) (forks_of r) id up branch
    puts_leaf = record {
      leaf = λ part here.
          let w = relinked_part (get p id) (get q id) part here (values.values id) in
          let new : LeafPart = record { key = w.0.key; links = w.0.links; chain = chain; up = up } in (
            new,
            set.leaf w.0 w.1,
            w.2,
            refl,
            lies_frame (links_in (leaves_of q)) (links_in (leaves_of r)) chain (id ∷ []) (linked_alone w.0 w.1) (lies_in_leaves q chain (id ∷ []) lies),
          );
      leaves = λ k other. set.leaves k other ∙ ap (option_map leaf_part) (others k (alone id k other));
      here = set.here;
      forks = λ k other. set.forks k other ∙ ap (option_and_then (λ (n : Node V). n.branch)) (others k (alone id k other));
    }

  pub puts_leaf_others : (p q r : Pool (Node V)) (id : ℕ) → ((k : ℕ) → (IsIn k (id ∷ []) → ⊥) → get q k ≡ get p k) → ((k : ℕ) → k ≢ id → get r k ≡ get q k) → (k : ℕ) → k ≢ id → get r k ≡ get p k
  puts_leaf_others p q r id first second k other = second k other ∙ first k (alone id k other)

  -- the chain is taken out of its front
  pub chain_taken : (p q : Pool (Node V)) (front : ℕ) (chain : Chain) → TakesChain (leaves_of p) (forks_of p) (leaves_of q) (forks_of q) front chain → (part : LeafPart) (xs : List ℕ) → leaves_of p front ≡ Some part → LiesAt (links_in (leaves_of p)) part.chain xs → LiesIn links_of q chain xs
  chain_taken p q front chain taken part xs here lies =
      lies_in_pool q chain xs (lies_frame (links_in (leaves_of p)) (links_in (leaves_of q)) chain xs (λ k _. taken.links k)
      (subst (λ (c : Chain). LiesAt (links_in (leaves_of p)) c xs) (sym (taken.taken part here)) lies))

  -- the chain is taken out in q, the node linked behind in r, the chain put back in s, and the
  -- node's branch part cleared in t
  module _ (p q r s t : Pool (Node V)) (front id : ℕ) (old new : Chain)
      (taken : TakesChain (leaves_of p) (forks_of p) (leaves_of q) (forks_of q) front old)
      (lies : (xs : List ℕ) → LiesIn links_of q old xs → (IsIn id xs → ⊥) → LiesIn links_of r new (xs ++ id ∷ []))
      (values : Relinked IsSameNode q r)
      (others : (xs : List ℕ) → LiesIn links_of q old xs → (k : ℕ) → (IsIn k (id ∷ xs) → ⊥) → get r k ≡ get q k)
      (put : PutsChain (leaves_of r) (forks_of r) (leaves_of s) (forks_of s) front new)
      (cleared : SetsBranch (leaves_of s) (forks_of s) (leaves_of t) (forks_of t) id None) where
    -- what a node that takes a chain keeps
    put_same : {A : Type 0} (field : LeafPart → A) → ((part : LeafPart) → field (record part { chain = new }) ≡ field part) → (part : LeafPart) → leaves_of r front ≡ Some part → (k : ℕ) → option_map field (leaves_of t k) ≡ option_map field (leaves_of r k)
    put_same field keeps part here k = ap (option_map field) (cleared.leaves k) ∙ (elim (cases_eq k front) as (λ _. option_map field (leaves_of s k) ≡ option_map field (leaves_of r k)) [
      | inl e ↦ ap (λ j. option_map field (leaves_of s j)) e ∙ ap (option_map field) (put.leaf part here) ∙ ap Some (keeps part) ∙ sym (ap (λ j. option_map field (leaves_of r j)) e ∙ ap (option_map field) here)
      | inr other ↦ ap (option_map field) (put.leaves k other)
    ])

    front_after : (part : LeafPart) → leaves_of p front ≡ Some part → (w : LeafPart) × (leaves_of r front ≡ Some w) × (w.up ≡ part.up)
    front_after part here = has_up (leaves_of r front) part.up
        (slot_up (get r front) ∙ (slot_parts (get q front) (get r front) (values.values front)).up ∙ sym (slot_up (get q front)) ∙ taken.ups front ∙ ap (option_map (λ (w : LeafPart). w.up)) here)

    off_both : (more : List ℕ) (k : ℕ) → (IsIn k (front ∷ more) → ⊥) → k ≢ id → IsIn k (id ∷ front ∷ more) → ⊥
    off_both more k off other (inl e) = other e
    off_both more k off other (inr q) = off q

    pub pushes : (part : LeafPart) → leaves_of p front ≡ Some part → Pushes (leaves_of p) (forks_of p) (leaves_of t) (forks_of t) front id
    pushes first first_here = record {
      leaf = λ part more here l off.
          let w = front_after part here in
          let next : LeafPart = record { key = w.0.key; links = w.0.links; chain = new; up = w.0.up } in (
            next,
            cleared.leaves front ∙ put.leaf w.0 w.1,
            w.2,
            lies_frame (links_in (leaves_of r)) (links_in (leaves_of t)) new (front ∷ more ++ id ∷ []) (λ k _. put_same (λ (v : LeafPart). v.links) (λ v. refl) w.0 w.1 k)
                (lies_in_leaves r new (front ∷ more ++ id ∷ []) (lies (front ∷ more) (chain_taken p q front old taken part (front ∷ more) here l) off)),
          );
      keys = λ k.
          let w = front_after first first_here in
          put_same (λ (v : LeafPart). v.key) (λ v. refl) w.0 w.1 k
          ∙ slot_key (get r k) ∙ (slot_parts (get q k) (get r k) (values.values k)).key ∙ sym (slot_key (get q k)) ∙ taken.keys k;
      leaves = λ part more here l k off other.
          cleared.leaves k ∙ put.leaves k (λ e. off (inl e))
          ∙ ap (option_map leaf_part) (others (front ∷ more) (chain_taken p q front old taken part (front ∷ more) here l) k (off_both more k off other))
          ∙ taken.leaves k (λ e. off (inl e));
      here = cleared.here;
      forks = λ k other. cleared.forks k other ∙ put.forks k ∙ (slot_parts (get q k) (get r k) (values.values k)).fork ∙ taken.forks k;
    }

    pub pushes_others : ((k : ℕ) → k ≢ front → get q k ≡ get p k) → ((k : ℕ) → k ≢ front → get s k ≡ get r k) → ((k : ℕ) → k ≢ id → get t k ≡ get s k)
        → (part : LeafPart) (more : List ℕ) → leaves_of p front ≡ Some part → LiesAt (links_in (leaves_of p)) part.chain (front ∷ more) → (k : ℕ) → (IsIn k (front ∷ more) → ⊥) → k ≢ id → get t k ≡ get p k
    pushes_others from_take from_put from_clear part more here l k off other =
        from_clear k other ∙ from_put k (λ e. off (inl e))
        ∙ others (front ∷ more) (chain_taken p q front old taken part (front ∷ more) here l) k (off_both more k off other)
        ∙ from_take k (λ e. off (inl e))
