-- A chain is taken out of the node that keeps it, and a number out of the chain.
use Rattle.std.proofs.Common.{◌≡◌, ◌≢◌, ℕ, List, ◌∷◌, ◌++◌, Option, Some, None, refl, sym, ap, subst, ◌∙◌, inl, inr}
use Rattle.std.specs.Option.{option_map}
use Rattle.hx_pool.specs.declared.chain.Chain.{Chain}
use Rattle.hx_pool.specs.Pool.{Pool, get}
use Rattle.hx_pool.specs.Chain.{IsIn, LiesAt, LiesIn, Relinked}
use Rattle.hx_pool.proofs.ChainLemmas.{in_left, in_right, in_either, lies_frame}
use Rattle.hx_ebtree.specs.declared.node.Node.{Node}
use Rattle.hx_ebtree.specs.Node.{links_of, IsSameNode}
use Rattle.hx_ebtree.specs.Shape.{LeafPart, links_in}
use Rattle.hx_ebtree.specs.Change.{TakesChain}
use Rattle.hx_ebtree.specs.Remove.{Unchains}
use Rattle.hx_ebtree.specs.Tree.{leaf_part, leaves_of, forks_of}
use Rattle.hx_ebtree.proofs.NodeLemmas.{slot_parts, lies_in_leaves, lies_in_pool}

-- a number less in the list
pub in_rest : (xs : List ℕ) (id : ℕ) (ys : List ℕ) (k : ℕ) → IsIn k (xs ++ ys) → IsIn k (xs ++ id ∷ ys)
in_rest xs id ys k p = elim (in_either xs ys k p) as (λ _. IsIn k (xs ++ id ∷ ys)) [
  | inl a ↦ in_left xs (id ∷ ys) k a
  | inr b ↦ in_right xs (id ∷ ys) k (inr b)
]

module _ {V : Type 0} where
  key_seen : (o : Option (Node V)) → option_map (λ (part : LeafPart). part.key) (option_map leaf_part o) ≡ option_map (λ (n : Node V). n.key) o
  key_seen None = refl
  key_seen (Some n) = refl

  up_seen : (o : Option (Node V)) → option_map (λ (part : LeafPart). part.up) (option_map leaf_part o) ≡ option_map (λ (n : Node V). n.leaf_up) o
  up_seen None = refl
  up_seen (Some n) = refl

  module _ (p q : Pool (Node V)) (front : ℕ) (chain : Chain) (taken : TakesChain (leaves_of p) (forks_of p) (leaves_of q) (forks_of q) front chain) where
    pub taken_lies : (part : LeafPart) (xs : List ℕ) → leaves_of p front ≡ Some part → LiesAt (links_in (leaves_of p)) part.chain xs → LiesIn links_of q chain xs
    taken_lies part xs here lies =
        lies_in_pool q chain xs (lies_frame (links_in (leaves_of p)) (links_in (leaves_of q)) chain xs (λ k _. taken.links k)
        (subst (λ (c : Chain). LiesAt (links_in (leaves_of p)) c xs) (sym (taken.taken part here)) lies))

    module _ (r : Pool (Node V)) (rest : Chain) (id : ℕ)
        (lies : (xs ys : List ℕ) → LiesIn links_of q chain (xs ++ id ∷ ys) → LiesIn links_of r rest (xs ++ ys))
        (values : Relinked IsSameNode q r)
        (others : (xs ys : List ℕ) → LiesIn links_of q chain (xs ++ id ∷ ys) → (k : ℕ) → (IsIn k (xs ++ ys) → ⊥) → get r k ≡ get q k) where
      pub unchains : Unchains (leaves_of p) (forks_of p) (leaves_of r) (forks_of r) front id rest
      unchains = record {
        lies = λ part xs ys here l. lies_in_leaves r rest (xs ++ ys) (lies xs ys (taken_lies part (xs ++ id ∷ ys) here l));
        keys = λ k. key_seen (get r k) ∙ (slot_parts (get q k) (get r k) (values.values k)).key ∙ sym (key_seen (get q k)) ∙ taken.keys k;
        ups = λ k. up_seen (get r k) ∙ (slot_parts (get q k) (get r k) (values.values k)).up ∙ sym (up_seen (get q k)) ∙ taken.ups k;
        leaves = λ part xs ys here l k off other. ap (option_map leaf_part) (others xs ys (taken_lies part (xs ++ id ∷ ys) here l) k (λ w. off (in_rest xs id ys k w))) ∙ taken.leaves k other;
        forks = λ k. (slot_parts (get q k) (get r k) (values.values k)).fork ∙ taken.forks k;
      }

      pub unchains_others : ((k : ℕ) → k ≢ front → get q k ≡ get p k) → (part : LeafPart) (xs ys : List ℕ) → leaves_of p front ≡ Some part → LiesAt (links_in (leaves_of p)) part.chain (xs ++ id ∷ ys)
          → (k : ℕ) → (IsIn k (xs ++ id ∷ ys) → ⊥) → k ≢ front → get r k ≡ get p k
      unchains_others first part xs ys here l k off other = others xs ys (taken_lies part (xs ++ id ∷ ys) here l) k (λ w. off (in_rest xs id ys k w)) ∙ first k other
