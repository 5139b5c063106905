-- What the numbers of a key say of the links of their nodes.
use Rattle.std.proofs.Common.{◌≡◌, ◌⊎◌, ℕ, Bool, true, false, List, [], ◌∷◌, ◌++◌, length, get_or, Option, Some, None, refl, sym, ap, subst, ◌∙◌, inl, inr, true≢false}
use Rattle.std.proofs.lemmas.List.{append-nil}
use Rattle.std.specs.Option.{option_map}
use Rattle.hx_pool.specs.declared.links.Links.{Links}
use Rattle.hx_pool.specs.Pool.{Pool, get}
use Rattle.hx_pool.specs.Chain.{IsIn, LiesAt, first_or, last_or}
use Rattle.hx_pool.proofs.ChainLemmas.{in_right, lies_links}
use Rattle.hx_ebtree.specs.declared.node.Down.{Down}
use Rattle.hx_ebtree.specs.declared.node.Up.{Up}
use Rattle.hx_ebtree.specs.declared.node.Node.{Node}
use Rattle.hx_ebtree.specs.declared.tree.Tree.{Tree}
use Rattle.hx_ebtree.specs.Bits.{code_of}
use Rattle.hx_ebtree.specs.KeyList.{KeyList, exact_of, numbers_of}
use Rattle.hx_ebtree.specs.Shape.{Shape, leaf, fork, pairs_of, with_key, IsKeyed, LeafPart, Leaves, Forks, links_in, key_in, left_of, right_of, HangsAt}
use Rattle.hx_ebtree.specs.Tree.{leaf_part, leaves_of, StandsAs, Stands}
use Rattle.hx_ebtree.proofs.CodeLemmas.{prefix_bit}
use Rattle.hx_ebtree.proofs.PairLemmas.{key_cases, numbers_append, numbers_with, numbers_other, exact_is}
use Rattle.hx_ebtree.proofs.KeyedLemmas.{none_below}

-- a key is on one side of a fork at most
one_side : (p key : List Bool) (l r : Shape) → IsKeyed (p ++ false ∷ []) l → IsKeyed (p ++ true ∷ []) r → (numbers_of key (pairs_of l) ≡ []) ⊎ (numbers_of key (pairs_of r) ≡ [])
one_side p key l r kl kr = by (get_or (code_of key) (length p) false) refl
  where
    by : (b : Bool) → get_or (code_of key) (length p) false ≡ b → (numbers_of key (pairs_of l) ≡ []) ⊎ (numbers_of key (pairs_of r) ≡ [])
    by true e = inl (none_below (p ++ false ∷ []) l key kl (λ q. true≢false (sym e ∙ prefix_bit p false (code_of key) q)))
    by false e = inr (none_below (p ++ true ∷ []) r key kr (λ q. true≢false (sym (prefix_bit p true (code_of key) q) ∙ e)))

not_empty : (xs : List ℕ) (id : ℕ) (ys : List ℕ) → [] ≡ xs ++ id ∷ ys → ⊥
not_empty [] id ys e = cc
not_empty (x ∷ xs) id ys e = cc

-- the node of a number that stands among those of its key
pub record IsPlaced (f : Leaves) (key : List Bool) (xs : List ℕ) (id : ℕ) (ys : List ℕ) : Type 0 where
  pub links : links_in f id ≡ Some (record { prev = last_or None xs; next = first_or ys None })
  pub keyed : key_in f id ≡ Some key

module _ (f : Leaves) (g : Forks) where
  placed_in : (up : Option Up) (p : List Bool) (s : Shape) (down : Down) (key : List Bool) (xs : List ℕ) (id : ℕ) (ys : List ℕ) → IsKeyed p s → HangsAt f g up s down → numbers_of key (pairs_of s) ≡ xs ++ id ∷ ys → IsPlaced f key xs id ys
  placed_in up p (leaf other front more) down key xs id ys keyed at e = elim (key_cases other key) as (λ _. IsPlaced f key xs id ys) [
    | inl same ↦
        let all : front ∷ more ≡ xs ++ id ∷ ys = sym (numbers_with other (front ∷ more)) ∙ ap (λ w. numbers_of w (with_key other (front ∷ more))) same ∙ e in
        record {
          links = lies_links (links_in f) at.part.chain xs id ys (subst (LiesAt (links_in f) at.part.chain) all at.lies);
          keyed = at.keys id (subst (IsIn id) (sym all) (in_right xs (id ∷ ys) id (inl refl))) ∙ ap Some same;
        }
    | inr differs ↦ absurd (not_empty xs id ys (sym (numbers_other key other (front ∷ more) differs) ∙ e))
  ]
  placed_in up p (fork h sh l r) down key xs id ys keyed at e = elim (one_side sh key l r keyed.1 keyed.2) as (λ _. IsPlaced f key xs id ys) [
    | inl none ↦ placed_in (right_of h) (sh ++ true ∷ []) r at.1 key xs id ys keyed.2 at.4 (sym (numbers_append key (pairs_of l) (pairs_of r) ∙ ap (λ w. w ++ numbers_of key (pairs_of r)) none) ∙ e)
    | inr none ↦ placed_in (left_of h) (sh ++ false ∷ []) l at.0 key xs id ys keyed.1 at.3 (sym (numbers_append key (pairs_of l) (pairs_of r) ∙ ap (λ w. numbers_of key (pairs_of l) ++ w) none ∙ append-nil (numbers_of key (pairs_of l))) ∙ e)
  ]

  pub placed : (root : Option Down) (shape : Option Shape) (pairs : KeyList) (key : List Bool) (xs : List ℕ) (id : ℕ) (ys : List ℕ) → StandsAs f g root shape pairs → numbers_of key pairs ≡ xs ++ id ∷ ys → IsPlaced f key xs id ys
  placed root None pairs key xs id ys stands e = absurd (not_empty xs id ys (sym (stands.same key) ∙ e))
  placed root (Some s) pairs key xs id ys stands e = placed_in None [] s stands.hangs.0 key xs id ys stands.sound.keyed stands.hangs.2 (sym (stands.same key) ∙ e)

first_split : (xs : List ℕ) (id : ℕ) → first_or xs None ≡ Some id → (ys : List ℕ) × (xs ≡ id ∷ ys)
first_split [] id e = cc
first_split (x ∷ xs) id e = let same : x ≡ id = cc in (xs, ap (λ w. w ∷ xs) same)

module _ {V : Type 0} (p : Pool (Node V)) (t : Tree) (pairs : KeyList) (id : ℕ) (n : Node V) (got : get p id ≡ Some n) (l : Links) (read : l ≡ n.links) (stands : Stands p t pairs) where
  -- the links that were read of a node
  pub links_read : (key : List Bool) (xs ys : List ℕ) → numbers_of key pairs ≡ xs ++ id ∷ ys → (l.prev ≡ last_or None xs) × (l.next ≡ first_or ys None)
  links_read key xs ys e =
      let at = placed (leaves_of p) _ t.root stands.shape pairs key xs id ys stands.stands e in
      let seen : Some l ≡ Some (record { prev = last_or None xs; next = first_or ys None }) =
      ap Some read ∙ sym (ap (λ o. option_map (λ (part : LeafPart). part.links) (option_map leaf_part o)) got) ∙ at.links in
      both l (record { prev = last_or None xs; next = first_or ys None }) seen
    where
      both : (a b : Links) → Some a ≡ Some b → (a.prev ≡ b.prev) × (a.next ≡ b.next)
      both a b e = let same : a ≡ b = cc in (ap (λ (w : Links). w.prev) same, ap (λ (w : Links). w.next) same)

  -- nothing is before the first node of a key
  pub first_read : (key : List Bool) → exact_of pairs key ≡ Some id → l.prev ≡ None
  first_read key e =
      let s = first_split (numbers_of key pairs) id (sym (exact_is pairs key) ∙ e) in
      (links_read key [] s.0 s.1).0

  pub not_later : (key : List Bool) (j : ℕ) → l.prev ≡ Some j → exact_of pairs key ≡ Some id → ⊥
  not_later key j some e = let none = first_read key e in cc
