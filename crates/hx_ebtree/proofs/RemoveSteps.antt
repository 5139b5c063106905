-- A listed node that was read: it is the first of its key, or a later one.
use Rattle.std.proofs.Common.{◌≡◌, ◌≢◌, ℕ, Bool, List, ◌∷◌, ◌++◌, Option, Some, None, sym, ap, subst, ◌∙◌}
use Rattle.std.specs.Option.{option_map}
use Rattle.hx_pool.specs.declared.links.Links.{Links}
use Rattle.hx_pool.specs.Pool.{Pool, get, IsLive}
use Rattle.hx_pool.specs.Chain.{IsIn, LiesAt}
use Rattle.hx_ebtree.specs.declared.node.Down.{Down}
use Rattle.hx_ebtree.specs.declared.node.Node.{Node}
use Rattle.hx_ebtree.specs.KeyList.{KeyList, exact_of, Lists, IsOff, without}
use Rattle.hx_ebtree.specs.Shape.{Shape, leaf, LeafPart, Leaves, Forks, links_in}
use Rattle.hx_ebtree.specs.ShapeContext.{plug}
use Rattle.hx_ebtree.specs.Tree.{leaf_part, leaves_of, forks_of, StandsAs}
use Rattle.hx_ebtree.specs.Remove.{Shortens, IsFirst}
use Rattle.hx_ebtree.proofs.DetachLemmas.{key_live}
use Rattle.hx_ebtree.proofs.LaterLemmas.{NodePlace, node_place, Split, node_key, node_exact, node_first, node_later, later_lies, later_off, later_stands}

-- a node that `front`, the first of its key, has in its chain
pub record LaterAt (f : Leaves) (g : Forks) (at_root : Option Down) (id front : ℕ) (pairs : KeyList) : Type 0 where
  pub part : LeafPart
  pub before : List ℕ
  pub after : List ℕ
  pub here : f front ≡ Some part
  pub lies : LiesAt (links_in f) part.chain (before ++ id ∷ after)
  pub out : (k : ℕ) → IsOff k pairs → (IsIn k (before ++ id ∷ after) → ⊥) × (k ≢ front)
  pub stands : (f' : Leaves) (g' : Forks) → Shortens f g f' g' front id → (now : Option Shape) × StandsAs f' g' at_root now (without id pairs)

module _ {V : Type 0} where
  module _ (p : Pool (Node V)) (at_root : Option Down) (shape : Option Shape) (id : ℕ) (pairs : KeyList)
      (all : StandsAs (leaves_of p) (forks_of p) at_root shape pairs) (listed : Lists pairs id) where
    abbrev at : NodePlace (leaves_of p) (forks_of p) at_root id pairs
    at = node_place (leaves_of p) (forks_of p) at_root shape id pairs all listed

    pub node_live : IsLive p id
    node_live = key_live p id at.key (node_key (leaves_of p) (forks_of p) at_root shape id pairs all listed)

    module _ (n : Node V) (got : get p id ≡ Some n) where
      keyed : n.key ≡ at.key
      keyed =
          let q : Some n.key ≡ Some at.key = sym (ap (λ o. option_map (λ (part : LeafPart). part.key) (option_map leaf_part o)) got) ∙ node_key (leaves_of p) (forks_of p) at_root shape id pairs all listed in
          cc

      seen : (l : Links) → l ≡ n.links → links_in (leaves_of p) id ≡ Some l
      seen l e = ap (λ o. option_map (λ (part : LeafPart). part.links) (option_map leaf_part o)) got ∙ ap Some (sym e)

      pub is_first : (l : Links) → l ≡ n.links → l.prev ≡ None → IsFirst (leaves_of p) (forks_of p) at_root id pairs
      is_first l e none = node_first (leaves_of p) (forks_of p) at_root shape id pairs all listed l (seen l e) none

      exact_front : (o : Option ℕ) (key : List Bool) → key ≡ n.key → o ≡ exact_of pairs key → o ≡ Some at.front
      exact_front o key e found = found ∙ ap (exact_of pairs) (e ∙ keyed) ∙ node_exact (leaves_of p) (forks_of p) at_root shape id pairs all listed

      pub exact_some : (o : Option ℕ) (key : List Bool) → key ≡ n.key → o ≡ exact_of pairs key → o ≡ None → ⊥
      exact_some o key e found none = let q : Some at.front ≡ None = sym (exact_front o key e found) ∙ none in cc

      pub is_later : (l : Links) (j : ℕ) → l ≡ n.links → l.prev ≡ Some j → (o : Option ℕ) (key : List Bool) (front : ℕ) → key ≡ n.key → o ≡ exact_of pairs key → o ≡ Some front → LaterAt (leaves_of p) (forks_of p) at_root id front pairs
      is_later l j e some o key front ek found is =
          let s : Split id at.more = node_later (leaves_of p) (forks_of p) at_root shape id pairs all listed l j (seen l e) some in
          let q : Some at.front ≡ Some front = sym (exact_front o key ek found) ∙ is in
          let same : at.front ≡ front = cc in
          subst (λ h. LaterAt (leaves_of p) (forks_of p) at_root id h pairs) same (record {
            part = at.inside.part;
            before = at.front ∷ s.before;
            after = s.after;
            here = at.inside.here;
            lies = later_lies (leaves_of p) (forks_of p) at_root shape id pairs all listed s;
            out = later_off (leaves_of p) (forks_of p) at_root shape id pairs all listed s;
            stands = λ f' g' change. (Some (plug at.context (leaf at.key at.front (s.before ++ s.after))), later_stands (leaves_of p) (forks_of p) at_root shape id pairs all listed s f' g' change);
          })
