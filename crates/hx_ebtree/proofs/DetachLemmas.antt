-- Nodes that are live, and what the steps of taking one out change in the pool.
use Rattle.std.proofs.Common.{◌≡◌, ◌≢◌, ◌⊎◌, ℕ, Bool, true, false, List, [], ◌∷◌, length, Option, Some, None, IsSome, refl, sym, ap, subst, ◌∙◌, inl, inr}
use Rattle.std.specs.Option.{option_map, option_and_then}
use Rattle.hx_pool.specs.Pool.{Pool, get, IsLive}
use Rattle.hx_pool.specs.declared.chain.Chain.{Chain}
use Rattle.hx_pool.specs.Chain.{IsIn, LiesAt, first_or}
use Rattle.hx_pool.proofs.ChainLemmas.{in_same}
use Rattle.hx_ebtree.specs.declared.node.Down.{Down}
use Rattle.hx_ebtree.specs.declared.node.Down.TheVariants.{Leaf, Branch}
use Rattle.hx_ebtree.specs.declared.node.Up.{Up}
use Rattle.hx_ebtree.specs.declared.node.Branch.{Branch as Fork}
use Rattle.hx_ebtree.specs.declared.node.Node.{Node}
use Rattle.hx_ebtree.specs.KeyList.{KeyList, numbers_of, ids_of, Lists, IsOff, without}
use Rattle.hx_ebtree.specs.Shape.{Shape, leaf, fork, pairs_of, numbers, holders, all_of, none_of, nothing_of, only_of, IsSound, LeafPart, Leaves, Forks, links_in, key_in, left_of, right_of, HangsAt, IsLeafAt}
use Rattle.hx_ebtree.specs.ShapeContext.{ShapeContext, root, on_left, on_right, plug, hole_up, SurroundsAt}
use Rattle.hx_ebtree.specs.Change.{node_of, up_in}
use Rattle.hx_ebtree.specs.Tree.{leaf_part, leaves_of, forks_of, IsIdle, StandsAs}
use Rattle.hx_ebtree.specs.Remove.{other_of, Unchains, MakesFirst, Cuts, IsFirst, IsGap, IsWithout}
use Rattle.hx_ebtree.proofs.ShapeLemmas.{plug_in, plug_parted, plug_open, surrounds_frame}
use Rattle.hx_ebtree.proofs.ChangeLemmas.{hole_in}
use Rattle.hx_ebtree.proofs.WholeLemmas.{holder_number, above_hole}
use Rattle.hx_ebtree.proofs.RemoveLemmas.{leaf_place, off_number, number_listed, less_leaf, without_number, numbers_without}
use Rattle.hx_ebtree.proofs.NextLemmas.{leaf_up, detached_next}
use Rattle.hx_ebtree.proofs.CutLemmas.{IsOther, other_left, other_right, detached_other}
use Rattle.hx_ebtree.proofs.MoveLemmas.{down_has, around_has, down_number}

-- the branch at which a leaf that is alone hangs
pub record CutPlace (f : Leaves) (g : Forks) (at_root : Option Down) (id : ℕ) (place : Up) (part : Fork) (pairs : KeyList) : Type 0 where
  pub context : ShapeContext
  pub branch : Shape
  pub other : Shape
  pub up : Option Up
  pub side : IsOther branch other id place.node
  pub sound : IsSound (plug context branch)
  pub idle : IsIdle g (Some (plug context branch))
  pub same : (k : List Bool) → numbers_of k pairs ≡ numbers_of k (pairs_of (plug context branch))
  pub up_is : part.up ≡ hole_up context
  pub around : SurroundsAt f g at_root context (Branch place.node)
  pub hangs : HangsAt f g up other (other_of place.right part)

pub cut_place : (f : Leaves) (g : Forks) (at_root : Option Down) (id : ℕ) (place : Up) (part : Fork) (pairs : KeyList) → IsGap f g at_root id (Some place) pairs → g place.node ≡ Some part → CutPlace f g at_root id place part pairs
cut_place f g at_root id place part pairs gap has = by gap.context gap.key gap.up_is gap.around gap.sound gap.idle gap.same
  where
    by : (c : ShapeContext) (key : List Bool) → Some place ≡ hole_up c → SurroundsAt f g at_root c (Leaf id) → IsSound (plug c (leaf key id [])) → IsIdle g (Some (plug c (leaf key id [])))
        → ((k : List Bool) → numbers_of k pairs ≡ numbers_of k (pairs_of (plug c (leaf key id [])))) → CutPlace f g at_root id place part pairs
    by root key e a sound idle same = cc
    by (on_left c m sh r) key e a sound idle same =
        let is : place ≡ record { node = m; right = false } = cc in
        let q : Some part ≡ Some (record { bit = length sh; left = Leaf id; right = a.0; up = hole_up c }) = sym has ∙ ap g (ap (λ (v : Up). v.node) is) ∙ a.1.here in
        let part_is : part ≡ record { bit = length sh; left = Leaf id; right = a.0; up = hole_up c } = cc in
        let s = fork m sh (leaf key id []) r in
        subst (λ (u : Up). CutPlace f g at_root id u part pairs) (sym is) (record {
          context = c;
          branch = s;
          other = r;
          up = right_of m;
          side = other_right m sh key id r (plug_parted all_of nothing_of c s sound.numbers).first (plug_parted none_of only_of c s sound.holders).first (above_hole c s sound.above);
          sound = sound;
          idle = idle;
          same = same;
          up_is = ap (λ (b : Fork). b.up) part_is;
          around = a.3;
          hangs = subst (HangsAt f g (right_of m) r) (sym (ap (λ (b : Fork). b.right) part_is)) a.2;
        })
    by (on_right c m sh l) key e a sound idle same =
        let is : place ≡ record { node = m; right = true } = cc in
        let q : Some part ≡ Some (record { bit = length sh; left = a.0; right = Leaf id; up = hole_up c }) = sym has ∙ ap g (ap (λ (v : Up). v.node) is) ∙ a.1.here in
        let part_is : part ≡ record { bit = length sh; left = a.0; right = Leaf id; up = hole_up c } = cc in
        let s = fork m sh l (leaf key id []) in
        subst (λ (u : Up). CutPlace f g at_root id u part pairs) (sym is) (record {
          context = c;
          branch = s;
          other = l;
          up = left_of m;
          side = other_left m sh key id l (plug_parted all_of nothing_of c s sound.numbers).first (plug_parted none_of only_of c s sound.holders).first (above_hole c s sound.above);
          sound = sound;
          idle = idle;
          same = same;
          up_is = ap (λ (b : Fork). b.up) part_is;
          around = a.3;
          hangs = subst (HangsAt f g (left_of m) l) (sym (ap (λ (b : Fork). b.left) part_is)) a.2;
        })

pub gap_at : (f : Leaves) (g : Forks) (at_root : Option Down) (id : ℕ) (up now : Option Up) (pairs : KeyList) → up ≡ now → IsGap f g at_root id up pairs → IsGap f g at_root id now pairs
gap_at f g at_root id up now pairs e gap = subst (λ w. IsGap f g at_root id w pairs) e gap

pub cuts_at : (f : Leaves) (g : Forks) (at_root : Option Down) (f' : Leaves) (g' : Forks) (root' : Option Down) (m : ℕ) (up : Option Up) (other now : Down) → other ≡ now → Cuts f g at_root f' g' root' m up other → Cuts f g at_root f' g' root' m up now
cuts_at f g at_root f' g' root' m up other now e cut = subst (Cuts f g at_root f' g' root' m up) e cut

module _ (f : Leaves) (g : Forks) (at_root : Option Down) (id : ℕ) (place : Up) (pairs : KeyList) (gap : IsGap f g at_root id (Some place) pairs) where
  pub gap_has : (b : Fork) × (g place.node ≡ Some b)
  gap_has = around_has f g at_root gap.context (Leaf id) place gap.around (sym gap.up_is)

  module _ (part : Fork) (has : g place.node ≡ Some part) where
    abbrev at : CutPlace f g at_root id place part pairs
    at = cut_place f g at_root id place part pairs gap has

    pub cut_other_has : ((w : LeafPart) × (f (node_of (other_of place.right part)) ≡ Some w)) ⊎ ((b : Fork) × (g (node_of (other_of place.right part)) ≡ Some b))
    cut_other_has = down_has f g at.up at.other (other_of place.right part) at.hangs

    pub cut_up_has : (u : Up) → part.up ≡ Some u → (b : Fork) × (g u.node ≡ Some b)
    cut_up_has u e = around_has f g at_root at.context (Branch place.node) u at.around (sym at.up_is ∙ e)

    held_off : (k : ℕ) → IsOff k pairs → IsIn k (holders (plug at.context at.branch)) → ⊥
    held_off k off p = off_number (plug at.context at.branch) pairs at.same k off (holder_number (plug at.context at.branch) k at.sound.above p)

    pub cut_off : (k : ℕ) → IsOff k pairs → (k ≢ place.node) × (k ≢ node_of (other_of place.right part)) × ((u : Up) → part.up ≡ Some u → u.node ≢ k)
    cut_off k off = (
      λ e. held_off k off (plug_in none_of only_of at.context at.branch k (inl (in_same (holders at.branch) k place.node (sym e) at.side.m_in))),
      λ e. elim (down_number f g at.up at.other (other_of place.right part) at.hangs) as (λ _. ⊥) [
        | inl p ↦ off_number (plug at.context at.branch) pairs at.same k off (plug_in all_of nothing_of at.context at.branch k (inl (at.side.numbers_in k (in_same (numbers at.other) k (node_of (other_of place.right part)) (sym e) p))))
        | inr p ↦ held_off k off (plug_in none_of only_of at.context at.branch k (inl (at.side.holders_in k (in_same (holders at.other) k (node_of (other_of place.right part)) (sym e) p))))
      ],
      λ u e n. held_off k off (plug_in none_of only_of at.context at.branch k (inr (hole_in at.context u k (sym at.up_is ∙ e) n))),
    )

    pub cut_without : (f' : Leaves) (g' : Forks) (root' : Option Down) → Cuts f g at_root f' g' root' place.node part.up (other_of place.right part) → (shape : Option Shape) × IsWithout f' g' root' id place.node shape (without id pairs)
    cut_without f' g' root' cut = (
      Some (plug at.context at.other),
      detached_other f g at_root f' g' root' at.context at.branch at.other id place.node at.up (other_of place.right part) pairs at.side at.sound at.idle at.same
          (subst (λ w. Cuts f g at_root f' g' root' place.node w (other_of place.right part)) at.up_is cut) at.around at.hangs,
    )

-- the only leaf goes
pub alone_without : (f : Leaves) (g : Forks) (at_root : Option Down) (id : ℕ) (pairs : KeyList) → IsGap f g at_root id None pairs → (shape : Option Shape) × IsWithout f g None id id shape (without id pairs)
alone_without f g at_root id pairs gap = by gap.context gap.key gap.up_is gap.idle gap.same
  where
    by : (c : ShapeContext) (key : List Bool) → None ≡ hole_up c → IsIdle g (Some (plug c (leaf key id [])))
        → ((k : List Bool) → numbers_of k pairs ≡ numbers_of k (pairs_of (plug c (leaf key id [])))) → (shape : Option Shape) × IsWithout f g None id id shape (without id pairs)
    by root key e idle same = (None, (refl, idle id (inl refl) (λ p. p), λ k. numbers_without k id pairs ∙ ap (without_number id) (same k) ∙ sym (less_leaf k key id [] (λ p. p))))
    by (on_left c m sh r) key e idle same = cc
    by (on_right c m sh l) key e idle same = cc

-- the leaf of the first node of a key
pub record FirstPlace (f : Leaves) (g : Forks) (at_root : Option Down) (id : ℕ) (pairs : KeyList) : Type 0 where
  pub context : ShapeContext
  pub key : List Bool
  pub more : List ℕ
  pub stands : StandsAs f g at_root (Some (plug context (leaf key id more))) pairs
  pub around : SurroundsAt f g at_root context (Leaf id)
  pub inside : IsLeafAt f (hole_up context) key id more (Leaf id)

pub first_place : (f : Leaves) (g : Forks) (at_root : Option Down) (id : ℕ) (pairs : KeyList) → IsFirst f g at_root id pairs → FirstPlace f g at_root id pairs
first_place f g at_root id pairs first =
    let p = leaf_place root first.whole id first.first in
    let stands : StandsAs f g at_root (Some (plug p.context (leaf p.key id p.more))) pairs = subst (λ w. StandsAs f g at_root (Some w) pairs) p.is first.stands in
    let o = plug_open f g at_root p.context (leaf p.key id p.more) stands.hangs in
    let at : IsLeafAt f (hole_up p.context) p.key id p.more o.0 = o.1.inside in
    record {
      context = p.context;
      key = p.key;
      more = p.more;
      stands = stands;
      around = subst (SurroundsAt f g at_root p.context) at.points o.1.around;
      inside = subst (IsLeafAt f (hole_up p.context) p.key id p.more) at.points at;
    }

pub first_some : (xs : List ℕ) (k : ℕ) → Some k ≡ first_or xs None → (rest : List ℕ) × (xs ≡ k ∷ rest)
first_some [] k e = cc
first_some (x ∷ xs) k e = let same : x ≡ k = cc in (xs, ap (λ w. w ∷ xs) same)

pub first_none : (xs : List ℕ) → None ≡ first_or xs None → xs ≡ []
first_none [] e = refl
first_none (x ∷ xs) e = cc

module _ (f : Leaves) (g : Forks) (at_root : Option Down) (id : ℕ) (pairs : KeyList) (first : IsFirst f g at_root id pairs) where
  abbrev found : FirstPlace f g at_root id pairs
  found = first_place f g at_root id pairs first

  abbrev whole : Shape
  whole = plug found.context (leaf found.key id found.more)

  abbrev pub first_lies : (part : LeafPart) × (more : List ℕ) × (f id ≡ Some part) × LiesAt (links_in f) part.chain (id ∷ more)
  first_lies = (found.inside.part, found.more, found.inside.here, found.inside.lies)

  pub first_listed : Lists pairs id
  first_listed = number_listed whole pairs found.stands.same id (plug_in all_of nothing_of found.context (leaf found.key id found.more) id (inl (inl refl)))

  pub first_other : (k : ℕ) → IsOff k pairs → k ≢ id
  first_other k off e = off (in_same (ids_of pairs) k id (sym e) first_listed)

  off_chain : (k : ℕ) → IsOff k pairs → IsIn k (id ∷ found.more) → ⊥
  off_chain k off p = off_number whole pairs found.stands.same k off (plug_in all_of nothing_of found.context (leaf found.key id found.more) k (inl p))

  module _ (up : Option Up) (seen : up_in f id ≡ Some up) where
    up_is : up ≡ hole_up found.context
    up_is = leaf_up f (hole_up found.context) up found.key id found.more (Leaf id) found.inside seen

    pub first_up_has : (u : Up) → up ≡ Some u → (b : Fork) × (g u.node ≡ Some b)
    first_up_has u e = around_has f g at_root found.context (Leaf id) u found.around (sym up_is ∙ e)

    pub first_up_off : (k : ℕ) → IsOff k pairs → (u : Up) → up ≡ Some u → u.node ≢ k
    first_up_off k off u e n =
        off_number whole pairs found.stands.same k off (holder_number whole k found.stands.sound.above
        (plug_in none_of only_of found.context (leaf found.key id found.more) k (inr (hole_in found.context u k (sym up_is ∙ e) n))))

    module _ (f1 : Leaves) (g1 : Forks) (chain : Chain) (unchained : Unchains f g f1 g1 id id chain) where
      pub rest_lies : LiesAt (links_in f1) chain found.more
      rest_lies = unchained.lies found.inside.part [] found.more found.inside.here found.inside.lies

      pub next_key : (next : ℕ) → Some next ≡ first_or found.more None → key_in f1 next ≡ Some found.key
      next_key next e = let r = first_some found.more next e in unchained.keys next ∙ found.inside.keys next (inr (subst (IsIn next) (sym r.1) (inl refl)))

      pub next_off : (next : ℕ) → Some next ≡ first_or found.more None → (k : ℕ) → IsOff k pairs → k ≢ next
      next_off next e k off same = let r = first_some found.more next e in off_chain k off (inr (subst (IsIn k) (sym r.1) (inl same)))

      pub detach_next : (next : ℕ) → Some next ≡ first_or found.more None → (f' : Leaves) (g' : Forks) (root' : Option Down) → MakesFirst f1 g1 at_root f' g' root' next chain up → (shape : Option Shape) × IsWithout f' g' root' id next shape (without id pairs)
      detach_next next e f' g' root' made =
          let r = first_some found.more next e in (
            Some (plug found.context (leaf found.key next r.0)),
            detached_next f g at_root f1 g1 f' g' root' found.context found.key id next r.0 chain up pairs
                (subst (λ w. StandsAs f g at_root (Some (plug found.context (leaf found.key id w))) pairs) r.1 found.stands) unchained made seen,
          )

      pub detach_gap : None ≡ first_or found.more None → IsGap f1 g1 at_root id up pairs
      detach_gap e =
          let empty = first_none found.more e in
          let stands : StandsAs f g at_root (Some (plug found.context (leaf found.key id []))) pairs = subst (λ w. StandsAs f g at_root (Some (plug found.context (leaf found.key id w))) pairs) empty found.stands in
          let parted = plug_parted all_of nothing_of found.context (leaf found.key id found.more) found.stands.sound.numbers in
          record {
            context = found.context;
            key = found.key;
            up_is = up_is;
            around = surrounds_frame f f1 g g1 at_root found.context (Leaf id)
                (λ k p. unchained.leaves found.inside.part [] found.more found.inside.here found.inside.lies k (λ q. parted.apart k q p) (λ w. parted.apart k (inl w) p))
                (λ k p. unchained.forks k) found.around;
            sound = stands.sound;
            idle = λ k p off. unchained.forks k ∙ stands.idle k p off;
            same = stands.same;
          }

      pub unchained_off : (k : ℕ) → IsOff k pairs → (IsIn k (id ∷ found.more) → ⊥) × (k ≢ id)
      unchained_off k off = (off_chain k off, λ e. off_chain k off (inl e))

module _ {V : Type 0} where
  live_of_leaf : (o : Option (Node V)) (part : LeafPart) → option_map leaf_part o ≡ Some part → IsSome o
  live_of_leaf None part e = cc
  live_of_leaf (Some n) part e = refl

  pub leaf_live : (p : Pool (Node V)) (k : ℕ) (part : LeafPart) → leaves_of p k ≡ Some part → IsLive p k
  leaf_live p k part e = live_of_leaf (get p k) part e

  live_of_fork : (o : Option (Node V)) (b : Fork) → option_and_then (λ (n : Node V). n.branch) o ≡ Some b → IsSome o
  live_of_fork None b e = cc
  live_of_fork (Some n) b e = refl

  pub fork_live : (p : Pool (Node V)) (k : ℕ) (b : Fork) → forks_of p k ≡ Some b → IsLive p k
  fork_live p k b e = live_of_fork (get p k) b e

  live_of_key : (o : Option (Node V)) (key : List Bool) → option_map (λ (part : LeafPart). part.key) (option_map leaf_part o) ≡ Some key → IsSome o
  live_of_key None key e = cc
  live_of_key (Some n) key e = refl

  pub key_live : (p : Pool (Node V)) (k : ℕ) (key : List Bool) → key_in (leaves_of p) k ≡ Some key → IsLive p k
  key_live p k key e = live_of_key (get p k) key e

  pub part_live : (p : Pool (Node V)) (k : ℕ) → ((w : LeafPart) × (leaves_of p k ≡ Some w)) ⊎ ((b : Fork) × (forks_of p k ≡ Some b)) → IsLive p k
  part_live p k (inl w) = leaf_live p k w.0 w.1
  part_live p k (inr b) = fork_live p k b.0 b.1

  -- the branch part of a node that was read
  pub branch_read : (p : Pool (Node V)) (k : ℕ) (n : Node V) (o : Option Fork) → get p k ≡ Some n → n.branch ≡ o → forks_of p k ≡ o
  branch_read p k n o e b = ap (option_and_then (λ (w : Node V). w.branch)) e ∙ b

  pub up_read : (p : Pool (Node V)) (k : ℕ) (n : Node V) → get p k ≡ Some n → up_in (leaves_of p) k ≡ Some n.leaf_up
  up_read p k n e = ap (λ o. option_map (λ (part : LeafPart). part.up) (option_map leaf_part o)) e
