-- The first node of a key leaves it to the next.
use Rattle.std.proofs.Common.{◌≡◌, ◌≢◌, ℕ, Bool, List, [], ◌∷◌, Option, Some, None, refl, sym, ap, subst, ◌∙◌, inl, inr}
use Rattle.std.proofs.lemmas.Bool.{cases_eq}
use Rattle.std.specs.Option.{option_map}
use Rattle.hx_pool.specs.declared.chain.Chain.{Chain}
use Rattle.hx_pool.specs.Chain.{IsIn}
use Rattle.hx_pool.proofs.ChainLemmas.{lies_frame}
use Rattle.hx_ebtree.specs.declared.node.Down.{Down}
use Rattle.hx_ebtree.specs.declared.node.Down.TheVariants.{Leaf}
use Rattle.hx_ebtree.specs.declared.node.Up.{Up}
use Rattle.hx_ebtree.specs.KeyList.{KeyList, without}
use Rattle.hx_ebtree.specs.Shape.{Shape, leaf, numbers, holders, all_of, first_of, none_of, nothing_of, only_of, LeafPart, Leaves, Forks, links_in, key_in, IsLeafAt}
use Rattle.hx_ebtree.specs.ShapeContext.{ShapeContext, plug, hole_up, SurroundsAt}
use Rattle.hx_ebtree.specs.Change.{up_in, SetsDown, SetsFirst}
use Rattle.hx_ebtree.specs.Tree.{StandsAs}
use Rattle.hx_ebtree.specs.Remove.{Unchains, MakesFirst, IsDetached}
use Rattle.hx_ebtree.proofs.ShapeLemmas.{AreParted, plug_parted, plug_distinct, plug_in, plug_either, surrounds_frame, numbers_around, holders_around, Holds, plug_open, plug_close}
use Rattle.hx_ebtree.proofs.KeyedLemmas.{keyed_hole, keyed_replace}
use Rattle.hx_ebtree.proofs.ChangeLemmas.{hole_in, surrounds_down}
use Rattle.hx_ebtree.proofs.WholeLemmas.{holder_front}
use Rattle.hx_ebtree.proofs.RemoveLemmas.{by_replace, place_of, place_there, place_other, front_around, less_leaf, less_pairs}

-- a part that has this key
pub part_of : (o : Option LeafPart) (key : List Bool) → option_map (λ (p : LeafPart). p.key) o ≡ Some key → (part : LeafPart) × (o ≡ Some part)
part_of None key e = cc
part_of (Some part) key e = (part, refl)

module _ (f : Leaves) (g : Forks) (f' : Leaves) (g' : Forks) (id : ℕ) (chain : Chain) (up : Option Up) (part : LeafPart) (here : f id ≡ Some part) (set : SetsFirst f g f' g' id chain up) where
  first_same : (k : ℕ) → (links_in f' k ≡ links_in f k) × (key_in f' k ≡ key_in f k)
  first_same k = elim (cases_eq k id) as (λ _. (links_in f' k ≡ links_in f k) × (key_in f' k ≡ key_in f k)) [
    | inl same ↦
        let old : f k ≡ Some part = ap f same ∙ here in
        let new : f' k ≡ Some (record part { chain = chain; up = up }) = ap f' same ∙ set.leaf part here in (
          ap (option_map (λ (p : LeafPart). p.links)) new ∙ sym (ap (option_map (λ (p : LeafPart). p.links)) old),
          ap (option_map (λ (p : LeafPart). p.key)) new ∙ sym (ap (option_map (λ (p : LeafPart). p.key)) old),
        )
    | inr other ↦
        let kept : f' k ≡ f k = set.leaves k other in
        (ap (option_map (λ (p : LeafPart). p.links)) kept, ap (option_map (λ (p : LeafPart). p.key)) kept)
  ]

-- where the leaf of a node hangs
pub leaf_up : (f : Leaves) (up0 up : Option Up) (key : List Bool) (id : ℕ) (more : List ℕ) (down : Down) → IsLeafAt f up0 key id more down → up_in f id ≡ Some up → up ≡ up0
leaf_up f up0 up key id more down at seen =
    let e : Some up ≡ Some at.part.up = sym seen ∙ ap (option_map (λ (p : LeafPart). p.up)) at.here in
    let same : up ≡ at.part.up = cc in
    same ∙ at.hung

module _ (f : Leaves) (g : Forks) (at_root : Option Down) (f1 : Leaves) (g1 : Forks) (f' : Leaves) (g' : Forks) (root' : Option Down)
    (c : ShapeContext) (key : List Bool) (id next : ℕ) (more : List ℕ) (chain : Chain) (up : Option Up) (pairs : KeyList)
    (stands : StandsAs f g at_root (Some (plug c (leaf key id (next ∷ more)))) pairs)
    (unchained : Unchains f g f1 g1 id id chain) (made : MakesFirst f1 g1 at_root f' g' root' next chain up)
    (seen : up_in f id ≡ Some up) where
  abbrev old : Shape
  old = leaf key id (next ∷ more)

  abbrev new : Shape
  new = leaf key next more

  opened : (down : Down) × Holds f g at_root c old down
  opened = plug_open f g at_root c old stands.hangs

  inside : IsLeafAt f (hole_up c) key id (next ∷ more) opened.0
  inside = opened.1.inside

  parted : AreParted (id ∷ next ∷ more) (numbers_around c)
  parted = plug_parted all_of nothing_of c old stands.sound.numbers

  held : AreParted [] (holders_around c)
  held = plug_parted none_of only_of c old stands.sound.holders

  around1 : SurroundsAt f1 g1 at_root c opened.0
  around1 = surrounds_frame f f1 g g1 at_root c opened.0
      (λ k p. unchained.leaves inside.part [] (next ∷ more) inside.here inside.lies k (λ q. parted.apart k q p) (λ e. parted.apart k (inl e) p))
      (λ k p. unchained.forks k) opened.1.around

  around2 : SurroundsAt made.f1 made.g1 at_root c opened.0
  around2 = surrounds_frame f1 made.f1 g1 made.g1 at_root c opened.0
      (λ k p. made.kept.leaves k (λ e. parted.apart k (inr (inl e)) p)) (λ k p. made.kept.forks k) around1

  hung : up ≡ hole_up c
  hung = leaf_up f (hole_up c) up key id (next ∷ more) opened.0 inside seen

  down : SetsDown made.f1 made.g1 at_root f' g' root' (hole_up c) (Leaf next)
  down = subst (λ w. SetsDown made.f1 made.g1 at_root f' g' root' w (Leaf next)) hung made.down

  around3 : SurroundsAt f' g' root' c (Leaf next)
  around3 = surrounds_down made.f1 made.g1 at_root f' g' root' c opened.0 (Leaf next) down held.second around2

  was : (part : LeafPart) × (f1 next ≡ Some part)
  was = part_of (f1 next) key (unchained.keys next ∙ inside.keys next (inr (inl refl)))

  links_kept : (k : ℕ) → links_in f' k ≡ links_in f1 k
  links_kept k = ap (option_map (λ (p : LeafPart). p.links)) (down.leaves k) ∙ (first_same f1 g1 made.f1 made.g1 next chain up was.0 was.1 made.kept k).0

  keys_kept : (k : ℕ) → key_in f' k ≡ key_in f k
  keys_kept k = ap (option_map (λ (p : LeafPart). p.key)) (down.leaves k) ∙ (first_same f1 g1 made.f1 made.g1 next chain up was.0 was.1 made.kept k).1 ∙ unchained.keys k

  inside3 : IsLeafAt f' (hole_up c) key next more (Leaf next)
  inside3 = record {
    part = record was.0 { chain = chain; up = up };
    points = refl;
    here = down.leaves next ∙ made.kept.leaf was.0 was.1;
    hung = hung;
    lies = lies_frame (links_in f1) (links_in f') chain (next ∷ more) (λ k _. links_kept k) (unchained.lies inside.part [] (next ∷ more) inside.here inside.lies);
    keys = λ k p. keys_kept k ∙ inside.keys k (inr p);
  }

  off_around : (k : ℕ) → IsIn k (numbers_around c) → k ≢ id
  off_around k p e = parted.apart k (inl e) p

  -- the next node has no branch part yet
  next_free : IsIn next (holders (plug c new)) → ⊥
  next_free p = elim (plug_either none_of only_of c new next p) as (λ _. ⊥) [
    | inl q ↦ q
    | inr q ↦ elim (plug_either first_of nothing_of c old next (holder_front (plug c old) next stands.sound.above (plug_in none_of only_of c old next (inr q)))) as (λ _. ⊥) [
      | inl w ↦ elim w as (λ _. ⊥) [ inl e ↦ parted.first.0 (inl (sym e)) | inr w ↦ w ]
      | inr w ↦ parted.apart next (inr (inl refl)) (front_around c next w)
    ]
  ]

  unheld : (k : ℕ) → (IsIn k (holders (plug c new)) → ⊥) → IsIn k (holders (plug c old)) → ⊥
  unheld k off p = elim (plug_either none_of only_of c old k p) as (λ _. ⊥) [
    | inl q ↦ q
    | inr q ↦ off (plug_in none_of only_of c new k (inr q))
  ]

  was_number : (k : ℕ) → IsIn k (id ∷ numbers (plug c new)) → IsIn k (numbers (plug c old))
  was_number k (inl e) = plug_in all_of nothing_of c old k (inl (inl e))
  was_number k (inr p) = elim (plug_either all_of nothing_of c new k p) as (λ _. IsIn k (numbers (plug c old))) [
    | inl q ↦ plug_in all_of nothing_of c old k (inl (inr q))
    | inr q ↦ plug_in all_of nothing_of c old k (inr q)
  ]

  pub detached_next : IsDetached f' g' root' id next (plug c new) (without id pairs)
  detached_next = record {
    hangs = plug_close f' g' root' c new (Leaf next) (record { around = around3; inside = inside3 });
    keyed = keyed_replace c old new stands.sound.keyed (keyed_hole c old stands.sound.keyed);
    distinct = plug_distinct all_of nothing_of c new (record { first = parted.first.1; second = parted.second; apart = λ k p q. parted.apart k (inr p) q });
    distinct_holders = plug_distinct none_of only_of c new (record { first = tt; second = held.second; apart = λ k p q. p });
    gone = λ p. elim (plug_either all_of nothing_of c new id p) as (λ _. ⊥) [ inl q ↦ parted.first.0 q | inr q ↦ parted.apart id (inl refl) q ];
    place = place_of id next;
    moved = λ _. place_there id next id refl;
    stays = λ k d. place_other id next k d;
    above = by_replace (place_of id next) c old new stands.sound.above tt
        (λ k p. elim p as (λ _. IsIn (place_of id next k) (next ∷ [])) [ inl e ↦ inl (place_there id next k e) | inr q ↦ absurd q ])
        (λ k p. place_other id next k (off_around k (front_around c k p)));
    free = λ _ p. next_free p;
    idle = λ k p off. down.forks k (λ u e n. off (plug_in none_of only_of c new k (inr (hole_in c u k e n)))) ∙ made.kept.forks k ∙ unchained.forks k ∙ stands.idle k (was_number k p) (unheld k off);
    same = λ k. less_pairs id k pairs c old new (stands.same k) (λ p. parted.apart id (inl refl) p) (less_leaf k key id (next ∷ more) parted.first.0);
  }
