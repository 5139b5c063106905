-- What hangs where, after a single change.
use Rattle.std.proofs.Common.{◌≡◌, ℕ, true, false, ◌∷◌, ◌++◌, Option, Some, refl, sym, ap, subst, ◌∙◌, inl, inr}
use Rattle.std.proofs.lemmas.Bool.{cases_eq}
use Rattle.std.specs.Option.{option_map}
use Rattle.hx_pool.specs.Chain.{IsIn, AreDistinct}
use Rattle.hx_pool.proofs.ChainLemmas.{in_left, in_right, in_same, lies_frame}
use Rattle.hx_ebtree.specs.declared.node.Down.{Down}
use Rattle.hx_ebtree.specs.declared.node.Down.TheVariants.{Leaf, Branch}
use Rattle.hx_ebtree.specs.declared.node.Up.{Up}
use Rattle.hx_ebtree.specs.Shape.{Shape, leaf, fork, numbers, holders, Leaves, Forks, LeafPart, links_in, key_in, left_of, right_of, HangsAt}
use Rattle.hx_ebtree.specs.ShapeContext.{ShapeContext, root, on_left, on_right, hole_up, SurroundsAt}
use Rattle.hx_ebtree.specs.Change.{SetsUp, SetsDown}
use Rattle.hx_ebtree.proofs.ShapeLemmas.{hangs_frame, surrounds_frame, holders_around}

-- what points to a shape names one of its own
pub down_leaf : (f : Leaves) (g : Forks) (up : Option Up) (s : Shape) (down : Down) (k : ℕ) → HangsAt f g up s down → down ≡ Leaf k → IsIn k (numbers s)
down_leaf f g up (leaf key id more) down k at e = let p = at.points in let same : k ≡ id = cc in inl same
down_leaf f g up (fork h sh l r) down k at e = let p = at.2.points in cc

pub down_branch : (f : Leaves) (g : Forks) (up : Option Up) (s : Shape) (down : Down) (k : ℕ) → HangsAt f g up s down → down ≡ Branch k → IsIn k (holders s)
down_branch f g up (leaf key id more) down k at e = let p = at.points in cc
down_branch f g up (fork h sh l r) down k at e = let p = at.2.points in let same : k ≡ h = cc in inl same

-- what the hole hangs at is around it
pub hole_in : (c : ShapeContext) (u : Up) (k : ℕ) → hole_up c ≡ Some u → u.node ≡ k → IsIn k (holders_around c)
hole_in root u k e n = cc
hole_in (on_left c h sh r) u k e n = let same : u ≡ record { node = h; right = false } = cc in inl (sym n ∙ ap (λ (v : Up). v.node) same)
hole_in (on_right c h sh l) u k e n = let same : u ≡ record { node = h; right = true } = cc in inl (sym n ∙ ap (λ (v : Up). v.node) same)

module _ (f : Leaves) (g : Forks) (f' : Leaves) (g' : Forks) (down : Down) (up' : Option Up) (set : SetsUp f g f' g' down up') where
  seen_same : (id : ℕ) (part : LeafPart) (k : ℕ) → down ≡ Leaf id → f id ≡ Some part → (links_in f' k ≡ links_in f k) × (key_in f' k ≡ key_in f k)
  seen_same id part k points here = elim (cases_eq k id) as (λ _. (links_in f' k ≡ links_in f k) × (key_in f' k ≡ key_in f k)) [
    | inl same ↦
        let old : f k ≡ Some part = ap f same ∙ here in
        let new : f' k ≡ Some (record part { up = up' }) = ap f' same ∙ set.leaf id part points here in (
          ap (option_map (λ (p : LeafPart). p.links)) new ∙ sym (ap (option_map (λ (p : LeafPart). p.links)) old),
          ap (option_map (λ (p : LeafPart). p.key)) new ∙ sym (ap (option_map (λ (p : LeafPart). p.key)) old),
        )
    | inr other ↦
        let kept : f' k ≡ f k = set.leaves k (λ e. other (cc)) in
        (ap (option_map (λ (p : LeafPart). p.links)) kept, ap (option_map (λ (p : LeafPart). p.key)) kept)
  ]

  -- the same shape hangs elsewhere
  pub rehang : (up : Option Up) (s : Shape) → AreDistinct (holders s) → HangsAt f g up s down → HangsAt f' g' up' s down
  rehang up (leaf key id more) d at = record {
    part = record at.part { up = up' };
    points = at.points;
    here = set.leaf id at.part at.points at.here;
    hung = refl;
    lies = lies_frame (links_in f) (links_in f') at.part.chain (id ∷ more) (λ k there. (seen_same id at.part k at.points at.here).0) at.lies;
    keys = λ k there. (seen_same id at.part k at.points at.here).1 ∙ at.keys k there;
  }
  rehang up (fork h sh l r) d at =
      let p = at.2.points in
      let leaves : (k : ℕ) → f' k ≡ f k = λ k. set.leaves k (λ e. cc) in
      let forks : (k : ℕ) → IsIn k (holders l ++ holders r) → g' k ≡ g k = λ k there. set.forks k (λ e. let same : k ≡ h = cc in d.0 (in_same (holders l ++ holders r) h k same there)) in (
        at.0,
        at.1,
        record { points = p; here = set.fork h _ p at.2.here },
        hangs_frame f f' g g' (left_of h) l at.0 (λ k _. leaves k) (λ k q. forks k (in_left (holders l) (holders r) k q)) at.3,
        hangs_frame f f' g g' (right_of h) r at.1 (λ k _. leaves k) (λ k q. forks k (in_right (holders l) (holders r) k q)) at.4,
      )

module _ (f : Leaves) (g : Forks) (at : Option Down) (f' : Leaves) (g' : Forks) (at' : Option Down) where
  -- the hole's side points to something else
  pub surrounds_down : (c : ShapeContext) (down down' : Down) → SetsDown f g at f' g' at' (hole_up c) down' → AreDistinct (holders_around c) → SurroundsAt f g at c down → SurroundsAt f' g' at' c down'
  surrounds_down root down down' set d p = set.top refl
  surrounds_down (on_left c h sh r) down down' set d p =
      let others : (k : ℕ) → IsIn k (holders r ++ holders_around c) → g' k ≡ g k = λ k there. set.forks k (λ u e n. let same : u ≡ record { node = h; right = false } = cc in d.0 (in_same (holders r ++ holders_around c) h k (sym n ∙ ap (λ (v : Up). v.node) same) there)) in (
        p.0,
        record { points = refl; here = set.left h _ refl p.1.here },
        hangs_frame f f' g g' (right_of h) r p.0 (λ k _. set.leaves k) (λ k q. others k (in_left (holders r) (holders_around c) k q)) p.2,
        subst (λ w. SurroundsAt f' g' w c (Branch h)) (sym (set.kept _ refl))
            (surrounds_frame f f' g g' at c (Branch h) (λ k _. set.leaves k) (λ k q. others k (in_right (holders r) (holders_around c) k q)) p.3),
      )
  surrounds_down (on_right c h sh l) down down' set d p =
      let others : (k : ℕ) → IsIn k (holders l ++ holders_around c) → g' k ≡ g k = λ k there. set.forks k (λ u e n. let same : u ≡ record { node = h; right = true } = cc in d.0 (in_same (holders l ++ holders_around c) h k (sym n ∙ ap (λ (v : Up). v.node) same) there)) in (
        p.0,
        record { points = refl; here = set.right h _ refl p.1.here },
        hangs_frame f f' g g' (left_of h) l p.0 (λ k _. set.leaves k) (λ k q. others k (in_left (holders l) (holders_around c) k q)) p.2,
        subst (λ w. SurroundsAt f' g' w c (Branch h)) (sym (set.kept _ refl))
            (surrounds_frame f f' g g' at c (Branch h) (λ k _. set.leaves k) (λ k q. others k (in_right (holders l) (holders_around c) k q)) p.3),
      )
