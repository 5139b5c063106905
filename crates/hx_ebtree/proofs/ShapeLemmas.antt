-- Shapes with holes: distinct numbers, what hangs where, and what is above what.
use Rattle.std.proofs.Common.{◌≡◌, ◌⊎◌, ℕ, Bool, List, ◌∷◌, ◌++◌, length, Option, Some, refl, ap, subst, ◌∙◌, inl, inr}
use Rattle.std.specs.Option.{option_map}
use Rattle.hx_pool.specs.Chain.{IsIn, AreDistinct, AreApart}
use Rattle.hx_pool.proofs.ChainLemmas.{in_left, in_right, in_either, distinct_left, distinct_right, distinct_apart, distinct_join, lies_frame}
use Rattle.hx_ebtree.specs.declared.node.Down.{Down}
use Rattle.hx_ebtree.specs.declared.node.Down.TheVariants.{Branch}
use Rattle.hx_ebtree.specs.declared.node.Up.{Up}
use Rattle.hx_ebtree.specs.Shape.{Shape, leaf, fork, gather, numbers, holders, all_of, first_of, none_of, nothing_of, only_of, Leaves, Forks, LeafPart, links_in, left_of, right_of, IsLeafAt, IsForkAt, HangsAt}
use Rattle.hx_ebtree.specs.ShapeContext.{ShapeContext, root, on_left, on_right, plug, hole_up, around, SurroundsAt}
use Rattle.hx_ebtree.specs.Tree.{HangsAtRoot}

-- two lists of distinct numbers that share none
pub record AreParted (xs ys : List ℕ) : Type 0 where
  pub first : AreDistinct xs
  pub second : AreDistinct ys
  pub apart : AreApart xs ys

parted_join : (xs ys : List ℕ) → AreParted xs ys → AreDistinct (xs ++ ys)
parted_join xs ys p = distinct_join xs ys p.first p.second p.apart

parted_split : (xs ys : List ℕ) → AreDistinct (xs ++ ys) → AreParted xs ys
parted_split xs ys d = record { first = distinct_left xs ys d; second = distinct_right xs ys d; apart = distinct_apart xs ys d }

-- a list between two others goes to the end
parted_out : (own xs ys zs : List ℕ) → AreParted (own ++ (xs ++ ys)) zs → AreParted xs (own ++ (ys ++ zs))
parted_out own xs ys zs p =
    let q = parted_split own (xs ++ ys) p.first in
    let r = parted_split xs ys q.second in
    let rest : AreParted ys zs = record { first = r.second; second = p.second; apart = λ k b c. p.apart k (in_right own (xs ++ ys) k (in_right xs ys k b)) c } in
    record {
      first = r.first;
      second = distinct_join own (ys ++ zs) q.first (parted_join ys zs rest) (λ k o bc. elim (in_either ys zs k bc) as (λ _. ⊥) [ inl b ↦ q.apart k o (in_right xs ys k b) | inr c ↦ p.apart k (in_left own (xs ++ ys) k o) c ]);
      apart = λ k a obc. elim (in_either own (ys ++ zs) k obc) as (λ _. ⊥) [
        | inl o ↦ q.apart k o (in_left xs ys k a)
        | inr bc ↦ elim (in_either ys zs k bc) as (λ _. ⊥) [ inl b ↦ r.apart k a b | inr c ↦ p.apart k (in_right own (xs ++ ys) k (in_left xs ys k a)) c ]
      ];
    }

parted_in : (own xs ys zs : List ℕ) → AreParted xs (own ++ (ys ++ zs)) → AreParted (own ++ (xs ++ ys)) zs
parted_in own xs ys zs p =
    let q = parted_split own (ys ++ zs) p.second in
    let r = parted_split ys zs q.second in
    record {
      first = distinct_join own (xs ++ ys) q.first (distinct_join xs ys p.first r.first (λ k a b. p.apart k a (in_right own (ys ++ zs) k (in_left ys zs k b))))
          (λ k o ab. elim (in_either xs ys k ab) as (λ _. ⊥) [ inl a ↦ p.apart k a (in_left own (ys ++ zs) k o) | inr b ↦ q.apart k o (in_left ys zs k b) ]);
      second = r.second;
      apart = λ k oab c. elim (in_either own (xs ++ ys) k oab) as (λ _. ⊥) [
        | inl o ↦ q.apart k o (in_right ys zs k c)
        | inr ab ↦ elim (in_either xs ys k ab) as (λ _. ⊥) [ inl a ↦ p.apart k a (in_right own (ys ++ zs) k (in_right ys zs k c)) | inr b ↦ r.apart k b c ]
      ];
    }

-- the same, where the list stands second
parted_out_right : (own xs ys zs : List ℕ) → AreParted (own ++ (ys ++ xs)) zs → AreParted xs (own ++ (ys ++ zs))
parted_out_right own xs ys zs p =
    let q = parted_split own (ys ++ xs) p.first in
    let r = parted_split ys xs q.second in
    parted_out own xs ys zs (record {
      first = distinct_join own (xs ++ ys) q.first (distinct_join xs ys r.second r.first (λ k a b. r.apart k b a))
          (λ k o ab. elim (in_either xs ys k ab) as (λ _. ⊥) [ inl a ↦ q.apart k o (in_right ys xs k a) | inr b ↦ q.apart k o (in_left ys xs k b) ]);
      second = p.second;
      apart = λ k oab c. elim (in_either own (xs ++ ys) k oab) as (λ _. ⊥) [
        | inl o ↦ p.apart k (in_left own (ys ++ xs) k o) c
        | inr ab ↦ elim (in_either xs ys k ab) as (λ _. ⊥) [ inl a ↦ p.apart k (in_right own (ys ++ xs) k (in_right ys xs k a)) c | inr b ↦ p.apart k (in_right own (ys ++ xs) k (in_left ys xs k b)) c ]
      ];
    })

parted_in_right : (own xs ys zs : List ℕ) → AreParted xs (own ++ (ys ++ zs)) → AreParted (own ++ (ys ++ xs)) zs
parted_in_right own xs ys zs p =
    let m = parted_in own xs ys zs p in
    let q = parted_split own (xs ++ ys) m.first in
    let r = parted_split xs ys q.second in
    record {
      first = distinct_join own (ys ++ xs) q.first (distinct_join ys xs r.second r.first (λ k b a. r.apart k a b))
          (λ k o ba. elim (in_either ys xs k ba) as (λ _. ⊥) [ inl b ↦ q.apart k o (in_right xs ys k b) | inr a ↦ q.apart k o (in_left xs ys k a) ]);
      second = m.second;
      apart = λ k oba c. elim (in_either own (ys ++ xs) k oba) as (λ _. ⊥) [
        | inl o ↦ m.apart k (in_left own (xs ++ ys) k o) c
        | inr ba ↦ elim (in_either ys xs k ba) as (λ _. ⊥) [ inl b ↦ m.apart k (in_right own (xs ++ ys) k (in_right xs ys k b)) c | inr a ↦ m.apart k (in_right own (xs ++ ys) k (in_left xs ys k a)) c ]
      ];
    }

module _ (at_leaf : ℕ → List ℕ → List ℕ) (at_fork : ℕ → List ℕ) where
  -- the numbers of a shape with a hole are those in the hole and those around it
  pub plug_parted : (c : ShapeContext) (s : Shape) → AreDistinct (gather at_leaf at_fork (plug c s)) → AreParted (gather at_leaf at_fork s) (around at_leaf at_fork c)
  plug_parted root s d = record { first = d; second = tt; apart = λ k a b. b }
  plug_parted (on_left c h sh r) s d =
      parted_out (at_fork h) (gather at_leaf at_fork s) (gather at_leaf at_fork r) (around at_leaf at_fork c) (plug_parted c (fork h sh s r) d)
  plug_parted (on_right c h sh l) s d =
      parted_out_right (at_fork h) (gather at_leaf at_fork s) (gather at_leaf at_fork l) (around at_leaf at_fork c) (plug_parted c (fork h sh l s) d)

  pub plug_distinct : (c : ShapeContext) (s : Shape) → AreParted (gather at_leaf at_fork s) (around at_leaf at_fork c) → AreDistinct (gather at_leaf at_fork (plug c s))
  plug_distinct root s p = p.first
  plug_distinct (on_left c h sh r) s p =
      plug_distinct c (fork h sh s r) (parted_in (at_fork h) (gather at_leaf at_fork s) (gather at_leaf at_fork r) (around at_leaf at_fork c) p)
  plug_distinct (on_right c h sh l) s p =
      plug_distinct c (fork h sh l s) (parted_in_right (at_fork h) (gather at_leaf at_fork s) (gather at_leaf at_fork l) (around at_leaf at_fork c) p)

  pub plug_in : (c : ShapeContext) (s : Shape) (k : ℕ) → IsIn k (gather at_leaf at_fork s) ⊎ IsIn k (around at_leaf at_fork c) → IsIn k (gather at_leaf at_fork (plug c s))
  plug_in root s k (inl p) = p
  plug_in root s k (inr p) = absurd p
  plug_in (on_left c h sh r) s k (inl p) =
      plug_in c (fork h sh s r) k (inl (in_right (at_fork h) _ k (in_left (gather at_leaf at_fork s) (gather at_leaf at_fork r) k p)))
  plug_in (on_left c h sh r) s k (inr p) = elim (in_either (at_fork h) (gather at_leaf at_fork r ++ around at_leaf at_fork c) k p) [
    | inl o ↦ plug_in c (fork h sh s r) k (inl (in_left (at_fork h) (gather at_leaf at_fork s ++ gather at_leaf at_fork r) k o))
    | inr q ↦ elim (in_either (gather at_leaf at_fork r) (around at_leaf at_fork c) k q) [
      | inl b ↦ plug_in c (fork h sh s r) k (inl (in_right (at_fork h) _ k (in_right (gather at_leaf at_fork s) (gather at_leaf at_fork r) k b)))
      | inr a ↦ plug_in c (fork h sh s r) k (inr a)
    ]
  ]
  plug_in (on_right c h sh l) s k (inl p) =
      plug_in c (fork h sh l s) k (inl (in_right (at_fork h) _ k (in_right (gather at_leaf at_fork l) (gather at_leaf at_fork s) k p)))
  plug_in (on_right c h sh l) s k (inr p) = elim (in_either (at_fork h) (gather at_leaf at_fork l ++ around at_leaf at_fork c) k p) [
    | inl o ↦ plug_in c (fork h sh l s) k (inl (in_left (at_fork h) (gather at_leaf at_fork l ++ gather at_leaf at_fork s) k o))
    | inr q ↦ elim (in_either (gather at_leaf at_fork l) (around at_leaf at_fork c) k q) [
      | inl b ↦ plug_in c (fork h sh l s) k (inl (in_right (at_fork h) _ k (in_left (gather at_leaf at_fork l) (gather at_leaf at_fork s) k b)))
      | inr a ↦ plug_in c (fork h sh l s) k (inr a)
    ]
  ]

  pub plug_either : (c : ShapeContext) (s : Shape) (k : ℕ) → IsIn k (gather at_leaf at_fork (plug c s)) → IsIn k (gather at_leaf at_fork s) ⊎ IsIn k (around at_leaf at_fork c)
  plug_either root s k p = inl p
  plug_either (on_left c h sh r) s k p = elim (plug_either c (fork h sh s r) k p) [
    | inl q ↦ elim (in_either (at_fork h) (gather at_leaf at_fork s ++ gather at_leaf at_fork r) k q) [
      | inl o ↦ inr (in_left (at_fork h) (gather at_leaf at_fork r ++ around at_leaf at_fork c) k o)
      | inr ab ↦ elim (in_either (gather at_leaf at_fork s) (gather at_leaf at_fork r) k ab) [
        | inl a ↦ inl a
        | inr b ↦ inr (in_right (at_fork h) _ k (in_left (gather at_leaf at_fork r) (around at_leaf at_fork c) k b))
      ]
    ]
    | inr q ↦ inr (in_right (at_fork h) _ k (in_right (gather at_leaf at_fork r) (around at_leaf at_fork c) k q))
  ]
  plug_either (on_right c h sh l) s k p = elim (plug_either c (fork h sh l s) k p) [
    | inl q ↦ elim (in_either (at_fork h) (gather at_leaf at_fork l ++ gather at_leaf at_fork s) k q) [
      | inl o ↦ inr (in_left (at_fork h) (gather at_leaf at_fork l ++ around at_leaf at_fork c) k o)
      | inr ab ↦ elim (in_either (gather at_leaf at_fork l) (gather at_leaf at_fork s) k ab) [
        | inl b ↦ inr (in_right (at_fork h) _ k (in_left (gather at_leaf at_fork l) (around at_leaf at_fork c) k b))
        | inr a ↦ inl a
      ]
    ]
    | inr q ↦ inr (in_right (at_fork h) _ k (in_right (gather at_leaf at_fork l) (around at_leaf at_fork c) k q))
  ]

-- what hangs depends on the parts of its own numbers alone
pub leaf_frame : (f f' : Leaves) (up : Option Up) (key : List Bool) (id : ℕ) (more : List ℕ) (down : Down) → ((k : ℕ) → IsIn k (id ∷ more) → f' k ≡ f k) → IsLeafAt f up key id more down → IsLeafAt f' up key id more down
leaf_frame f f' up key id more down same at = record {
  part = at.part;
  points = at.points;
  here = same id (inl refl) ∙ at.here;
  hung = at.hung;
  lies = lies_frame (links_in f) (links_in f') at.part.chain (id ∷ more) (λ k there. ap (option_map (λ (part : LeafPart). part.links)) (same k there)) at.lies;
  keys = λ k there. ap (option_map (λ (part : LeafPart). part.key)) (same k there) ∙ at.keys k there;
}

pub fork_frame : (g g' : Forks) (up : Option Up) (h bit : ℕ) (left right down : Down) → g' h ≡ g h → IsForkAt g up h bit left right down → IsForkAt g' up h bit left right down
fork_frame g g' up h bit left right down same at = record { points = at.points; here = same ∙ at.here }

pub hangs_frame : (f f' : Leaves) (g g' : Forks) (up : Option Up) (s : Shape) (down : Down) → ((k : ℕ) → IsIn k (numbers s) → f' k ≡ f k) → ((k : ℕ) → IsIn k (holders s) → g' k ≡ g k) → HangsAt f g up s down → HangsAt f' g' up s down
hangs_frame f f' g g' up (leaf key id more) down sf sg at = leaf_frame f f' up key id more down sf at
hangs_frame f f' g g' up (fork h sh l r) down sf sg at = (
  at.0,
  at.1,
  fork_frame g g' up h (length sh) at.0 at.1 down (sg h (inl refl)) at.2,
  hangs_frame f f' g g' (left_of h) l at.0 (λ k p. sf k (in_left (numbers l) (numbers r) k p)) (λ k p. sg k (inr (in_left (holders l) (holders r) k p))) at.3,
  hangs_frame f f' g g' (right_of h) r at.1 (λ k p. sf k (in_right (numbers l) (numbers r) k p)) (λ k p. sg k (inr (in_right (holders l) (holders r) k p))) at.4,
)

abbrev pub numbers_around : ShapeContext → List ℕ
numbers_around = around all_of nothing_of

abbrev pub fronts_around : ShapeContext → List ℕ
fronts_around = around first_of nothing_of

abbrev pub holders_around : ShapeContext → List ℕ
holders_around = around none_of only_of

pub surrounds_frame : (f f' : Leaves) (g g' : Forks) (at : Option Down) (c : ShapeContext) (down : Down) → ((k : ℕ) → IsIn k (numbers_around c) → f' k ≡ f k) → ((k : ℕ) → IsIn k (holders_around c) → g' k ≡ g k) → SurroundsAt f g at c down → SurroundsAt f' g' at c down
surrounds_frame f f' g g' at root down sf sg p = p
surrounds_frame f f' g g' at (on_left c h sh r) down sf sg p = (
  p.0,
  fork_frame g g' (hole_up c) h (length sh) down p.0 (Branch h) (sg h (inl refl)) p.1,
  hangs_frame f f' g g' (right_of h) r p.0 (λ k q. sf k (in_left (numbers r) (numbers_around c) k q)) (λ k q. sg k (inr (in_left (holders r) (holders_around c) k q))) p.2,
  surrounds_frame f f' g g' at c (Branch h) (λ k q. sf k (in_right (numbers r) (numbers_around c) k q)) (λ k q. sg k (inr (in_right (holders r) (holders_around c) k q))) p.3,
)
surrounds_frame f f' g g' at (on_right c h sh l) down sf sg p = (
  p.0,
  fork_frame g g' (hole_up c) h (length sh) p.0 down (Branch h) (sg h (inl refl)) p.1,
  hangs_frame f f' g g' (left_of h) l p.0 (λ k q. sf k (in_left (numbers l) (numbers_around c) k q)) (λ k q. sg k (inr (in_left (holders l) (holders_around c) k q))) p.2,
  surrounds_frame f f' g g' at c (Branch h) (λ k q. sf k (in_right (numbers l) (numbers_around c) k q)) (λ k q. sg k (inr (in_right (holders l) (holders_around c) k q))) p.3,
)

-- a whole that hangs at the root is its surroundings and what hangs in the hole
pub record Holds (f : Leaves) (g : Forks) (at : Option Down) (c : ShapeContext) (s : Shape) (down : Down) : Type 0 where
  pub around : SurroundsAt f g at c down
  pub inside : HangsAt f g (hole_up c) s down

pub plug_open : (f : Leaves) (g : Forks) (at : Option Down) (c : ShapeContext) (s : Shape) → HangsAtRoot f g at (Some (plug c s)) → (down : Down) × Holds f g at c s down
plug_open f g at root s p = (p.0, record { around = p.1; inside = p.2 })
plug_open f g at (on_left c h sh r) s p =
    let q = plug_open f g at c (fork h sh s r) p in
    let i = q.1.inside in
    (i.0, record { around = (i.1, record { points = refl; here = i.2.here }, i.4, subst (SurroundsAt f g at c) i.2.points q.1.around); inside = i.3 })
plug_open f g at (on_right c h sh l) s p =
    let q = plug_open f g at c (fork h sh l s) p in
    let i = q.1.inside in
    (i.1, record { around = (i.0, record { points = refl; here = i.2.here }, i.3, subst (SurroundsAt f g at c) i.2.points q.1.around); inside = i.4 })

pub plug_close : (f : Leaves) (g : Forks) (at : Option Down) (c : ShapeContext) (s : Shape) (down : Down) → Holds f g at c s down → HangsAtRoot f g at (Some (plug c s))
plug_close f g at root s down p = (down, p.around, p.inside)
plug_close f g at (on_left c h sh r) s down p =
    let a = p.around in
    plug_close f g at c (fork h sh s r) (Branch h) (record { around = a.3; inside = (down, a.0, a.1, p.inside, a.2) })
plug_close f g at (on_right c h sh l) s down p =
    let a = p.around in
    plug_close f g at c (fork h sh l s) (Branch h) (record { around = a.3; inside = (a.0, down, a.1, a.2, p.inside) })
