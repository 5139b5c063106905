-- A node that is not the first of its key leaves its chain.
use Rattle.std.proofs.Common.{◌≡◌, ◌≢◌, ℕ, Bool, List, [], ◌∷◌, ◌++◌, Option, Some, None, refl, sym, ap, subst, ◌∙◌, inl, inr}
use Rattle.std.proofs.lemmas.Bool.{cases_eq}
use Rattle.std.specs.Option.{option_map}
use Rattle.hx_pool.specs.declared.links.Links.{Links}
use Rattle.hx_pool.specs.Chain.{IsIn, AreDistinct, LiesAt, first_or, last_or}
use Rattle.hx_pool.proofs.ChainLemmas.{in_right, in_either, distinct_left, distinct_right, distinct_apart, distinct_join, lies_frame, lies_links}
use Rattle.hx_ebtree.specs.declared.node.Down.{Down}
use Rattle.hx_ebtree.specs.declared.node.Down.TheVariants.{Leaf}
use Rattle.hx_ebtree.specs.KeyList.{KeyList, numbers_of, exact_of, Lists, IsOff, without}
use Rattle.hx_ebtree.specs.Shape.{Shape, leaf, fork, pairs_of, numbers, holders, all_of, first_of, none_of, nothing_of, only_of, LeafPart, Leaves, Forks, links_in, key_in, with_key, IsLeafAt}
use Rattle.hx_ebtree.specs.ShapeContext.{ShapeContext, root, on_left, on_right, plug, hole_up, SurroundsAt}
use Rattle.hx_ebtree.specs.Tree.{StandsAs}
use Rattle.hx_ebtree.specs.Remove.{Shortens, IsFirst}
use Rattle.hx_ebtree.proofs.ShapeLemmas.{AreParted, plug_parted, plug_distinct, plug_in, plug_either, surrounds_frame, numbers_around, holders_around, plug_open, plug_close}
use Rattle.hx_ebtree.proofs.KeyedLemmas.{keyed_hole, keyed_replace, numbers_in_hole, shape_ids}
use Rattle.hx_ebtree.proofs.PairLemmas.{key_cases, numbers_with, numbers_other, exact_is, listed_same}
use Rattle.hx_ebtree.proofs.WholeLemmas.{above_replace}
use Rattle.hx_ebtree.proofs.RemoveLemmas.{without_number, without_append, without_off, without_here, less_pairs, off_number}
use Rattle.hx_ebtree.proofs.UnchainLemmas.{in_rest}
use Rattle.hx_ebtree.proofs.NextLemmas.{part_of}

-- the leaf that has the number
record LeafOf (whole : Shape) (id : ℕ) : Type 0 where
  pub context : ShapeContext
  pub key : List Bool
  pub front : ℕ
  pub more : List ℕ
  pub is : whole ≡ plug context (leaf key front more)
  pub within : IsIn id (front ∷ more)

leaf_of : (c : ShapeContext) (s : Shape) (id : ℕ) → IsIn id (numbers s) → LeafOf (plug c s) id
leaf_of c (leaf key front more) id p = record { context = c; key = key; front = front; more = more; is = refl; within = p }
leaf_of c (fork h sh l r) id p = elim (in_either (numbers l) (numbers r) id p) as (λ _. LeafOf (plug c (fork h sh l r)) id) [
  | inl q ↦ leaf_of (on_left c h sh r) l id q
  | inr q ↦ leaf_of (on_right c h sh l) r id q
]

-- where a listed number is
pub record NodePlace (f : Leaves) (g : Forks) (at_root : Option Down) (id : ℕ) (pairs : KeyList) : Type 0 where
  pub context : ShapeContext
  pub key : List Bool
  pub front : ℕ
  pub more : List ℕ
  pub stands : StandsAs f g at_root (Some (plug context (leaf key front more))) pairs
  pub within : IsIn id (front ∷ more)
  pub around : SurroundsAt f g at_root context (Leaf front)
  pub inside : IsLeafAt f (hole_up context) key front more (Leaf front)

pub node_place : (f : Leaves) (g : Forks) (at_root : Option Down) (shape : Option Shape) (id : ℕ) (pairs : KeyList) → StandsAs f g at_root shape pairs → Lists pairs id → NodePlace f g at_root id pairs
node_place f g at_root None id pairs stands listed = absurd (listed_same pairs [] stands.same id listed)
node_place f g at_root (Some s) id pairs stands listed =
    let p = leaf_of root s id (subst (IsIn id) (shape_ids s) (listed_same pairs (pairs_of s) stands.same id listed)) in
    let whole : StandsAs f g at_root (Some (plug p.context (leaf p.key p.front p.more))) pairs = subst (λ w. StandsAs f g at_root (Some w) pairs) p.is stands in
    let o = plug_open f g at_root p.context (leaf p.key p.front p.more) whole.hangs in
    let at : IsLeafAt f (hole_up p.context) p.key p.front p.more o.0 = o.1.inside in
    record {
      context = p.context;
      key = p.key;
      front = p.front;
      more = p.more;
      stands = whole;
      within = p.within;
      around = subst (SurroundsAt f g at_root p.context) at.points o.1.around;
      inside = subst (IsLeafAt f (hole_up p.context) p.key p.front p.more) at.points at;
    }

-- a number of a list splits it
pub record Split (id : ℕ) (xs : List ℕ) : Type 0 where
  pub before : List ℕ
  pub after : List ℕ
  pub is : xs ≡ before ++ id ∷ after

pub split_at : (id : ℕ) (xs : List ℕ) → IsIn id xs → Split id xs
split_at id [] p = absurd p
split_at id (x ∷ xs) (inl e) = record { before = []; after = xs; is = ap (λ w. w ∷ xs) (sym e) }
split_at id (x ∷ xs) (inr p) = let s = split_at id xs p in record { before = x ∷ s.before; after = s.after; is = ap (λ w. x ∷ w) s.is }

last_some : (x : ℕ) (xs : List ℕ) → last_or (Some x) xs ≡ None → ⊥
last_some x [] e = cc
last_some x (y ∷ xs) e = last_some y xs e

without_split : (id : ℕ) (xs ys : List ℕ) → AreDistinct (xs ++ id ∷ ys) → xs ++ ys ≡ without_number id (xs ++ id ∷ ys)
without_split id xs ys d =
    let off_xs : IsIn id xs → ⊥ = λ p. distinct_apart xs (id ∷ ys) d id p (inl refl) in
    let off_ys : IsIn id ys → ⊥ = (distinct_right xs (id ∷ ys) d).0 in
    sym (without_append id xs (id ∷ ys) ∙ ap (λ w. w ++ without_number id (id ∷ ys)) (without_off id xs off_xs) ∙ ap (λ w. xs ++ w) (without_here id ys ∙ without_off id ys off_ys))

less_chain : (k key : List Bool) (id : ℕ) (xs ys : List ℕ) → AreDistinct (xs ++ id ∷ ys) → numbers_of k (with_key key (xs ++ ys)) ≡ without_number id (numbers_of k (with_key key (xs ++ id ∷ ys)))
less_chain k key id xs ys d = elim (key_cases key k) as (λ _. numbers_of k (with_key key (xs ++ ys)) ≡ without_number id (numbers_of k (with_key key (xs ++ id ∷ ys)))) [
  | inl e ↦ subst (λ w. numbers_of w (with_key key (xs ++ ys)) ≡ without_number id (numbers_of w (with_key key (xs ++ id ∷ ys)))) e
      (numbers_with key (xs ++ ys) ∙ without_split id xs ys d ∙ ap (without_number id) (sym (numbers_with key (xs ++ id ∷ ys))))
  | inr o ↦ numbers_other k key (xs ++ ys) o ∙ ap (without_number id) (sym (numbers_other k key (xs ++ id ∷ ys) o))
]

distinct_rest : (xs : List ℕ) (id : ℕ) (ys : List ℕ) → AreDistinct (xs ++ id ∷ ys) → AreDistinct (xs ++ ys)
distinct_rest xs id ys d = distinct_join xs ys (distinct_left xs (id ∷ ys) d) (distinct_right xs (id ∷ ys) d).1 (λ k p q. distinct_apart xs (id ∷ ys) d k p (inr q))

-- the node of a number: the first of its key, or a later one
module _ (f : Leaves) (g : Forks) (at_root : Option Down) (shape : Option Shape) (id : ℕ) (pairs : KeyList) (all : StandsAs f g at_root shape pairs) (listed : Lists pairs id) where
  abbrev at : NodePlace f g at_root id pairs
  at = node_place f g at_root shape id pairs all listed

  abbrev whole : Shape
  whole = plug at.context (leaf at.key at.front at.more)

  pub node_key : key_in f id ≡ Some at.key
  node_key = at.inside.keys id at.within

  pub node_exact : exact_of pairs at.key ≡ Some at.front
  node_exact =
      exact_is pairs at.key
      ∙ ap (λ w. first_or w None) (at.stands.same at.key ∙ numbers_in_hole at.context (leaf at.key at.front at.more) at.key at.stands.sound.keyed (keyed_hole at.context (leaf at.key at.front at.more) at.stands.sound.keyed)
      ∙ numbers_with at.key (at.front ∷ at.more))

  -- the links of a later node lead back
  later_links : (s : Split id at.more) → links_in f id ≡ Some (record { prev = last_or (Some at.front) s.before; next = first_or s.after None })
  later_links s =
      lies_links (links_in f) at.inside.part.chain (at.front ∷ s.before) id s.after
      (subst (λ w. LiesAt (links_in f) at.inside.part.chain (at.front ∷ w)) s.is at.inside.lies)

  first_links : id ≡ at.front → (l : Links) → links_in f id ≡ Some l → l.prev ≡ None
  first_links e l seen =
      let q : links_in f at.front ≡ Some (record { prev = None; next = first_or at.more None }) = lies_links (links_in f) at.inside.part.chain [] at.front at.more at.inside.lies in
      let r : Some l ≡ Some (record { prev = None; next = first_or at.more None }) = sym seen ∙ ap (links_in f) e ∙ q in
      let same : l ≡ record { prev = None; next = first_or at.more None } = cc in
      ap (λ (w : Links). w.prev) same

  pub node_first : (l : Links) → links_in f id ≡ Some l → l.prev ≡ None → IsFirst f g at_root id pairs
  node_first l seen none = record {
    whole = whole;
    stands = at.stands;
    first = plug_in first_of nothing_of at.context (leaf at.key at.front at.more) id (inl (inl (elim at.within as (λ _. id ≡ at.front) [
      | inl e ↦ e
      | inr p ↦
          let s = split_at id at.more p in
          let r : Some l ≡ Some (record { prev = last_or (Some at.front) s.before; next = first_or s.after None }) = sym seen ∙ later_links s in
          let same : l ≡ record { prev = last_or (Some at.front) s.before; next = first_or s.after None } = cc in
          absurd (last_some at.front s.before (sym (ap (λ (w : Links). w.prev) same) ∙ none))
    ])));
  }

  pub node_later : (l : Links) (j : ℕ) → links_in f id ≡ Some l → l.prev ≡ Some j → Split id at.more
  node_later l j seen some = elim at.within as (λ _. Split id at.more) [
    | inl e ↦ let none = first_links e l seen in let q : Some j ≡ None = sym some ∙ none in cc
    | inr p ↦ split_at id at.more p
  ]

  module _ (s : Split id at.more) where
    abbrev old : List ℕ
    old = at.front ∷ (s.before ++ id ∷ s.after)

    abbrev rest : List ℕ
    rest = s.before ++ s.after

    pub later_lies : LiesAt (links_in f) at.inside.part.chain old
    later_lies = subst (λ w. LiesAt (links_in f) at.inside.part.chain (at.front ∷ w)) s.is at.inside.lies

    pub later_off : (k : ℕ) → IsOff k pairs → (IsIn k old → ⊥) × (k ≢ at.front)
    later_off k off =
        let out : IsIn k (at.front ∷ at.more) → ⊥ = λ p. off_number whole pairs at.stands.same k off (plug_in all_of nothing_of at.context (leaf at.key at.front at.more) k (inl p)) in
        ((λ p. out (subst (λ w. IsIn k (at.front ∷ w)) (sym s.is) p)), (λ e. out (inl e)))

    module _ (f' : Leaves) (g' : Forks) (change : Shortens f g f' g' at.front id) where
      abbrev c : ShapeContext
      c = at.context

      abbrev before : Shape
      before = leaf at.key at.front (s.before ++ id ∷ s.after)

      abbrev after : Shape
      after = leaf at.key at.front rest

      stands : StandsAs f g at_root (Some (plug c before)) pairs
      stands = subst (λ w. StandsAs f g at_root (Some (plug c (leaf at.key at.front w))) pairs) s.is at.stands

      parted : AreParted old (numbers_around c)
      parted = plug_parted all_of nothing_of c before stands.sound.numbers

      held : AreParted [] (holders_around c)
      held = plug_parted none_of only_of c before stands.sound.holders

      was : (part : LeafPart) × (change.f1 at.front ≡ Some part)
      was = part_of (change.f1 at.front) at.key (change.unchained.keys at.front ∙ at.inside.keys at.front (inl refl))

      put_same : (k : ℕ) → (links_in f' k ≡ links_in change.f1 k) × (key_in f' k ≡ key_in change.f1 k)
      put_same k = elim (cases_eq k at.front) as (λ _. (links_in f' k ≡ links_in change.f1 k) × (key_in f' k ≡ key_in change.f1 k)) [
        | inl same ↦
            let then : change.f1 k ≡ Some was.0 = ap change.f1 same ∙ was.1 in
            let now : f' k ≡ Some (record was.0 { chain = change.chain }) = ap f' same ∙ change.put.leaf was.0 was.1 in (
              ap (option_map (λ (p : LeafPart). p.links)) now ∙ sym (ap (option_map (λ (p : LeafPart). p.links)) then),
              ap (option_map (λ (p : LeafPart). p.key)) now ∙ sym (ap (option_map (λ (p : LeafPart). p.key)) then),
            )
        | inr other ↦
            let kept : f' k ≡ change.f1 k = change.put.leaves k other in
            (ap (option_map (λ (p : LeafPart). p.links)) kept, ap (option_map (λ (p : LeafPart). p.key)) kept)
      ]

      hung : was.0.up ≡ hole_up c
      hung =
          let q : Some was.0.up ≡ Some at.inside.part.up = sym (ap (option_map (λ (p : LeafPart). p.up)) was.1) ∙ change.unchained.ups at.front ∙ ap (option_map (λ (p : LeafPart). p.up)) at.inside.here in
          let same : was.0.up ≡ at.inside.part.up = cc in
          same ∙ at.inside.hung

      number_kept : (k : ℕ) → IsIn k (at.front ∷ rest) → IsIn k old
      number_kept k p = in_rest (at.front ∷ s.before) id s.after k p

      inside : IsLeafAt f' (hole_up c) at.key at.front rest (Leaf at.front)
      inside = record {
        part = record was.0 { chain = change.chain };
        points = refl;
        here = change.put.leaf was.0 was.1;
        hung = hung;
        lies = lies_frame (links_in change.f1) (links_in f') change.chain (at.front ∷ rest) (λ k _. (put_same k).0)
            (change.unchained.lies at.inside.part (at.front ∷ s.before) s.after at.inside.here later_lies);
        keys = λ k p. (put_same k).1 ∙ change.unchained.keys k ∙ at.inside.keys k (subst (λ w. IsIn k (at.front ∷ w)) (sym s.is) (number_kept k p));
      }

      forks_kept : (k : ℕ) → g' k ≡ g k
      forks_kept k = change.put.forks k ∙ change.unchained.forks k

      around : SurroundsAt f' g' at_root c (Leaf at.front)
      around = surrounds_frame f f' g g' at_root c (Leaf at.front)
          (λ k p.
          let other : k ≢ at.front = λ e. parted.apart k (inl e) p in
          change.put.leaves k other ∙ change.unchained.leaves at.inside.part (at.front ∷ s.before) s.after at.inside.here later_lies k (λ q. parted.apart k q p) other)
          (λ k p. forks_kept k) at.around

      was_number : (k : ℕ) → IsIn k (numbers (plug c after)) → IsIn k (numbers (plug c before))
      was_number k p = elim (plug_either all_of nothing_of c after k p) as (λ _. IsIn k (numbers (plug c before))) [
        | inl q ↦ plug_in all_of nothing_of c before k (inl (number_kept k q))
        | inr q ↦ plug_in all_of nothing_of c before k (inr q)
      ]

      unheld : (k : ℕ) → (IsIn k (holders (plug c after)) → ⊥) → IsIn k (holders (plug c before)) → ⊥
      unheld k off p = elim (plug_either none_of only_of c before k p) as (λ _. ⊥) [
        | inl q ↦ q
        | inr q ↦ off (plug_in none_of only_of c after k (inr q))
      ]

      pub later_stands : StandsAs f' g' at_root (Some (plug c after)) (without id pairs)
      later_stands = record {
        hangs = plug_close f' g' at_root c after (Leaf at.front) (record { around = around; inside = inside });
        sound = record {
          keyed = keyed_replace c before after stands.sound.keyed (keyed_hole c before stands.sound.keyed);
          above = above_replace c before after stands.sound.above tt (λ k p. p);
          numbers = plug_distinct all_of nothing_of c after (record { first = distinct_rest (at.front ∷ s.before) id s.after parted.first; second = parted.second; apart = λ k p q. parted.apart k (number_kept k p) q });
          holders = plug_distinct none_of only_of c after (record { first = tt; second = held.second; apart = λ k p q. p });
        };
        idle = λ k p off. forks_kept k ∙ stands.idle k (was_number k p) (unheld k off);
        same = λ k. less_pairs id k pairs c before after (stands.same k) (λ p. parted.apart id (in_right (at.front ∷ s.before) (id ∷ s.after) id (inl refl)) p)
            (less_chain k at.key id (at.front ∷ s.before) s.after parted.first);
      }
