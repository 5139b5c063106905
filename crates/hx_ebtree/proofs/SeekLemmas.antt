-- One step of the way down to a key, and its two ends.
use Rattle.std.proofs.Common.{◌≡◌, ◌⊎◌, ℕ, ◌+◌, ◌*◌, ◌<◌, ◌≤◌, Bool, true, false, cond, nat_lt, List, [], ◌∷◌, ◌++◌, length, get_or, Option, Some, None, IsSome, refl, sym, ap, subst, ◌∙◌, inl, inr, arith, length-append}
use Rattle.std.proofs.lemmas.Bool.Decides.{nat_tests}
use Rattle.std.specs.Option.{option_map, option_and_then}
use Rattle.hx_pool.specs.Pool.{Pool, get, IsLive}
use Rattle.hx_pool.specs.Chain.{IsIn}
use Rattle.hx_pool.proofs.ChainLemmas.{in_either}
use Rattle.hx_ebtree.specs.declared.node.Down.{Down}
use Rattle.hx_ebtree.specs.declared.node.Down.TheVariants.{Leaf, Branch}
use Rattle.hx_ebtree.specs.declared.node.Up.{Up}
use Rattle.hx_ebtree.specs.declared.node.Branch.{Branch as Fork}
use Rattle.hx_ebtree.specs.declared.node.Node.{Node}
use Rattle.hx_ebtree.specs.declared.seek.Seat.{Seat}
use Rattle.hx_ebtree.specs.declared.seek.Seat.TheVariants.{Beside}
use Rattle.hx_ebtree.specs.Bits.{bits_of, code_of, IsPrefix, split_of}
use Rattle.hx_ebtree.specs.KeyList.{KeyList}
use Rattle.hx_ebtree.specs.Shape.{Shape, leaf, fork, fronts, IsKeyed, LeafPart, Leaves, Forks, key_in, left_of, right_of, HangsAt}
use Rattle.hx_ebtree.specs.ShapeContext.{root, on_left, on_right, hole_up, hole_shared}
use Rattle.hx_ebtree.specs.Tree.{leaf_part, leaves_of, forks_of, StandsAs}
use Rattle.hx_ebtree.specs.Seat.{split_before_of, side_of, leaf_seat_of, IsHole, Reaches, IsSeat}
use Rattle.hx_ebtree.proofs.BitLemmas.{code_length}
use Rattle.hx_ebtree.proofs.CodeLemmas.{prefix_on, prefix_under, prefix_length, prefix_next, prefix_none, split_parts, split_same, parts_within, parts_bit, parts_under, parts_past, parts_in}
use Rattle.hx_ebtree.proofs.KeyedLemmas.{keyed_hole}
use Rattle.hx_ebtree.proofs.WholeLemmas.{above_hole}

-- what a node that was read says of the parts
module _ {V : Type 0} (p : Pool (Node V)) (id : ℕ) (n : Node V) (at : get p id ≡ Some n) where
  pub node_key : (key : List Bool) → key_in (leaves_of p) id ≡ Some key → n.key ≡ key
  node_key key e = let seen : Some n.key ≡ Some key = sym (ap (λ (o : Option (Node V)). option_map (λ (part : LeafPart). part.key) (option_map leaf_part o)) at) ∙ e in cc

  pub key_seen : key_in (leaves_of p) id ≡ Some n.key
  key_seen = ap (λ (o : Option (Node V)). option_map (λ (part : LeafPart). part.key) (option_map leaf_part o)) at

  pub fork_seen : forks_of p id ≡ n.branch
  fork_seen = ap (option_and_then (λ (m : Node V). m.branch)) at

key_some : {V : Type 0} (o : Option (Node V)) (key : List Bool) → option_map (λ (part : LeafPart). part.key) (option_map leaf_part o) ≡ Some key → IsSome o
key_some None key e = cc
key_some (Some n) key e = refl

fork_some : {V : Type 0} (o : Option (Node V)) (b : Fork) → option_and_then (λ (m : Node V). m.branch) o ≡ Some b → IsSome o
fork_some None b e = cc
fork_some (Some n) b e = refl

pub key_live : {V : Type 0} (p : Pool (Node V)) (id : ℕ) (key : List Bool) → key_in (leaves_of p) id ≡ Some key → IsLive p id
key_live p id key e = key_some (get p id) key e

pub fork_live : {V : Type 0} (p : Pool (Node V)) (id : ℕ) (b : Fork) → forks_of p id ≡ Some b → IsLive p id
fork_live p id b e = fork_some (get p id) b e

-- the bits of a key that was read
pub bits_seen : (bytes : List ℕ) (n : ℕ) (key : List Bool) → bits_of bytes (length key) ≡ key → n ≡ length key → bits_of bytes n ≡ key
bits_seen bytes n key e f = ap (bits_of bytes) f ∙ e

before_by : (limit bit at : ℕ) (b : Bool) → nat_lt at limit ≡ b → Some bit ≡ cond b (Some at) None → (at ≡ bit) × (at < limit)
before_by limit bit at true e f = let same : at ≡ bit = cc in (same, grind (arith, nat_tests))
before_by limit bit at false e f = cc

pub before_some : (limit bit : ℕ) (o : Option ℕ) → Some bit ≡ split_before_of limit o → (o ≡ Some bit) × (bit < limit)
before_some limit bit None e = cc
before_some limit bit (Some at) e = let w = before_by limit bit at (nat_lt at limit) refl e in (ap Some w.0, omega (arith, w.0, w.1))

after_by : (limit at : ℕ) (b : Bool) → nat_lt at limit ≡ b → None ≡ cond b (Some at) None → limit ≤ at
after_by limit at true e f = cc
after_by limit at false e f = grind (arith, nat_tests)

pub before_none : (limit : ℕ) (o : Option ℕ) → None ≡ split_before_of limit o → (o ≡ None) ⊎ ((at : ℕ) × (o ≡ Some at) × (limit ≤ at))
before_none limit None e = inl refl
before_none limit (Some at) e = inr (at, refl, after_by limit at (nat_lt at limit) refl e)

module _ (f : Leaves) (g : Forks) where
  -- the first node of a chain has a key of the shape
  pub front_keyed : (p : List Bool) (up : Option Up) (s : Shape) (down : Down) (k : ℕ) → IsKeyed p s → HangsAt f g up s down → IsIn k (fronts s) → (key : List Bool) × (key_in f k ≡ Some key) × IsPrefix p (code_of key)
  front_keyed p up (leaf key id more) down k keyed at (inl e) = (key, at.keys k (inl e), keyed)
  front_keyed p up (leaf key id more) down k keyed at (inr q) = absurd q
  front_keyed p up (fork h sh l r) down k keyed at q = elim (in_either (fronts l) (fronts r) k q) [
    | inl a ↦ let w = front_keyed (sh ++ false ∷ []) (left_of h) l at.0 k keyed.1 at.3 a in (w.0, w.1, prefix_on p sh (code_of w.0) keyed.0 (prefix_under sh false (code_of w.0) w.2))
    | inr b ↦ let w = front_keyed (sh ++ true ∷ []) (right_of h) r at.1 k keyed.2 at.4 b in (w.0, w.1, prefix_on p sh (code_of w.0) keyed.0 (prefix_under sh true (code_of w.0) w.2))
  ]

  -- the key of the node that holds a branch is below it
  pub below_fork : (id : ℕ) (sh : List Bool) (l r : Shape) (to_left to_right : Down) (y : List Bool) → key_in f id ≡ Some y → IsIn id (fronts l ++ fronts r) → IsKeyed (sh ++ false ∷ []) l → IsKeyed (sh ++ true ∷ []) r → HangsAt f g (left_of id) l to_left → HangsAt f g (right_of id) r to_right → (c : Bool) × IsPrefix (sh ++ c ∷ []) (code_of y)
  below_fork id sh l r to_left to_right y seen there on_l on_r l_hangs r_hangs = by (in_either (fronts l) (fronts r) id there)
    where
      by : IsIn id (fronts l) ⊎ IsIn id (fronts r) → (c : Bool) × IsPrefix (sh ++ c ∷ []) (code_of y)
      by (inl q) =
          let w = front_keyed (sh ++ false ∷ []) (left_of id) l to_left id on_l l_hangs q in
          let a = w.1 in let same : w.0 ≡ y = cc in
          (false, subst (λ k. IsPrefix (sh ++ false ∷ []) (code_of k)) same w.2)
      by (inr q) =
          let w = front_keyed (sh ++ true ∷ []) (right_of id) r to_right id on_r r_hangs q in
          let a = w.1 in let same : w.0 ≡ y = cc in
          (true, subst (λ k. IsPrefix (sh ++ true ∷ []) (code_of k)) same w.2)

  -- what a shape is, by what points to it
  pub record IsLeafHere (s : Shape) (id : ℕ) : Type 0 where
    pub key : List Bool
    pub more : List ℕ
    pub shape : s ≡ leaf key id more
    pub seen : key_in f id ≡ Some key

  pub leaf_here : (up : Option Up) (s : Shape) (id : ℕ) → HangsAt f g up s (Leaf id) → IsLeafHere s id
  leaf_here up (leaf key j more) id at =
      let p = at.points in let same : j ≡ id = cc in
      record { key = key; more = more; shape = ap (λ k. leaf key k more) same; seen = at.keys id (inl (sym same)) }
  leaf_here up (fork h sh l r) id at = let p = at.2.points in cc

  pub record IsForkHere (s : Shape) (up : Option Up) (id : ℕ) : Type 0 where
    pub shared : List Bool
    pub left : Shape
    pub right : Shape
    pub to_left : Down
    pub to_right : Down
    pub shape : s ≡ fork id shared left right
    pub here : g id ≡ Some (record { bit = length shared; left = to_left; right = to_right; up = up })
    pub hangs_left : HangsAt f g (left_of id) left to_left
    pub hangs_right : HangsAt f g (right_of id) right to_right

  pub fork_here : (up : Option Up) (s : Shape) (id : ℕ) → HangsAt f g up s (Branch id) → IsForkHere s up id
  fork_here up (leaf key j more) id at = let p = at.points in cc
  fork_here up (fork h sh l r) id at =
      let p = at.2.points in let same : h ≡ id = cc in
      subst (λ k. IsForkHere (fork h sh l r) up k) same (record {
        shared = sh;
        left = l;
        right = r;
        to_left = at.0;
        to_right = at.1;
        shape = refl;
        here = at.2.here;
        hangs_left = at.3;
        hangs_right = at.4;
      })

  module _ (at_root : Option Down) (pairs : KeyList) (x : List Bool) where
    pub seat_at_leaf : (up : Option Up) (id depth : ℕ) → Reaches f g at_root pairs x up (Leaf id) depth → (y : List Bool) → key_in f id ≡ Some y → (found : Option ℕ) → found ≡ split_of x y → (seat : Seat) → seat ≡ leaf_seat_of x id up found → IsSeat f g at_root pairs x (Some seat)
    seat_at_leaf up id depth r y seen found split seat is = by found split is
      where
        at_leaf : IsLeafHere r.here id
        at_leaf = leaf_here (hole_up r.context) r.here id r.hole.inside

        same_key : at_leaf.key ≡ y
        same_key = let a = at_leaf.seen in cc

        hole_is : IsHole f g at_root pairs r.context (leaf y id at_leaf.more) up (Leaf id)
        hole_is = subst (λ s. IsHole f g at_root pairs r.context s up (Leaf id)) (at_leaf.shape ∙ ap (λ k. leaf k id at_leaf.more) same_key) r.hole

        keyed : IsPrefix (hole_shared r.context) (code_of y)
        keyed = keyed_hole r.context (leaf y id at_leaf.more) hole_is.stands.sound.keyed

        by : (o : Option ℕ) → o ≡ split_of x y → seat ≡ leaf_seat_of x id up o → IsSeat f g at_root pairs x (Some seat)
        by None e is = let same : x ≡ y = split_same x y (sym e) in
            subst (λ w. IsSeat f g at_root pairs x (Some w)) (sym is)
            (record { context = r.context; more = at_leaf.more; up = up; at = Leaf id; hole = subst (λ k. IsHole f g at_root pairs r.context (leaf k id at_leaf.more) up (Leaf id)) (sym same) hole_is })
        by (Some bit) e is =
            let p = split_parts x y bit (sym e) in
            let right_is = parts_bit x y bit p.0 p.1 in
            subst (λ w. IsSeat f g at_root pairs x (Some w)) (sym (is ∙ ap (λ b. Beside (Leaf id) up bit b) right_is))
            (record {
              context = r.context;
              here = leaf y id at_leaf.more;
              hole = hole_is;
              shared = p.1.shared;
              long = p.1.long;
              leads = p.1.first;
              keyed = p.1.second;
              under = parts_under x y bit p.0 (hole_shared r.context) p.1 r.leads keyed;
            })

    -- the search is at a fork, and a key below it was read
    pub record AtFork (up : Option Up) (id depth : ℕ) (r : Reaches f g at_root pairs x up (Branch id) depth) (y : List Bool) (b : Fork) : Type 0 where
      pub branch : IsForkHere r.here (hole_up r.context) id
      pub is : b ≡ record { bit = length branch.shared; left = branch.to_left; right = branch.to_right; up = hole_up r.context }
      pub hole : IsHole f g at_root pairs r.context (fork id branch.shared branch.left branch.right) up (Branch id)
      pub keyed : IsKeyed (hole_shared r.context) (fork id branch.shared branch.left branch.right)
      pub below : IsPrefix branch.shared (code_of y)
      pub strict : length branch.shared < length (code_of y)

    pub at_fork : (up : Option Up) (id depth : ℕ) (r : Reaches f g at_root pairs x up (Branch id) depth) → (y : List Bool) → key_in f id ≡ Some y → (b : Fork) → g id ≡ Some b → AtFork up id depth r y b
    at_fork up id depth r y seen b here =
        let br = fork_here (hole_up r.context) r.here id r.hole.inside in
        let hole_is : IsHole f g at_root pairs r.context (fork id br.shared br.left br.right) up (Branch id) = subst (λ s. IsHole f g at_root pairs r.context s up (Branch id)) br.shape r.hole in
        let keyed : IsKeyed (hole_shared r.context) (fork id br.shared br.left br.right) = keyed_hole r.context (fork id br.shared br.left br.right) hole_is.stands.sound.keyed in
        let above = above_hole r.context (fork id br.shared br.left br.right) hole_is.stands.sound.above in
        let is : b ≡ record { bit = length br.shared; left = br.to_left; right = br.to_right; up = hole_up r.context } = some_same (sym here ∙ br.here) in
        let deeper = below_fork id br.shared br.left br.right br.to_left br.to_right y seen above.0 keyed.1 keyed.2 br.hangs_left br.hangs_right in
        record {
          branch = br;
          is = is;
          hole = hole_is;
          keyed = keyed;
          below = prefix_under br.shared deeper.0 (code_of y) deeper.1;
          strict = omega (arith, prefix_length (br.shared ++ deeper.0 ∷ []) (code_of y) deeper.1, length-append br.shared (deeper.0 ∷ []));
        }
      where
        some_same : {A : Type 0} {a b : A} → Some a ≡ Some b → a ≡ b
        some_same e = cc

    pub seat_at_fork : (up : Option Up) (id depth : ℕ) (r : Reaches f g at_root pairs x up (Branch id) depth) (y : List Bool) (b : Fork) → AtFork up id depth r y b → (bit : ℕ) → Some bit ≡ split_before_of b.bit (split_of x y) → (right : Bool) → right ≡ get_or (code_of x) bit false → IsSeat f g at_root pairs x (Some (Beside (Branch id) up bit right))
    seat_at_fork up id depth r y b a bit found right right_is =
        let s = before_some b.bit bit (split_of x y) found in
        let p = split_parts x y bit s.0 in
        let same : p.0 ≡ right = sym (parts_bit x y bit p.0 p.1) ∙ sym right_is in
        let limit : b.bit ≡ length a.branch.shared = ap (λ (w : Fork). w.bit) a.is in
        subst (λ w. IsSeat f g at_root pairs x (Some (Beside (Branch id) up bit w))) same
        (record {
          context = r.context;
          here = fork id a.branch.shared a.branch.left a.branch.right;
          hole = a.hole;
          shared = p.1.shared;
          long = p.1.long;
          leads = p.1.first;
          keyed = (parts_in x y bit p.0 a.branch.shared p.1 a.below (omega arith), a.keyed.1, a.keyed.2);
          under = parts_under x y bit p.0 (hole_shared r.context) p.1 r.leads (prefix_on (hole_shared r.context) a.branch.shared (code_of y) a.keyed.0 a.below);
        })

    -- the code goes on as the fork's does
    pub agrees : (up : Option Up) (id depth : ℕ) (r : Reaches f g at_root pairs x up (Branch id) depth) (y : List Bool) (b : Fork) → (a : AtFork up id depth r y b) → None ≡ split_before_of b.bit (split_of x y) → IsPrefix a.branch.shared (code_of x) × (b.bit < 2 * length x + 1)
    agrees up id depth r y b a found = by (before_none b.bit (split_of x y) found)
      where
        limit : b.bit ≡ length a.branch.shared
        limit = ap (λ (w : Fork). w.bit) a.is

        by : (split_of x y ≡ None) ⊎ ((at : ℕ) × (split_of x y ≡ Some at) × (b.bit ≤ at)) → IsPrefix a.branch.shared (code_of x) × (b.bit < 2 * length x + 1)
        by (inl e) = let same = split_same x y e in
            (subst (λ k. IsPrefix a.branch.shared (code_of k)) (sym same) a.below, omega (arith, limit, a.strict, code_length y, ap length same))
        by (inr e) = let p = split_parts x y e.0 e.1 in
            (parts_past x y e.0 p.0 a.branch.shared p.1 a.below (omega (arith, limit, e.2)), omega (arith, e.2, (parts_within x y e.0 p.0 p.1).0))

    pub depth_below : (up : Option Up) (id depth : ℕ) (r : Reaches f g at_root pairs x up (Branch id) depth) (y : List Bool) (b : Fork) → AtFork up id depth r y b → depth ≤ b.bit
    depth_below up id depth r y b a =
        let limit : b.bit ≡ length a.branch.shared = ap (λ (w : Fork). w.bit) a.is in
        omega (arith, r.deep, prefix_length (hole_shared r.context) a.branch.shared a.keyed.0)

    abbrev pub side_shape : Bool → Shape → Shape → Shape
    side_shape false l r = l
    side_shape true l r = r

    -- one step further down
    pub record StepsTo (up : Option Up) (id depth : ℕ) (r : Reaches f g at_root pairs x up (Branch id) depth) (y : List Bool) (b : Fork) (a : AtFork up id depth r y b) (right : Bool) : Type 0 where
      pub reach : Reaches f g at_root pairs x (Some (record { node = id; right = right })) (side_of right b) (b.bit + 1)
      pub here_is : reach.here ≡ side_shape right a.branch.left a.branch.right
      pub shared_is : hole_shared reach.context ≡ a.branch.shared ++ right ∷ []

    pub step_down : (up : Option Up) (id depth : ℕ) (r : Reaches f g at_root pairs x up (Branch id) depth) (y : List Bool) (b : Fork) (a : AtFork up id depth r y b) → None ≡ split_before_of b.bit (split_of x y) → (right : Bool) → right ≡ get_or (code_of x) b.bit false → StepsTo up id depth r y b a right
    step_down up id depth r y b a found right right_is = by right
        (subst (λ w. IsPrefix (a.branch.shared ++ w ∷ []) (code_of x)) (ap (λ k. get_or (code_of x) k false) (sym limit) ∙ sym right_is) (prefix_next a.branch.shared (code_of x) ag.0 (omega (arith, limit, ag.1, code_length x))))
      where
        limit : b.bit ≡ length a.branch.shared
        limit = ap (λ (w : Fork). w.bit) a.is

        ag : IsPrefix a.branch.shared (code_of x) × (b.bit < 2 * length x + 1)
        ag = agrees up id depth r y b a found

        by : (side : Bool) → IsPrefix (a.branch.shared ++ side ∷ []) (code_of x) → StepsTo up id depth r y b a side
        by false leads = record {
          here_is = refl;
          shared_is = refl;
          reach = record {
            context = on_left r.context id a.branch.shared a.branch.right;
            here = a.branch.left;
            hole = record {
              stands = a.hole.stands;
              around = (a.branch.to_right, record { points = refl; here = a.branch.here ∙ ap (λ d. Some (record { bit = length a.branch.shared; left = d; right = a.branch.to_right; up = hole_up r.context })) (sym (ap (λ (w : Fork). w.left) a.is)) }, a.branch.hangs_right, a.hole.around);
              inside = subst (HangsAt f g (left_of id) a.branch.left) (sym (ap (λ (w : Fork). w.left) a.is)) a.branch.hangs_left;
              up_is = refl;
            };
            leads = leads;
            deep = omega (arith, limit, length-append a.branch.shared (false ∷ []));
          };
        }
        by true leads = record {
          here_is = refl;
          shared_is = refl;
          reach = record {
            context = on_right r.context id a.branch.shared a.branch.left;
            here = a.branch.right;
            hole = record {
              stands = a.hole.stands;
              around = (a.branch.to_left, record { points = refl; here = a.branch.here ∙ ap (λ d. Some (record { bit = length a.branch.shared; left = a.branch.to_left; right = d; up = hole_up r.context })) (sym (ap (λ (w : Fork). w.right) a.is)) }, a.branch.hangs_left, a.hole.around);
              inside = subst (HangsAt f g (right_of id) a.branch.right) (sym (ap (λ (w : Fork). w.right) a.is)) a.branch.hangs_right;
              up_is = refl;
            };
            leads = leads;
            deep = omega (arith, limit, length-append a.branch.shared (true ∷ []));
          };
        }

    -- the search begins at the root
    pub reach_root : (shape : Option Shape) (down : Down) → at_root ≡ Some down → StandsAs f g at_root shape pairs → Reaches f g at_root pairs x None down 0
    reach_root None down e stands = let none = stands.hangs in cc
    reach_root (Some s) down e stands =
        let is = stands.hangs.1 in let same : stands.hangs.0 ≡ down = cc in
        record { context = root; here = s; hole = record { stands = stands; around = e; inside = subst (HangsAt f g None s) same stands.hangs.2; up_is = refl }; leads = prefix_none (code_of x); deep = refl }

    pub seat_at_root : (shape : Option Shape) → at_root ≡ None → StandsAs f g at_root shape pairs → StandsAs f g at_root None pairs
    seat_at_root None e stands = stands
    seat_at_root (Some s) e stands = let is = stands.hangs.1 in cc

pub split_fits : (x y : List Bool) (at : ℕ) → split_of x y ≡ Some at → at < 2 * length x + 1
split_fits x y at e = let p = split_parts x y at e in (parts_within x y at p.0 p.1).0

module _ {V : Type 0} (p : Pool (Node V)) (at_root : Option Down) (pairs : KeyList) (x : List Bool) (up : Option Up) (id depth : ℕ) where
  pub leaf_is_live : Reaches (leaves_of p) (forks_of p) at_root pairs x up (Leaf id) depth → IsLive p id
  leaf_is_live r = let h = leaf_here (leaves_of p) (forks_of p) (hole_up r.context) r.here id r.hole.inside in key_live p id h.key h.seen

  pub fork_is_live : Reaches (leaves_of p) (forks_of p) at_root pairs x up (Branch id) depth → IsLive p id
  fork_is_live r = let h = fork_here (leaves_of p) (forks_of p) (hole_up r.context) r.here id r.hole.inside in fork_live p id _ h.here

  pub fork_has : (n : Node V) → get p id ≡ Some n → n.branch ≡ None → Reaches (leaves_of p) (forks_of p) at_root pairs x up (Branch id) depth → ⊥
  fork_has n at none r = let h = fork_here (leaves_of p) (forks_of p) (hole_up r.context) r.here id r.hole.inside in let a = h.here in let b = fork_seen p id n at in cc

  -- the search read the node of a fork
  module _ (r : Reaches (leaves_of p) (forks_of p) at_root pairs x up (Branch id) depth) (n : Node V) (at : get p id ≡ Some n) (b : Fork) (is : n.branch ≡ Some b) where
    pub fork_read : AtFork (leaves_of p) (forks_of p) at_root pairs x up id depth r n.key b
    fork_read = at_fork (leaves_of p) (forks_of p) at_root pairs x up id depth r n.key (key_seen p id n at) b (fork_seen p id n at ∙ is)

    pub parts_at : (bytes : List ℕ) (len : ℕ) → bits_of bytes (length n.key) ≡ n.key → len ≡ length n.key → (o : Option ℕ) → o ≡ split_before_of b.bit (split_of x (bits_of bytes len)) → o ≡ split_before_of b.bit (split_of x n.key)
    parts_at bytes len e f o found = found ∙ ap (λ w. split_before_of b.bit (split_of x w)) (bits_seen bytes len n.key e f)

    pub goes_on : None ≡ split_before_of b.bit (split_of x n.key) → (depth ≤ b.bit) × (b.bit < 2 * length x + 1)
    goes_on none = (
      depth_below (leaves_of p) (forks_of p) at_root pairs x up id depth r n.key b fork_read,
      (agrees (leaves_of p) (forks_of p) at_root pairs x up id depth r n.key b fork_read none).1,
    )
