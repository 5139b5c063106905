-- The way down to the longest prefix.
use Rattle.std.proofs.Common.{◌≡◌, ◌≢◌, ◌⊎◌, ℕ, zero, suc, ◌+◌, ◌*◌, ◌<◌, ◌≤◌, ◌==◌, Bool, true, false, cond, nat_lt, List, [], ◌∷◌, ◌++◌, length, take, get_or, Option, Some, None, refl, sym, ap, subst, ◌∙◌, inl, inr, arith, length-append, true≢false, ◌%◌, ◌/◌}
use mathlib.Core.Bool.{not}
use Rattle.std.proofs.lemmas.Bool.Decides.{nat_tests}
use Rattle.std.proofs.lemmas.List.{append-nil}
use Rattle.std.specs.Option.{option_map}
use Rattle.hx_pool.specs.Chain.{first_or}
use Rattle.hx_ebtree.specs.declared.node.Down.{Down}
use Rattle.hx_ebtree.specs.declared.node.Down.TheVariants.{Leaf, Branch}
use Rattle.hx_ebtree.specs.declared.node.Up.{Up}
use Rattle.hx_ebtree.specs.declared.node.Branch.{Branch as Fork}
use Rattle.hx_ebtree.specs.Bits.{code_of, IsPrefix, is_same_bit, split_of}
use Rattle.hx_ebtree.specs.KeyList.{KeyList, numbers_of}
use Rattle.hx_ebtree.specs.Shape.{Shape, leaf, fork, pairs_of, IsAbove, IsKeyed, Leaves, Forks, key_in, left_of, right_of, HangsAt}
use Rattle.hx_ebtree.specs.Tree.{StandsAs}
use Rattle.hx_ebtree.specs.Seat.{split_before_of, side_of, leaf_number, leaf_longest_of, ending_of}
use Rattle.hx_ebtree.proofs.BitLemmas.{code_even, code_length}
use Rattle.hx_ebtree.proofs.CodeLemmas.{prefix_on, prefix_under, prefix_length, prefix_bit, prefix_clash, prefix_more, prefix_next, prefix_none, prefix_self, bits_clash, split_parts, split_same, same_bits, Parts, parts_in, parts_past}
use Rattle.hx_ebtree.proofs.PairLemmas.{key_cases, numbers_append, numbers_with, numbers_other}
use Rattle.hx_ebtree.proofs.KeyedLemmas.{none_below}
use Rattle.hx_ebtree.proofs.ExactLemmas.{some_same}
use Rattle.hx_ebtree.proofs.LongestLemmas.{prefix_taken, taken_prefix, IsLongestOrNone}
use Rattle.hx_ebtree.proofs.SeekLemmas.{IsLeafHere, leaf_here, IsForkHere, fork_here, below_fork, before_none, before_some, seat_at_root}

-- what a prefix's code begins with, but for its end, the whole's begins with
pub code_agrees : (k x q : List Bool) → IsPrefix k x → IsPrefix q (code_of k) → length q ≤ 2 * length k → IsPrefix q (code_of x)
code_agrees k x [] p q le = (code_of x, refl)
code_agrees [] x (c ∷ q) p e le = absurd (omega arith)
code_agrees (b ∷ k) [] (c ∷ q) p e le = let no = p.1 in cc
code_agrees (b ∷ k) (y ∷ x) (c ∷ []) p e le = let f = e.1 in let one : true ≡ c = cc in (y ∷ code_of x, ap (λ w. w ∷ (y ∷ code_of x)) one)
code_agrees (b ∷ k) (y ∷ x) (c ∷ d ∷ q) p e le =
    let f = e.1 in let g = p.1 in
    let one : true ≡ c = cc in let two : b ≡ d = cc in let same : y ≡ b = cc in
    let rest : code_of k ≡ q ++ e.0 = cc in let below : x ≡ k ++ p.0 = cc in
    let r = code_agrees k x q (p.0, below) (e.0, rest) (omega arith) in
    (r.0, ap (λ l. true ∷ y ∷ l) r.1 ∙ ap (λ w. w ∷ y ∷ (q ++ r.0)) one ∙ ap (λ w. c ∷ w ∷ (q ++ r.0)) (same ∙ two))

code_some : (k : List Bool) → code_of k ≡ [] → ⊥
code_some [] e = cc
code_some (b ∷ k) e = cc

-- a code that ends here is that of a prefix
pub code_cut : (k x sh : List Bool) → IsPrefix sh (code_of x) → code_of k ≡ sh ++ false ∷ [] → IsPrefix k x
code_cut [] x sh p e = (x, refl)
code_cut (b ∷ k) x [] p e = cc
code_cut (b ∷ k) x (c ∷ []) p e = let rest : code_of k ≡ [] = cc in absurd (code_some k rest)
code_cut (b ∷ k) [] (c ∷ d ∷ sh) p e = let f = p.1 in let one : true ≡ c = cc in cc
code_cut (b ∷ k) (y ∷ x) (c ∷ d ∷ sh) p e =
    let f = p.1 in let two : b ≡ d = cc in let same : y ≡ d = cc in
    let rest : code_of k ≡ sh ++ false ∷ [] = cc in let below : code_of x ≡ sh ++ p.0 = cc in
    let r = code_cut k x sh (p.0, below) rest in
    (r.0, ap (λ l. y ∷ l) r.1 ∙ ap (λ w. w ∷ (k ++ r.0)) (same ∙ sym two))

-- where a prefix parts from the whole
pub prefix_splits : (y x : List Bool) → IsPrefix y x → (split_of y x ≡ None) ⊎ (split_of y x ≡ Some (2 * length y))
prefix_splits [] [] p = inl refl
prefix_splits [] (c ∷ x) p = inr refl
prefix_splits (b ∷ y) [] p = let no = p.1 in cc
prefix_splits (b ∷ y) (c ∷ x) p =
    let e = p.1 in let same : c ≡ b = cc in let t : x ≡ y ++ p.0 = cc in
    by (self b c (sym same)) (prefix_splits y x (p.0, t))
  where
    self : (a d : Bool) → a ≡ d → is_same_bit a d ≡ true
    self true true e = refl
    self false false e = refl
    self true false e = absurd (true≢false e)
    self false true e = absurd (true≢false (sym e))

    by : is_same_bit b c ≡ true → (split_of y x ≡ None) ⊎ (split_of y x ≡ Some (2 * length y)) → (split_of (b ∷ y) (c ∷ x) ≡ None) ⊎ (split_of (b ∷ y) (c ∷ x) ≡ Some (2 * suc (length y)))
    by s (inl none) = inl (rw (s, none))
    by s (inr some) = let more : 2 * length y + 2 ≡ 2 * suc (length y) = omega arith in inr (rw (s, some) (ap Some more))

pub splits_prefix : (y x : List Bool) → split_of y x ≡ Some (2 * length y) → IsPrefix y x
splits_prefix [] x e = (x, refl)
splits_prefix (b ∷ y) [] e = let zero_at : 0 ≡ 2 * suc (length y) = cc in absurd (omega arith)
splits_prefix (b ∷ y) (c ∷ x) e = by (λ more. splits_prefix y x more) (is_same_bit b c) (split_of y x) refl refl e
  where
    by : (split_of y x ≡ Some (2 * length y) → IsPrefix y x) → (s : Bool) (o : Option ℕ) → is_same_bit b c ≡ s → split_of y x ≡ o → cond s (option_map (λ k. k + 2) o) (Some 1) ≡ Some (2 * suc (length y)) → IsPrefix (b ∷ y) (c ∷ x)
    by rec false o same more e' = let one_at : 1 ≡ 2 * suc (length y) = cc in absurd (omega arith)
    by rec true None same more e' = cc
    by rec true (Some k) same more e' =
        let at : k + 2 ≡ 2 * suc (length y) = cc in
        let here : k ≡ 2 * length y = omega arith in
        let r = rec (more ∙ ap Some here) in
        (r.0, ap (λ l. c ∷ l) r.1 ∙ ap (λ w. w ∷ (y ++ r.0)) (sym (same_bits b c same)))

abbrev pub IsBest : KeyList → List Bool → Option ℕ → ℕ → Type 0
IsBest pairs x None least = least ≡ 0
IsBest pairs x (Some id) least = (m : ℕ) × (least ≡ suc m) × (m ≤ length x) × (first_or (numbers_of (take m x) pairs) None ≡ Some id)

-- the code of what is taken of a key begins as the key's, but for its end
code_taken : (m : ℕ) (k q : List Bool) → m ≤ length k → IsPrefix q (code_of k) → length q ≤ 2 * m → IsPrefix q (code_of (take m k))
code_taken m k [] le p short = (code_of (take m k), refl)
code_taken zero k (c ∷ q) le p short = absurd (omega arith)
code_taken (suc m) [] (c ∷ q) le p short = absurd (omega arith)
code_taken (suc m) (b ∷ k) (c ∷ []) le p short = let e = p.1 in let one : true ≡ c = cc in (b ∷ code_of (take m k), ap (λ w. w ∷ (b ∷ code_of (take m k))) one)
code_taken (suc m) (b ∷ k) (c ∷ d ∷ q) le p short =
    let e = p.1 in let one : true ≡ c = cc in let two : b ≡ d = cc in let rest : code_of k ≡ q ++ p.0 = cc in
    let r = code_taken m k q (omega arith) (p.0, rest) (omega arith) in
    (r.0, ap (λ l. true ∷ b ∷ l) r.1 ∙ ap (λ w. w ∷ b ∷ (q ++ r.0)) one ∙ ap (λ w. c ∷ w ∷ (q ++ r.0)) two)

-- a shape has a key
some_key : (p : List Bool) (s : Shape) → IsKeyed p s → (k : List Bool) × IsPrefix p (code_of k)
some_key p (leaf key id more) keyed = (key, keyed)
some_key p (fork h sh l r) keyed = let w = some_key (sh ++ false ∷ []) l keyed.1 in (w.0, prefix_on p sh (code_of w.0) keyed.0 (prefix_under sh false (code_of w.0) w.1))

-- a code that has its end bit here is no longer
ends_here : (k sh : List Bool) (j : ℕ) → length sh ≡ 2 * j → IsPrefix (sh ++ false ∷ []) (code_of k) → length k ≡ j
ends_here k sh j even p =
    let bit : get_or (code_of k) (length sh) false ≡ false = prefix_bit sh false (code_of k) p in
    let at : get_or (code_of k) (length sh) false ≡ nat_lt j (length k) = ap (λ w. get_or (code_of k) w false) even ∙ code_even k j in
    let no : nat_lt j (length k) ≡ false = sym at ∙ bit in
    let le : length k ≤ j = grind (arith, nat_tests) in
    omega (arith, prefix_length (sh ++ false ∷ []) (code_of k) p, length-append sh (false ∷ []), code_length k)

prefix_whole : (p q : List Bool) → IsPrefix p q → length p ≡ length q → q ≡ p
prefix_whole p q (rest, e) same = by rest e
  where
    by : (rest : List Bool) → q ≡ p ++ rest → q ≡ p
    by [] e = e ∙ append-nil p
    by (b ∷ rest) e = absurd (omega (arith, ap length e, length-append p (b ∷ rest)))

-- a prefix of the key whose code goes to the other side of a fork ends there
other_side : (x : List Bool) (m : ℕ) (sh : List Bool) (right : Bool) → m ≤ length x → right ≡ get_or (code_of x) (length sh) false → IsPrefix (sh ++ not right ∷ []) (code_of (take m x)) → (length sh ≡ 2 * m) × (right ≡ true)
other_side x m sh right le right_is there = by (le_or (length sh) (2 * m)) right refl
  where
    t : IsPrefix (take m x) x × (length (take m x) ≡ m)
    t = taken_prefix m x le

    le_or : (i n : ℕ) → (i < n) ⊎ (n ≤ i)
    le_or i zero = inr (omega arith)
    le_or zero (suc n) = inl (omega arith)
    le_or (suc i) (suc n) = elim (le_or i n) [ inl a ↦ inl (omega arith) | inr b ↦ inr (omega arith) ]

    within : length sh ≤ 2 * m
    within = omega (arith, prefix_length (sh ++ not right ∷ []) (code_of (take m x)) there, length-append sh (not right ∷ []), code_length (take m x), t.1)

    by : (length sh < 2 * m) ⊎ (2 * m ≤ length sh) → (r : Bool) → r ≡ right → (length sh ≡ 2 * m) × (right ≡ true)
    by (inl lt) r e =
        let whole = code_agrees (take m x) x (sh ++ not right ∷ []) t.0 there (omega (arith, length-append sh (not right ∷ []), t.1)) in
        absurd (bits_clash right (right_is ∙ prefix_bit sh (not right) (code_of x) whole))
    by (inr ge) true e = (omega (arith, within), sym e)
    by (inr ge) false e =
        let at : length sh ≡ 2 * m = omega (arith, within) in
        let last : get_or (code_of (take m x)) (length sh) false ≡ not right = prefix_bit sh (not right) (code_of (take m x)) there in
        let is_last : get_or (code_of (take m x)) (length sh) false ≡ nat_lt m (length (take m x)) = ap (λ k. get_or (code_of (take m x)) k false) at ∙ code_even (take m x) m in
        let none : nat_lt m (length (take m x)) ≡ false = rw t.1 (grind (arith, nat_tests)) in
        let clash : not right ≡ false = sym last ∙ is_last ∙ none in
        absurd (true≢false (ap not e ∙ clash))

module _ (f : Leaves) (g : Forks) (pairs : KeyList) (x : List Bool) where
  -- The search came to a shape, and the longest prefix outside it is known. The code of the key was
  -- compared with those in the shape up to a bit, and agrees with them so far.
  pub record IsOnWay (at : Down) (depth checked : ℕ) (best : Option ℕ) : Type 0 where
    pub up : Option Up
    pub here : Shape
    pub shared : List Bool
    pub hangs : HangsAt f g up here at
    pub keyed : IsKeyed shared here
    pub above : IsAbove here
    pub deep : depth ≡ length shared
    pub agreed : List Bool
    pub long : checked ≡ length agreed
    pub within : IsPrefix agreed shared
    pub leads : IsPrefix agreed (code_of x)
    pub least : ℕ
    pub best_is : IsBest pairs x best least
    pub later : (m : ℕ) → least ≤ m → m ≤ length x → numbers_of (take m x) pairs ≡ numbers_of (take m x) (pairs_of here)
    pub low : (k : List Bool) → IsPrefix shared (code_of k) → least ≤ length k
    pub only : (k : List Bool) → IsPrefix shared (code_of k) → numbers_of k pairs ≡ numbers_of k (pairs_of here)

  nothing_more : (at : Down) (depth checked : ℕ) (best : Option ℕ) (w : IsOnWay at depth checked best) → ((m : ℕ) → w.least ≤ m → m ≤ length x → numbers_of (take m x) (pairs_of w.here) ≡ []) → IsLongestOrNone pairs x best
  nothing_more at depth checked None w none = λ m le. let zero_is = w.best_is in w.later m (omega arith) le ∙ none m (omega arith) le
  nothing_more at depth checked (Some id) w none = let b = w.best_is in record {
    length_of = b.0;
    within = b.2;
    first = b.3;
    longer = λ m lt le. w.later m (omega (arith, b.1)) le ∙ none m (omega (arith, b.1)) le;
  }

  pub end_at_leaf : (id depth checked : ℕ) (best : Option ℕ) → IsOnWay (Leaf id) depth checked best → (y : List Bool) → key_in f id ≡ Some y → (found : Option ℕ) → found ≡ split_of y x → (r : Option ℕ) → r ≡ leaf_longest_of id (length y) found best → IsLongestOrNone pairs x r
  end_at_leaf id depth checked best w y seen found split r r_is = by found split r_is
    where
      here : IsLeafHere f g w.here id
      here = leaf_here f g w.up w.here id w.hangs

      same_key : here.key ≡ y
      same_key = let a = here.seen in cc

      shape : w.here ≡ leaf y id here.more
      shape = here.shape ∙ ap (λ k. leaf k id here.more) same_key

      keyed : IsPrefix w.shared (code_of y)
      keyed = let k : IsKeyed w.shared (leaf y id here.more) = subst (IsKeyed w.shared) shape w.keyed in k

      hit : IsPrefix y x → IsLongestOrNone pairs x (Some id)
      hit p = let t = prefix_taken y x p in record {
        length_of = length y;
        within = t.1;
        first = ap (λ k. first_or (numbers_of k pairs) None) (sym t.0)
            ∙ ap (λ l. first_or l None) (w.only y keyed ∙ ap (λ s. numbers_of y (pairs_of s)) shape ∙ numbers_with y (id ∷ here.more));
        longer = λ m lt le. w.later m (omega (arith, w.low y keyed)) le ∙ ap (λ s. numbers_of (take m x) (pairs_of s)) shape
            ∙ numbers_other (take m x) y (id ∷ here.more) (elim (key_cases y (take m x)) [ inl e ↦ absurd (omega (arith, ap length e, (taken_prefix m x le).1)) | inr d ↦ d ]);
      }

      miss : (IsPrefix y x → ⊥) → IsLongestOrNone pairs x best
      miss off = nothing_more (Leaf id) depth checked best w (λ m ge le. ap (λ s. numbers_of (take m x) (pairs_of s)) shape
          ∙ numbers_other (take m x) y (id ∷ here.more) (elim (key_cases y (take m x)) [ inl e ↦ absurd (off (subst (λ k. IsPrefix k x) (sym e) (taken_prefix m x le).0)) | inr d ↦ d ]))

      by_at : (at : ℕ) (b : Bool) → (at == length y * 2) ≡ b → Some at ≡ split_of y x → r ≡ cond b (Some id) best → IsLongestOrNone pairs x r
      by_at at true eq e is = let same : at ≡ 2 * length y = (let twice : at ≡ length y * 2 = grind (arith, nat_tests) in omega arith) in
          subst (IsLongestOrNone pairs x) (sym is) (hit (splits_prefix y x (sym e ∙ ap Some same)))
      by_at at false eq e is = let other : at ≢ length y * 2 = grind (arith, nat_tests) in
          subst (IsLongestOrNone pairs x) (sym is) (miss (λ p. elim (prefix_splits y x p) as (λ _. ⊥) [ inl none ↦ cc (none, e) | inr some ↦ (let same : at ≡ 2 * length y = cc in other (omega arith)) ]))

      by : (o : Option ℕ) → o ≡ split_of y x → r ≡ leaf_longest_of id (length y) o best → IsLongestOrNone pairs x r
      by None e is = subst (IsLongestOrNone pairs x) (sym is) (hit (subst (IsPrefix y) (split_same y x (sym e)) (prefix_self y)))
      by (Some at) e is = by_at at (at == length y * 2) refl e is

  -- at a fork
  module _ (id depth checked : ℕ) (best : Option ℕ) (w : IsOnWay (Branch id) depth checked best) (b : Fork) (here : g id ≡ Some b) where
    pub at_fork : IsForkHere f g w.here w.up id
    at_fork = fork_here f g w.up w.here id w.hangs

    is : b ≡ record { bit = length at_fork.shared; left = at_fork.to_left; right = at_fork.to_right; up = w.up }
    is = some_same (sym here ∙ at_fork.here)

    limit : b.bit ≡ length at_fork.shared
    limit = ap (λ (v : Fork). v.bit) is

    keyed : IsKeyed w.shared (fork id at_fork.shared at_fork.left at_fork.right)
    keyed = subst (IsKeyed w.shared) at_fork.shape w.keyed

    above : IsAbove (fork id at_fork.shared at_fork.left at_fork.right)
    above = subst IsAbove at_fork.shape w.above

    left_hangs : HangsAt f g (left_of id) at_fork.left b.left
    left_hangs = subst (HangsAt f g (left_of id) at_fork.left) (sym (ap (λ (v : Fork). v.left) is)) at_fork.hangs_left

    right_hangs : HangsAt f g (right_of id) at_fork.right b.right
    right_hangs = subst (HangsAt f g (right_of id) at_fork.right) (sym (ap (λ (v : Fork). v.right) is)) at_fork.hangs_right

    pub fork_is_deeper : depth ≤ b.bit
    fork_is_deeper = omega (arith, limit, w.deep, prefix_length w.shared at_fork.shared keyed.0)

    -- the key of the node that holds the branch is below it
    pub below_here : (y : List Bool) → key_in f id ≡ Some y → IsPrefix at_fork.shared (code_of y)
    below_here y seen =
        let c = below_fork f g id at_fork.shared at_fork.left at_fork.right at_fork.to_left at_fork.to_right y seen above.0 keyed.1 keyed.2 at_fork.hangs_left at_fork.hangs_right in
        prefix_under at_fork.shared c.0 (code_of y) c.1

    -- what was compared, the key of that node begins with
    pub agreed_here : (y : List Bool) → key_in f id ≡ Some y → IsPrefix w.agreed (code_of y)
    agreed_here y seen =
        prefix_on w.agreed w.shared (code_of y) w.within (prefix_on w.shared at_fork.shared (code_of y) keyed.0 (below_here y seen))

    both : (k : List Bool) → numbers_of k (pairs_of w.here) ≡ numbers_of k (pairs_of at_fork.left) ++ numbers_of k (pairs_of at_fork.right)
    both k = ap (λ s. numbers_of k (pairs_of s)) at_fork.shape ∙ numbers_append k (pairs_of at_fork.left) (pairs_of at_fork.right)

    on_left_only : (k : List Bool) → (IsPrefix (at_fork.shared ++ true ∷ []) (code_of k) → ⊥) → numbers_of k (pairs_of w.here) ≡ numbers_of k (pairs_of at_fork.left)
    on_left_only k off =
        both k ∙ ap (λ l. numbers_of k (pairs_of at_fork.left) ++ l) (none_below (at_fork.shared ++ true ∷ []) at_fork.right k keyed.2 off)
        ∙ append-nil (numbers_of k (pairs_of at_fork.left))

    on_right_only : (k : List Bool) → (IsPrefix (at_fork.shared ++ false ∷ []) (code_of k) → ⊥) → numbers_of k (pairs_of w.here) ≡ numbers_of k (pairs_of at_fork.right)
    on_right_only k off =
        both k ∙ ap (λ l. l ++ numbers_of k (pairs_of at_fork.right)) (none_below (at_fork.shared ++ false ∷ []) at_fork.left k keyed.1 off)

    none_here : (k : List Bool) → ((c : Bool) → IsPrefix (at_fork.shared ++ c ∷ []) (code_of k) → ⊥) → numbers_of k (pairs_of w.here) ≡ []
    none_here k off =
        on_right_only k (off false) ∙ none_below (at_fork.shared ++ true ∷ []) at_fork.right k keyed.2 (off true)

    -- the key ends above the fork
    pub end_at_short : 2 * length x < b.bit → IsLongestOrNone pairs x best
    end_at_short short =
        nothing_more (Branch id) depth checked best w (λ m ge le.
        none_here (take m x) (λ c q. absurd (omega (arith, limit, prefix_length (at_fork.shared ++ c ∷ []) (code_of (take m x)) q, length-append at_fork.shared (c ∷ []), code_length (take m x), (taken_prefix m x le).1))))

    -- a fork whose codes part from the key's has no prefix of it
    pub end_at_split : (y : List Bool) → key_in f id ≡ Some y → (bit : ℕ) → Some bit ≡ split_before_of b.bit (split_of x y) → IsLongestOrNone pairs x best
    end_at_split y seen bit found =
        nothing_more (Branch id) depth checked best w (λ m ge le. none_here (take m x) (off m le))
      where
        s : (split_of x y ≡ Some bit) × (bit < b.bit)
        s = before_some b.bit bit (split_of x y) found

        p : (right : Bool) × Parts x y bit right
        p = split_parts x y bit s.0

        off : (m : ℕ) → m ≤ length x → (c : Bool) → IsPrefix (at_fork.shared ++ c ∷ []) (code_of (take m x)) → ⊥
        off m le c q =
            let t = taken_prefix m x le in
            let short : length at_fork.shared ≤ 2 * length (take m x) = omega (arith, prefix_length (at_fork.shared ++ c ∷ []) (code_of (take m x)) q, length-append at_fork.shared (c ∷ []), code_length (take m x)) in
            let whole : IsPrefix at_fork.shared (code_of x) = code_agrees (take m x) x at_fork.shared t.0 (prefix_under at_fork.shared c (code_of (take m x)) q) short in
            prefix_clash p.1.shared p.0 (code_of x) p.1.first
            (prefix_on (p.1.shared ++ not p.0 ∷ []) at_fork.shared (code_of x) (parts_in x y bit p.0 at_fork.shared p.1 (below_here y seen) (omega (arith, s.1, limit))) whole)

    -- the code goes on as the fork's does
    agrees : (y : List Bool) → key_in f id ≡ Some y → None ≡ split_before_of b.bit (split_of x y) → IsPrefix at_fork.shared (code_of x)
    agrees y seen found = by (before_none b.bit (split_of x y) found)
      where
        by : (split_of x y ≡ None) ⊎ ((at : ℕ) × (split_of x y ≡ Some at) × (b.bit ≤ at)) → IsPrefix at_fork.shared (code_of x)
        by (inl e) = subst (λ k. IsPrefix at_fork.shared (code_of k)) (sym (split_same x y e)) (below_here y seen)
        by (inr e) = let p = split_parts x y e.0 e.1 in
            parts_past x y e.0 p.0 at_fork.shared p.1 (below_here y seen) (omega (arith, limit, e.2))

    -- where one key ends, no other goes on to the left
    even_left : (j h : ℕ) → b.bit ≡ 2 * j → b.left ≡ Branch h → ⊥
    even_left j h even to_fork =
        let l = fork_here f g (left_of id) at_fork.left h (subst (HangsAt f g (left_of id) at_fork.left) to_fork left_hangs) in
        let down : IsKeyed (at_fork.shared ++ false ∷ []) (fork h l.shared l.left l.right) = subst (IsKeyed (at_fork.shared ++ false ∷ [])) l.shape keyed.1 in
        let k = some_key (l.shared ++ false ∷ []) l.left down.1 in
        let under = prefix_on (at_fork.shared ++ false ∷ []) l.shared (code_of k.0) down.0 (prefix_under l.shared false (code_of k.0) k.1) in
        let ended = ends_here k.0 at_fork.shared j (sym limit ∙ even) under in
        absurd (omega (arith, ended, even, limit, code_length k.0, prefix_length (l.shared ++ false ∷ []) (code_of k.0) k.1, prefix_length (at_fork.shared ++ false ∷ []) l.shared down.0, length-append l.shared (false ∷ []), length-append at_fork.shared (false ∷ [])))

    only_left : (k : List Bool) → IsPrefix (at_fork.shared ++ false ∷ []) (code_of k) → numbers_of k pairs ≡ numbers_of k (pairs_of at_fork.left)
    only_left k p =
        w.only k (prefix_on w.shared at_fork.shared (code_of k) keyed.0 (prefix_under at_fork.shared false (code_of k) p))
        ∙ on_left_only k (λ q. prefix_clash at_fork.shared false (code_of k) p q)

    only_right : (k : List Bool) → IsPrefix (at_fork.shared ++ true ∷ []) (code_of k) → numbers_of k pairs ≡ numbers_of k (pairs_of at_fork.right)
    only_right k p =
        w.only k (prefix_on w.shared at_fork.shared (code_of k) keyed.0 (prefix_under at_fork.shared true (code_of k) p))
        ∙ on_right_only k (λ q. prefix_clash at_fork.shared true (code_of k) p q)

    go_left : false ≡ get_or (code_of x) b.bit false → IsOnWay b.left (b.bit + 1) checked best
    go_left e =
        let side_is : false ≡ get_or (code_of x) (length at_fork.shared) false = e ∙ ap (λ k. get_or (code_of x) k false) limit in
        record {
          up = left_of id;
          here = at_fork.left;
          shared = at_fork.shared ++ false ∷ [];
          hangs = left_hangs;
          keyed = keyed.1;
          above = above.1;
          deep = omega (arith, limit, length-append at_fork.shared (false ∷ []));
          agreed = w.agreed;
          long = w.long;
          within = prefix_on w.agreed w.shared (at_fork.shared ++ false ∷ []) w.within (prefix_on w.shared at_fork.shared (at_fork.shared ++ false ∷ []) keyed.0 (prefix_more at_fork.shared (false ∷ [])));
          leads = w.leads;
          least = w.least;
          best_is = w.best_is;
          later = λ m ge le. w.later m ge le ∙ on_left_only (take m x) (λ q. true≢false (sym (other_side x m at_fork.shared false le side_is q).1));
          low = λ k p. w.low k (prefix_on w.shared at_fork.shared (code_of k) keyed.0 (prefix_under at_fork.shared false (code_of k) p));
          only = only_left;
        }

    go_right : true ≡ get_or (code_of x) b.bit false → ((m : ℕ) → length at_fork.shared ≡ 2 * m → ⊥) → IsOnWay b.right (b.bit + 1) checked best
    go_right e odd =
        let side_is : true ≡ get_or (code_of x) (length at_fork.shared) false = e ∙ ap (λ k. get_or (code_of x) k false) limit in
        record {
          up = right_of id;
          here = at_fork.right;
          shared = at_fork.shared ++ true ∷ [];
          hangs = right_hangs;
          keyed = keyed.2;
          above = above.2;
          deep = omega (arith, limit, length-append at_fork.shared (true ∷ []));
          agreed = w.agreed;
          long = w.long;
          within = prefix_on w.agreed w.shared (at_fork.shared ++ true ∷ []) w.within (prefix_on w.shared at_fork.shared (at_fork.shared ++ true ∷ []) keyed.0 (prefix_more at_fork.shared (true ∷ [])));
          leads = w.leads;
          least = w.least;
          best_is = w.best_is;
          later = λ m ge le. w.later m ge le ∙ on_right_only (take m x) (λ q. odd m (other_side x m at_fork.shared true le side_is q).0);
          low = λ k p. w.low k (prefix_on w.shared at_fork.shared (code_of k) keyed.0 (prefix_under at_fork.shared true (code_of k) p));
          only = only_right;
        }

    -- no key ends here, so the best stays as it is
    pub step_way : (right : Bool) → right ≡ get_or (code_of x) b.bit false → ending_of right b ≡ None → IsOnWay (side_of right b) (b.bit + 1) checked best
    step_way false e none = go_left e
    step_way true e none = by (b.bit % 2 == 0) refl none
      where
        by_left : (d : Down) → d ≡ b.left → (j : ℕ) → b.bit ≡ 2 * j → leaf_number d ≡ None → IsOnWay b.right (b.bit + 1) checked best
        by_left (Leaf front) d_is j even none' = cc
        by_left (Branch h) d_is j even none' = absurd (even_left j h even (sym d_is))

        by : (even : Bool) → (b.bit % 2 == 0) ≡ even → (cond even (leaf_number b.left) None) ≡ None → IsOnWay b.right (b.bit + 1) checked best
        by true is_even none' =
            let zero_is : b.bit % 2 ≡ 0 = grind (arith, nat_tests) in
            by_left b.left refl (b.bit / 2) (omega (arith, zero_is)) none'
        by false is_odd none' =
            let other : b.bit % 2 ≢ 0 = grind (arith, nat_tests) in
            go_right e (λ m q. other (omega (arith, q, limit)))

    -- a key that ends here is the best
    raise_way : (j front : ℕ) → true ≡ get_or (code_of x) b.bit false → b.bit ≡ 2 * j → b.bit < 2 * length x + 1 → b.left ≡ Leaf front → IsPrefix at_fork.shared (code_of x) → IsOnWay b.right (b.bit + 1) (b.bit + 1) (Some front)
    raise_way j front e even within_x to_front whole =
        let side_is : true ≡ get_or (code_of x) (length at_fork.shared) false = e ∙ ap (λ k. get_or (code_of x) k false) limit in
        let at_even : length at_fork.shared ≡ 2 * j = sym limit ∙ even in
        let l = leaf_here f g (left_of id) at_fork.left front (subst (HangsAt f g (left_of id) at_fork.left) to_front left_hangs) in
        let key_keyed : IsPrefix (at_fork.shared ++ false ∷ []) (code_of l.key) = (let k : IsKeyed (at_fork.shared ++ false ∷ []) (leaf l.key front l.more) = subst (IsKeyed (at_fork.shared ++ false ∷ [])) l.shape keyed.1 in k) in
        let key_long : length l.key ≡ j = ends_here l.key at_fork.shared j at_even key_keyed in
        let code : code_of l.key ≡ at_fork.shared ++ false ∷ [] = prefix_whole (at_fork.shared ++ false ∷ []) (code_of l.key) key_keyed (omega (arith, length-append at_fork.shared (false ∷ []), code_length l.key, at_even, key_long)) in
        let prefix = code_cut l.key x at_fork.shared whole code in
        let taken = prefix_taken l.key x prefix in
        let same : take j x ≡ l.key = ap (λ n. take n x) (sym key_long) ∙ sym taken.0 in
        let next : IsPrefix (at_fork.shared ++ true ∷ []) (code_of x) = subst (λ c. IsPrefix (at_fork.shared ++ c ∷ []) (code_of x)) (sym side_is) (prefix_next at_fork.shared (code_of x) whole (omega (arith, limit, code_length x))) in
        record {
          up = right_of id;
          here = at_fork.right;
          shared = at_fork.shared ++ true ∷ [];
          hangs = right_hangs;
          keyed = keyed.2;
          above = above.2;
          deep = omega (arith, limit, length-append at_fork.shared (true ∷ []));
          agreed = at_fork.shared ++ true ∷ [];
          long = omega (arith, limit, length-append at_fork.shared (true ∷ []));
          within = prefix_self (at_fork.shared ++ true ∷ []);
          leads = next;
          least = suc j;
          best_is = (
            j,
            refl,
            omega (arith, taken.1, key_long),
            ap (λ k. first_or (numbers_of k pairs) None) same
                ∙ ap (λ l'. first_or l' None) (only_left l.key key_keyed ∙ ap (λ s. numbers_of l.key (pairs_of s)) l.shape ∙ numbers_with l.key (front ∷ l.more)),
          );
          later = λ m ge le.
              let t = taken_prefix m x le in
              let lower : w.least ≤ m = omega (arith, t.1, w.low (take m x) (code_taken m x w.shared le (prefix_on w.shared at_fork.shared (code_of x) keyed.0 whole) (omega (arith, prefix_length w.shared at_fork.shared keyed.0, at_even)))) in
              w.later m lower le ∙ on_right_only (take m x) (λ q. let s = other_side x m at_fork.shared true le side_is q in omega (arith, s.0, at_even));
          low = λ k p.
              let bit : get_or (code_of k) (length at_fork.shared) false ≡ true = prefix_bit at_fork.shared true (code_of k) p in
              let more_bits : nat_lt j (length k) ≡ true = sym (ap (λ n. get_or (code_of k) n false) at_even ∙ code_even k j) ∙ bit in
              grind (arith, nat_tests);
          only = only_right;
        }

    pub step_past_key : (right : Bool) (front : ℕ) → right ≡ get_or (code_of x) b.bit false → ending_of right b ≡ Some front → b.bit < 2 * length x + 1 → (y : List Bool) → key_in f id ≡ Some y → None ≡ split_before_of b.bit (split_of x y) → IsOnWay b.right (b.bit + 1) (b.bit + 1) (Some front)
    step_past_key false front e ends within_x y seen found = cc
    step_past_key true front e ends within_x y seen found = by (b.bit % 2 == 0) refl ends
      where
        left_is : (d : Down) → leaf_number d ≡ Some front → d ≡ Leaf front
        left_is (Leaf h) some = let same : h ≡ front = cc in ap Leaf same
        left_is (Branch h) some = cc

        by : (even : Bool) → (b.bit % 2 == 0) ≡ even → cond even (leaf_number b.left) None ≡ Some front → IsOnWay b.right (b.bit + 1) (b.bit + 1) (Some front)
        by true is_even some =
            let zero_is : b.bit % 2 ≡ 0 = grind (arith, nat_tests) in
            raise_way (b.bit / 2) front e (omega (arith, zero_is)) within_x (left_is b.left some) (agrees y seen found)
        by false is_odd some = cc

module _ (f : Leaves) (g : Forks) (at_root : Option Down) (pairs : KeyList) (x : List Bool) where
  -- the search begins at the root
  pub way_start : (shape : Option Shape) (down : Down) → at_root ≡ Some down → StandsAs f g at_root shape pairs → IsOnWay f g pairs x down 0 0 None
  way_start None down e stands = let none = stands.hangs in cc
  way_start (Some s) down e stands =
      let root_is = stands.hangs.1 in let same : stands.hangs.0 ≡ down = cc in
      record {
        up = None;
        here = s;
        shared = [];
        hangs = subst (HangsAt f g None s) same stands.hangs.2;
        keyed = stands.sound.keyed;
        above = stands.sound.above;
        deep = refl;
        agreed = [];
        long = refl;
        within = prefix_none [];
        leads = prefix_none (code_of x);
        least = 0;
        best_is = refl;
        later = λ m _ _. stands.same (take m x);
        low = λ k _. omega arith;
        only = λ k _. stands.same k;
      }

  -- an empty tree has no prefix of the key
  pub way_none : (shape : Option Shape) → at_root ≡ None → StandsAs f g at_root shape pairs → IsLongestOrNone pairs x None
  way_none shape e stands m le = (seat_at_root f g at_root pairs x shape e stands).same (take m x)

-- what was compared, the key of a leaf begins with
pub leaf_agreed : (f : Leaves) (g : Forks) (pairs : KeyList) (x : List Bool) (id depth checked : ℕ) (best : Option ℕ) (w : IsOnWay f g pairs x (Leaf id) depth checked best) (y : List Bool) → key_in f id ≡ Some y → IsPrefix w.agreed (code_of y)
leaf_agreed f g pairs x id depth checked best w y seen =
    let h = leaf_here f g w.up w.here id w.hangs in
    let keyed : IsKeyed w.shared (leaf h.key id h.more) = subst (IsKeyed w.shared) h.shape w.keyed in
    let some : Some h.key ≡ Some y = sym h.seen ∙ seen in
    let same : h.key ≡ y = cc in
    subst (λ k. IsPrefix w.agreed (code_of k)) same (prefix_on w.agreed w.shared (code_of h.key) w.within keyed)
