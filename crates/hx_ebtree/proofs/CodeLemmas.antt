-- Prefixes of codes, and where two codes part.
use Rattle.std.proofs.Common.{◌≡◌, ◌⊎◌, ℕ, zero, suc, ◌+◌, ◌*◌, ◌<◌, ◌≤◌, Bool, true, false, cond, List, [], ◌∷◌, ◌++◌, length, get_or, Option, Some, None, refl, sym, ap, subst, ◌∙◌, inl, inr, arith, length-append, true≢false}
use mathlib.Core.Bool.{not}
use Rattle.std.proofs.lemmas.List.{append_assoc, append-nil}
use Rattle.std.specs.Option.{option_map}
use Rattle.hx_ebtree.specs.Bits.{code_of, IsPrefix, is_same_bit, split_of}
use Rattle.hx_ebtree.proofs.BitLemmas.{code_length}

pub prefix_self : (xs : List Bool) → IsPrefix xs xs
prefix_self xs = ([], sym (append-nil xs))

pub prefix_none : (xs : List Bool) → IsPrefix [] xs
prefix_none xs = (xs, refl)

pub prefix_on : (xs ys zs : List Bool) → IsPrefix xs ys → IsPrefix ys zs → IsPrefix xs zs
prefix_on xs ys zs p q = (p.0 ++ q.0, q.1 ∙ ap (λ l. l ++ q.0) p.1 ∙ append_assoc xs p.0 q.0)

pub prefix_more : (xs ys : List Bool) → IsPrefix xs (xs ++ ys)
prefix_more xs ys = (ys, refl)

pub prefix_under : (p : List Bool) (b : Bool) (xs : List Bool) → IsPrefix (p ++ b ∷ []) xs → IsPrefix p xs
prefix_under p b xs q = prefix_on p (p ++ b ∷ []) xs (prefix_more p (b ∷ [])) q

pub prefix_length : (xs ys : List Bool) → IsPrefix xs ys → length xs ≤ length ys
prefix_length xs ys p = omega (arith, ap length p.1, length-append xs p.0)

-- the shorter of two prefixes is a prefix of the longer
pub prefix_both : (xs ys zs : List Bool) → IsPrefix xs zs → IsPrefix ys zs → length xs ≤ length ys → IsPrefix xs ys
prefix_both [] ys zs p q le = (ys, refl)
prefix_both (x ∷ xs) [] zs p q le = absurd (omega arith)
prefix_both (x ∷ xs) (y ∷ ys) [] p q le = let no = p.1 in cc
prefix_both (x ∷ xs) (y ∷ ys) (z ∷ zs) p q le =
    let a = p.1 in let b = q.1 in
    let hx : z ≡ x = cc in let hy : z ≡ y = cc in
    let tx : zs ≡ xs ++ p.0 = cc in let ty : zs ≡ ys ++ q.0 = cc in
    let rest = prefix_both xs ys zs (p.0, tx) (q.0, ty) (omega arith) in
    let same : y ≡ x = sym hy ∙ hx in
    (rest.0, ap (λ l. y ∷ l) rest.1 ∙ ap (λ w. w ∷ (xs ++ rest.0)) same)

-- what comes right after a prefix
pub prefix_bit : (p : List Bool) (b : Bool) (xs : List Bool) → IsPrefix (p ++ b ∷ []) xs → get_or xs (length p) false ≡ b
prefix_bit [] b [] q = let no = q.1 in cc
prefix_bit [] b (x ∷ xs) q = let e = q.1 in let same : x ≡ b = cc in same
prefix_bit (c ∷ p) b [] q = let no = q.1 in cc
prefix_bit (c ∷ p) b (x ∷ xs) q = let e = q.1 in let t : xs ≡ (p ++ b ∷ []) ++ q.0 = cc in prefix_bit p b xs (q.0, t)

pub prefix_next : (p xs : List Bool) → IsPrefix p xs → length p < length xs → IsPrefix (p ++ get_or xs (length p) false ∷ []) xs
prefix_next [] [] q lt = absurd (omega arith)
prefix_next [] (x ∷ xs) q lt = (xs, refl)
prefix_next (c ∷ p) [] q lt = let no = q.1 in cc
prefix_next (c ∷ p) (x ∷ xs) q lt =
    let e = q.1 in let h : x ≡ c = cc in let t : xs ≡ p ++ q.0 = cc in
    let r = prefix_next p xs (q.0, t) (omega arith) in
    (r.0, ap (λ l. x ∷ l) r.1 ∙ ap (λ w. w ∷ ((p ++ get_or xs (length p) false ∷ []) ++ r.0)) h)

pub bits_clash : (b : Bool) → b ≡ not b → ⊥
bits_clash true e = true≢false e
bits_clash false e = true≢false (sym e)

pub prefix_clash : (p : List Bool) (b : Bool) (xs : List Bool) → IsPrefix (p ++ b ∷ []) xs → IsPrefix (p ++ not b ∷ []) xs → ⊥
prefix_clash p b xs q r = bits_clash b (sym (prefix_bit p b xs q) ∙ prefix_bit p (not b) xs r)

-- where the codes of two keys part
pub record Parts (x y : List Bool) (at : ℕ) (right : Bool) : Type 0 where
  pub shared : List Bool
  pub long : length shared ≡ at
  pub first : IsPrefix (shared ++ right ∷ []) (code_of x)
  pub second : IsPrefix (shared ++ not right ∷ []) (code_of y)

parts_after : (x y : Bool) (xs ys : List Bool) (at : ℕ) → x ≡ y → (right : Bool) × Parts xs ys at right → (right : Bool) × Parts (x ∷ xs) (y ∷ ys) (at + 2) right
parts_after x y xs ys at e p = (
  p.0,
  record {
    shared = true ∷ x ∷ p.1.shared;
    long = omega (arith, p.1.long);
    first = (p.1.first.0, ap (λ l. true ∷ x ∷ l) p.1.first.1);
    second = (p.1.second.0, ap (λ l. true ∷ y ∷ l) p.1.second.1 ∙ ap (λ w. true ∷ w ∷ ((p.1.shared ++ not p.0 ∷ []) ++ p.1.second.0)) (sym e));
  },
)

pub same_bits : (x y : Bool) → is_same_bit x y ≡ true → x ≡ y
same_bits false false e = refl
same_bits true true e = refl
same_bits false true e = absurd (true≢false (sym e))
same_bits true false e = absurd (true≢false (sym e))

pub other_bits : (x y : Bool) → is_same_bit x y ≡ false → y ≡ not x
other_bits false false e = absurd (true≢false e)
other_bits true true e = absurd (true≢false e)
other_bits false true e = refl
other_bits true false e = refl

pub split_parts : (x y : List Bool) (at : ℕ) → split_of x y ≡ Some at → (right : Bool) × Parts x y at right
split_parts [] [] at e = cc
split_parts [] (y ∷ ys) at e = let zero_at : at ≡ 0 = cc in (false, record { shared = []; long = sym zero_at; first = ([], refl); second = (y ∷ code_of ys, refl) })
split_parts (x ∷ xs) [] at e = let zero_at : at ≡ 0 = cc in (true, record { shared = []; long = sym zero_at; first = (x ∷ code_of xs, refl); second = ([], refl) })
split_parts (x ∷ xs) (y ∷ ys) at e = by (λ k more. split_parts xs ys k more) (is_same_bit x y) (split_of xs ys) refl refl e
  where
    by : ((k : ℕ) → split_of xs ys ≡ Some k → (right : Bool) × Parts xs ys k right) → (b : Bool) (o : Option ℕ) → is_same_bit x y ≡ b → split_of xs ys ≡ o → cond b (option_map (λ k. k + 2) o) (Some 1) ≡ Some at → (right : Bool) × Parts (x ∷ xs) (y ∷ ys) at right
    by rec false o same more e' =
        let one_at : at ≡ 1 = cc in let other = other_bits x y same in
        (x, record { shared = true ∷ []; long = sym one_at; first = (code_of xs, refl); second = (code_of ys, ap (λ w. true ∷ w ∷ code_of ys) other) })
    by rec true None same more e' = cc
    by rec true (Some k) same more e' =
        let at_is : at ≡ k + 2 = cc in
        subst (λ n. (right : Bool) × Parts (x ∷ xs) (y ∷ ys) n right) (sym at_is) (parts_after x y xs ys k (same_bits x y same) (rec k more))

pub split_same : (x y : List Bool) → split_of x y ≡ None → x ≡ y
split_same [] [] e = refl
split_same [] (y ∷ ys) e = cc
split_same (x ∷ xs) [] e = cc
split_same (x ∷ xs) (y ∷ ys) e = by (λ more. split_same xs ys more) (is_same_bit x y) (split_of xs ys) refl refl e
  where
    by : (split_of xs ys ≡ None → xs ≡ ys) → (b : Bool) (o : Option ℕ) → is_same_bit x y ≡ b → split_of xs ys ≡ o → cond b (option_map (λ k. k + 2) o) (Some 1) ≡ None → x ∷ xs ≡ y ∷ ys
    by rec false o same more e' = cc
    by rec true None same more e' = ap (λ l. x ∷ l) (rec more) ∙ ap (λ w. w ∷ ys) (same_bits x y same)
    by rec true (Some k) same more e' = cc

pub parts_within : (x y : List Bool) (at : ℕ) (right : Bool) → Parts x y at right → (at < 2 * length x + 1) × (at < 2 * length y + 1)
parts_within x y at right p = (
  omega (arith, prefix_length (p.shared ++ right ∷ []) (code_of x) p.first, length-append p.shared (right ∷ []), p.long, code_length x),
  omega (arith, prefix_length (p.shared ++ not right ∷ []) (code_of y) p.second, length-append p.shared (not right ∷ []), p.long, code_length y),
)

pub parts_bit : (x y : List Bool) (at : ℕ) (right : Bool) → Parts x y at right → get_or (code_of x) at false ≡ right
parts_bit x y at right p = ap (λ k. get_or (code_of x) k false) (sym p.long) ∙ prefix_bit p.shared right (code_of x) p.first

-- what both codes begin with is what they share
pub parts_under : (x y : List Bool) (at : ℕ) (right : Bool) (q : List Bool) (p : Parts x y at right) → IsPrefix q (code_of x) → IsPrefix q (code_of y) → IsPrefix q p.shared
parts_under x y at right q p qx qy = by_length (le_or (length q) (length p.shared))
  where
    le_or : (m n : ℕ) → (m ≤ n) ⊎ (n < m)
    le_or zero n = inl (omega arith)
    le_or (suc m) zero = inr (omega arith)
    le_or (suc m) (suc n) = elim (le_or m n) [ inl a ↦ inl (omega arith) | inr b ↦ inr (omega arith) ]

    by_length : (length q ≤ length p.shared) ⊎ (length p.shared < length q) → IsPrefix q p.shared
    by_length (inl le) = prefix_both q p.shared (code_of x) qx (prefix_under p.shared right (code_of x) p.first) le
    by_length (inr lt) = absurd (prefix_clash p.shared right q
        (prefix_both (p.shared ++ right ∷ []) q (code_of x) p.first qx (omega (arith, length-append p.shared (right ∷ []))))
        (prefix_both (p.shared ++ not right ∷ []) q (code_of y) p.second qy (omega (arith, length-append p.shared (not right ∷ [])))))

-- what the other code begins with, where the two part after it
pub parts_past : (x y : List Bool) (at : ℕ) (right : Bool) (q : List Bool) → Parts x y at right → IsPrefix q (code_of y) → length q ≤ at → IsPrefix q (code_of x)
parts_past x y at right q p qy le =
    prefix_on q p.shared (code_of x) (prefix_both q p.shared (code_of y) qy (prefix_under p.shared (not right) (code_of y) p.second) (omega (arith, p.long)))
    (prefix_under p.shared right (code_of x) p.first)

-- what the other code begins with, where the two part within it
pub parts_in : (x y : List Bool) (at : ℕ) (right : Bool) (q : List Bool) (p : Parts x y at right) → IsPrefix q (code_of y) → at < length q → IsPrefix (p.shared ++ not right ∷ []) q
parts_in x y at right q p qy lt = prefix_both (p.shared ++ not right ∷ []) q (code_of y) p.second qy (omega (arith, length-append p.shared (not right ∷ []), p.long))
