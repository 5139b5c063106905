-- The longest prefix: of a list, and step by step on the way down.
use Rattle.std.proofs.Common.{◌≡◌, ◌⊎◌, ℕ, zero, suc, ◌<◌, ◌≤◌, Bool, true, false, cond, nat_lt, List, [], ◌∷◌, ◌++◌, length, take, Option, Some, None, refl, sym, ap, subst, ◌∙◌, inl, inr, arith, true≢false}
use Rattle.std.proofs.lemmas.Bool.Decides.{nat_tests}
use Rattle.std.specs.Option.{option_map}
use Rattle.hx_pool.specs.Chain.{first_or}
use Rattle.hx_ebtree.specs.Bits.{IsPrefix}
use Rattle.hx_ebtree.specs.KeyList.{KeyList, is_prefix, is_same_key, longer_of, longest_pair_of, longest_of, numbers_of}
use Rattle.hx_ebtree.proofs.PairLemmas.{key_self, key_cases}

pub prefix_true : (xs ys : List Bool) → is_prefix xs ys ≡ true → IsPrefix xs ys
prefix_true [] ys e = (ys, refl)
prefix_true (x ∷ xs) [] e = absurd (true≢false (sym e))
prefix_true (true ∷ xs) (true ∷ ys) e = let r = prefix_true xs ys e in (r.0, ap (λ l. true ∷ l) r.1)
prefix_true (false ∷ xs) (false ∷ ys) e = let r = prefix_true xs ys e in (r.0, ap (λ l. false ∷ l) r.1)
prefix_true (true ∷ xs) (false ∷ ys) e = absurd (true≢false (sym e))
prefix_true (false ∷ xs) (true ∷ ys) e = absurd (true≢false (sym e))

pub prefix_is : (xs ys : List Bool) → IsPrefix xs ys → is_prefix xs ys ≡ true
prefix_is [] ys p = refl
prefix_is (x ∷ xs) [] p = let no = p.1 in cc
prefix_is (x ∷ xs) (y ∷ ys) p =
    let e = p.1 in let same : y ≡ x = cc in let t : ys ≡ xs ++ p.0 = cc in
    by x y same (prefix_is xs ys (p.0, t))
  where
    by : (a b : Bool) → b ≡ a → is_prefix xs ys ≡ true → is_prefix (a ∷ xs) (b ∷ ys) ≡ true
    by true true e r = r
    by false false e r = r
    by true false e r = absurd (true≢false (sym e))
    by false true e r = absurd (true≢false e)

-- a prefix is what is taken of its length
pub prefix_taken : (xs ys : List Bool) → IsPrefix xs ys → (xs ≡ take (length xs) ys) × (length xs ≤ length ys)
prefix_taken [] ys p = (refl, omega arith)
prefix_taken (x ∷ xs) [] p = let no = p.1 in cc
prefix_taken (x ∷ xs) (y ∷ ys) p =
    let e = p.1 in let same : x ≡ y = cc in let t : ys ≡ xs ++ p.0 = cc in
    let r = prefix_taken xs ys (p.0, t) in
    (ap (λ l. x ∷ l) r.0 ∙ ap (λ b. b ∷ take (length xs) ys) same, omega (arith, r.1))

pub taken_prefix : (m : ℕ) (ys : List Bool) → m ≤ length ys → IsPrefix (take m ys) ys × (length (take m ys) ≡ m)
taken_prefix zero ys le = ((ys, refl), refl)
taken_prefix (suc m) [] le = absurd (omega arith)
taken_prefix (suc m) (y ∷ ys) le = let r = taken_prefix m ys (omega arith) in ((r.0.0, ap (λ l. y ∷ l) r.0.1), ap suc r.1)

-- the first number of the longest prefix of the key that has one
pub record IsLongest (pairs : KeyList) (key : List Bool) (id : ℕ) : Type 0 where
  pub length_of : ℕ
  pub within : length_of ≤ length key
  pub first : first_or (numbers_of (take length_of key) pairs) None ≡ Some id
  pub longer : (m : ℕ) → length_of < m → m ≤ length key → numbers_of (take m key) pairs ≡ []

abbrev pub IsLongestOrNone : KeyList → List Bool → Option ℕ → Type 0
IsLongestOrNone pairs key (Some id) = IsLongest pairs key id
IsLongestOrNone pairs key None = (m : ℕ) → m ≤ length key → numbers_of (take m key) pairs ≡ []

-- the scan of the list, with the length that it found
abbrev IsScan : KeyList → List Bool → Option (List Bool × ℕ) → Type 0
IsScan pairs key None = (m : ℕ) → m ≤ length key → numbers_of (take m key) pairs ≡ []
IsScan pairs key (Some p) = IsPrefix p.0 key × (first_or (numbers_of p.0 pairs) None ≡ Some p.1)
    × ((m : ℕ) → length p.0 < m → m ≤ length key → numbers_of (take m key) pairs ≡ [])

not_same_length : (xs ys : List Bool) → (length xs ≡ length ys → ⊥) → is_same_key xs ys ≡ false
not_same_length xs ys d = elim (key_cases xs ys) [ inl e ↦ absurd (d (ap length e)) | inr e ↦ e ]

skip : (pair : List Bool × ℕ) (pairs : KeyList) (key : List Bool) → is_same_key pair.0 key ≡ false → numbers_of key (pair ∷ pairs) ≡ numbers_of key pairs
skip pair pairs key e = rw e

hit : (pair : List Bool × ℕ) (pairs : KeyList) → first_or (numbers_of pair.0 (pair ∷ pairs)) None ≡ Some pair.1
hit pair pairs = rw (key_self pair.0)

-- a pair whose key is no prefix changes nothing
skip_scan : (pair : List Bool × ℕ) (pairs : KeyList) (key : List Bool) (o : Option (List Bool × ℕ)) → is_prefix pair.0 key ≡ false → IsScan pairs key o → IsScan (pair ∷ pairs) key o
skip_scan pair pairs key None off scan = λ m le. skip pair pairs (take m key) (differs m le) ∙ scan m le
  where
    differs : (m : ℕ) → m ≤ length key → is_same_key pair.0 (take m key) ≡ false
    differs m le = elim (key_cases pair.0 (take m key)) [
      | inl e ↦ absurd (true≢false (sym (prefix_is pair.0 key (subst (λ k. IsPrefix k key) (sym e) (taken_prefix m key le).0)) ∙ off))
      | inr d ↦ d
    ]
skip_scan pair pairs key (Some p) off scan = (
  scan.0,
  ap (λ l. first_or l None) (skip pair pairs p.0 (other p.0 scan.0)) ∙ scan.1,
  λ m lt le. skip pair pairs (take m key) (other (take m key) (taken_prefix m key le).0) ∙ scan.2 m lt le,
)
  where
    other : (k : List Bool) → IsPrefix k key → is_same_key pair.0 k ≡ false
    other k pre = elim (key_cases pair.0 k) [ inl e ↦ absurd (true≢false (sym (prefix_is pair.0 key (subst (λ w. IsPrefix w key) (sym e) pre)) ∙ off)) | inr d ↦ d ]

take_scan : (pair : List Bool × ℕ) (pairs : KeyList) (key : List Bool) (o : Option (List Bool × ℕ)) → IsPrefix pair.0 key → IsScan pairs key o → IsScan (pair ∷ pairs) key (longer_of pair o)
take_scan pair pairs key None pre scan = (
  pre,
  hit pair pairs,
  λ m lt le. skip pair pairs (take m key) (not_same_length pair.0 (take m key) (λ e. omega (arith, e, (taken_prefix m key le).1))) ∙ scan m le,
)
take_scan pair pairs key (Some p) pre scan = by (nat_lt (length pair.0) (length p.0)) refl
  where
    by : (b : Bool) → nat_lt (length pair.0) (length p.0) ≡ b → IsScan (pair ∷ pairs) key (cond b (Some p) (Some pair))
    by true e = let lt : length pair.0 < length p.0 = grind (arith, nat_tests) in (
      scan.0,
      ap (λ l. first_or l None) (skip pair pairs p.0 (not_same_length pair.0 p.0 (λ same. omega arith))) ∙ scan.1,
      λ m more le. skip pair pairs (take m key) (not_same_length pair.0 (take m key) (λ same. omega (arith, same, (taken_prefix m key le).1))) ∙ scan.2 m more le,
    )
    by false e = let ge : length p.0 ≤ length pair.0 = grind (arith, nat_tests) in (
      pre,
      hit pair pairs,
      λ m more le. skip pair pairs (take m key) (not_same_length pair.0 (take m key) (λ same. omega (arith, same, (taken_prefix m key le).1))) ∙ scan.2 m (omega arith) le,
    )

scan_is : (pairs : KeyList) (key : List Bool) → IsScan pairs key (longest_pair_of pairs key)
scan_is [] key = λ m le. refl
scan_is (pair ∷ pairs) key = by (is_prefix pair.0 key) refl (scan_is pairs key)
  where
    by : (b : Bool) → is_prefix pair.0 key ≡ b → IsScan pairs key (longest_pair_of pairs key) → IsScan (pair ∷ pairs) key (cond b (longer_of pair (longest_pair_of pairs key)) (longest_pair_of pairs key))
    by true e scan = take_scan pair pairs key (longest_pair_of pairs key) (prefix_true pair.0 key e) scan
    by false e scan = skip_scan pair pairs key (longest_pair_of pairs key) e scan

lt_cases : (m n : ℕ) → (m < n) ⊎ ((m ≡ n) ⊎ (n < m))
lt_cases zero zero = inr (inl refl)
lt_cases zero (suc n) = inl (omega arith)
lt_cases (suc m) zero = inr (inr (omega arith))
lt_cases (suc m) (suc n) = elim (lt_cases m n) [ inl a ↦ inl (omega arith) | inr (inl e) ↦ inr (inl (ap suc e)) | inr (inr b) ↦ inr (inr (omega arith)) ]

no_first : (xs : List ℕ) (id : ℕ) → xs ≡ [] → first_or xs None ≡ Some id → ⊥
no_first xs id e f = let g : first_or xs None ≡ None = ap (λ l. first_or l None) e in cc

-- there is one longest prefix
pub longest_is : (pairs : KeyList) (key : List Bool) (r : Option ℕ) → IsLongestOrNone pairs key r → r ≡ longest_of pairs key
longest_is pairs key r is = by r (longest_pair_of pairs key) is (scan_is pairs key)
  where
    by : (r : Option ℕ) (o : Option (List Bool × ℕ)) → IsLongestOrNone pairs key r → IsScan pairs key o → r ≡ option_map (λ (p : List Bool × ℕ). p.1) o
    by None None is scan = refl
    by None (Some p) is scan = let t = prefix_taken p.0 key scan.0 in absurd (no_first (numbers_of p.0 pairs) p.1 (ap (λ k. numbers_of k pairs) t.0 ∙ is (length p.0) t.1) scan.1)
    by (Some id) None is scan = absurd (no_first (numbers_of (take is.length_of key) pairs) id (scan is.length_of is.within) is.first)
    by (Some id) (Some p) is scan =
        let t = prefix_taken p.0 key scan.0 in
        elim (lt_cases is.length_of (length p.0)) [
          | inl lt ↦ absurd (no_first (numbers_of p.0 pairs) p.1 (ap (λ k. numbers_of k pairs) t.0 ∙ is.longer (length p.0) lt t.1) scan.1)
          | inr (inl e) ↦ let same : take is.length_of key ≡ p.0 = ap (λ m. take m key) e ∙ sym t.0 in
              sym is.first ∙ ap (λ k. first_or (numbers_of k pairs) None) same ∙ scan.1
          | inr (inr gt) ↦ absurd (no_first (numbers_of (take is.length_of key) pairs) id (scan.2 is.length_of gt is.within) is.first)
        ]
