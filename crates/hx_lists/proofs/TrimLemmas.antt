-- What trimming takes off.
use Rattle.std.proofs.Common.{◌≡◌, ℕ, ◌+◌, ◌-◌, ◌<◌, ◌≤◌, Bool, true, false, List, [], ◌∷◌, ◌++◌, length, get_or, take, drop, reverse, refl, sym, ap, subst, ◌∙◌, arith, inl, inr}
use Rattle.std.specs.List.{AllByRecursion, prefix_len, suffix_len}
use Rattle.std.proofs.lemmas.Bool.{cases_Bool, cases_lt}
use Rattle.std.proofs.lemmas.List.{append-nil, length-append, reverse-append, take_at, drop_at, drop_all, drop-drop, take-append-drop, length-take, length-drop, length-reverse, get_or-take, get_or-drop, get_or-reverse}
use Rattle.std.proofs.lemmas.List.Elements.{recursion_from_All, All-from_recursion}
use Rattle.std.proofs.lemmas.List.Sums.{prefix_len_is, prefix_len_passes, prefix_len_stops, suffix_len-le-length, suffix_len-take_no}
use Rattle.hx_base.specs.Bytes.{is_blank}
use Rattle.hx_lists.specs.Blanks.{trim_blanks}
use Rattle.hx_lists.specs.Laws.{IsTrimmed}

module _ (p : ℕ → Bool) where
  prefix_passes : (xs : List ℕ) → AllByRecursion (λ x. p x ≡ true) (take (prefix_len p xs) xs)
  prefix_passes xs =
      let here = prefix_len p xs in
      recursion_from_All (λ x. p x ≡ true) (take here xs)
      (λ k d lt.
      let short : k < here = omega (arith, length-take here xs) in
      subst (λ x. p x ≡ true) (sym (get_or-take here xs k d short))
      (prefix_len_passes p xs k d short))

  end_passes : (xs : List ℕ)
      → AllByRecursion (λ x. p x ≡ true) (drop (length xs - suffix_len p xs) xs)
  end_passes xs =
      let at = length xs - suffix_len p xs in
      recursion_from_All (λ x. p x ≡ true) (drop at xs)
      (λ k d lt.
      let within : at + k < length xs = omega (arith, length-drop at xs) in
      let back = length xs - 1 - (at + k) in
      let counted : back < suffix_len p xs = omega (arith, suffix_len-le-length p xs) in
      let inside : back < length xs = omega arith in
      let same : length xs - 1 - back ≡ at + k = omega arith in
      let read = get_or-drop at xs k d ∙ ap (λ i. get_or xs i d) (sym same) ∙ sym
      (get_or-reverse xs back d inside) in
      subst (λ x. p x ≡ true) (sym read) (prefix_len_passes p (reverse xs) back d counted))

  prefix_stops : (xs : List ℕ) (m : ℕ) → prefix_len p (take m (drop (prefix_len p xs) xs)) ≡ 0
  prefix_stops xs m =
      let n = prefix_len p xs in
      prefix_len_is p (take m (drop n xs)) 0 0 (omega arith) (λ k lt. absurd (omega arith))
      (λ some.
      let kept : 0 < m = omega (arith, length-take m (drop n xs)) in
      let more : n < length xs = omega (arith, length-take m (drop n xs), length-drop n xs) in
      let read = get_or-take m (drop n xs) 0 0 kept ∙ get_or-drop n xs 0 0 ∙ ap (λ i. get_or xs i 0)
      (omega arith) in
      subst (λ x. p x ≡ false) (sym read) (prefix_len_stops p xs 0 more))

  end_stops : (xs : List ℕ) → suffix_len p (take (length xs - suffix_len p xs) xs) ≡ 0
  end_stops xs =
      let at = length xs - suffix_len p xs in
      elim (cases_lt 0 at) [
        | inl some ↦
            let short : suffix_len p xs < length (reverse xs) = omega (arith, length-reverse xs) in
            let within : suffix_len p xs < length xs = omega arith in
            let same : length xs - 1 - suffix_len p xs ≡ at - 1 = omega arith in
            let read = get_or-reverse xs (suffix_len p xs) 0 within ∙ ap
            (λ i. get_or xs i 0) same in
            suffix_len-take_no p xs at 0 some (omega arith) (subst (λ x. p x ≡ false) read
            (prefix_len_stops p (reverse xs) 0 short))
        | inr none ↦
            let zero : at ≡ 0 = omega arith in ap (λ n. suffix_len p (take n xs)) zero
      ]

pub IsTrimmed-trim_blanks : (bytes : List ℕ) → IsTrimmed bytes (trim_blanks bytes)
IsTrimmed-trim_blanks bytes =
    let n = prefix_len is_blank bytes in
    let tail = drop n bytes in
    let at = length tail - suffix_len is_blank tail in record {
      before = take n bytes;
      after = drop at tail;
      whole = ap (λ rest. take n bytes ++ rest) (take-append-drop at tail) ∙ take-append-drop n bytes;
      blank_before = prefix_passes is_blank bytes;
      blank_after = end_passes is_blank tail;
      no_blank_first = prefix_stops is_blank bytes at;
      no_blank_last = end_stops is_blank tail;
    }

module _ (p : ℕ → Bool) where
  prefix_len-append : (xs ys : List ℕ) → AllByRecursion (λ x. p x ≡ true) xs
      → prefix_len p (xs ++ ys) ≡ length xs + prefix_len p ys
  prefix_len-append [] ys h = omega arith
  prefix_len-append (x ∷ xs) ys h = let rest = prefix_len-append xs ys h.1 in rw h.0 (omega (arith, rest))

  all_pass-reverse : (xs : List ℕ) → AllByRecursion (λ x. p x ≡ true) xs
      → AllByRecursion (λ x. p x ≡ true) (reverse xs)
  all_pass-reverse xs h =
      let passes = All-from_recursion (λ x. p x ≡ true) xs h in
      recursion_from_All (λ x. p x ≡ true) (reverse xs)
      (λ k d lt.
      let inside : k < length xs = omega (arith, length-reverse xs) in
      subst (λ x. p x ≡ true) (sym (get_or-reverse xs k d inside))
      (passes (length xs - 1 - k) d (omega arith)))

  suffix_len-append : (xs ys : List ℕ) → AllByRecursion (λ x. p x ≡ true) ys
      → suffix_len p (xs ++ ys) ≡ length ys + suffix_len p xs
  suffix_len-append xs ys h =
      ap (prefix_len p) (reverse-append xs ys)
      ∙ prefix_len-append (reverse ys) (reverse xs) (all_pass-reverse ys h)
      ∙ ap (λ n. n + suffix_len p xs) (length-reverse ys)

  prefix_len-bare : (x : ℕ) (xs ys : List ℕ) → prefix_len p (x ∷ xs) ≡ 0 → prefix_len p (x ∷ ys) ≡ 0
  prefix_len-bare x xs ys h =
      elim (cases_Bool (p x)) [
        | inl yes' ↦
            let more : prefix_len p (x ∷ xs) ≡ 1 + prefix_len p xs
            = rw yes' refl in absurd (omega arith)
        | inr no' ↦ rw no' refl
      ]

drop-before : (xs ys : List ℕ) (n : ℕ) → drop (length xs + n) (xs ++ ys) ≡ drop n ys
drop-before xs ys n =
    sym (drop-drop n (length xs) (xs ++ ys)) ∙ ap (drop n) (drop_at xs ys (length xs) refl)

tail_of : (before rest : List ℕ) → AllByRecursion (λ b. is_blank b ≡ true) before
    → drop (prefix_len is_blank (before ++ rest)) (before ++ rest)
    ≡ drop (prefix_len is_blank rest) rest
tail_of before rest h =
    ap (λ n. drop n (before ++ rest)) (prefix_len-append is_blank before rest h)
    ∙ drop-before before rest (prefix_len is_blank rest)

trim_end : List ℕ → List ℕ
trim_end tail = take (length tail - suffix_len is_blank tail) tail

trimmed-between : (trimmed after : List ℕ) → AllByRecursion (λ b. is_blank b ≡ true) after
    → prefix_len is_blank trimmed ≡ 0 → suffix_len is_blank trimmed ≡ 0
    → trim_end (drop (prefix_len is_blank (trimmed ++ after)) (trimmed ++ after)) ≡ trimmed
unfolding trim_end
trimmed-between [] after h tail end =
    let none = prefix_len-append is_blank after [] h in
    let long : length after ≤ prefix_len is_blank after
    = omega (arith, ap (prefix_len is_blank) (append-nil after)) in
    ap (λ rest. take (length rest - suffix_len is_blank rest) rest)
    (drop_all (prefix_len is_blank after) after long)
trimmed-between (x ∷ xs) after h tail end =
    let whole = (x ∷ xs) ++ after in
    let kept = suffix_len-append is_blank (x ∷ xs) after h in
    let size : length (x ∷ xs) ≡ length whole - suffix_len is_blank whole
    = omega (arith, length-append (x ∷ xs) after) in
    ap (λ n. trim_end (drop n whole)) (prefix_len-bare is_blank x xs (xs ++ after) tail)
    ∙ take_at (x ∷ xs) after (length whole - suffix_len is_blank whole) size

pub IsTrimmed-only : (bytes trimmed : List ℕ) → IsTrimmed bytes trimmed
    → trimmed ≡ trim_blanks bytes
unfolding trim_end
IsTrimmed-only bytes trimmed h =
    sym (trimmed-between trimmed h.after h.blank_after h.no_blank_first h.no_blank_last)
    ∙ ap trim_end (sym (tail_of h.before (trimmed ++ h.after) h.blank_before))
    ∙ ap trim_blanks h.whole
