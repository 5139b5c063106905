-- One number after another, and what there is for each.
use Rattle.std.proofs.Common.{◌≡◌, ℕ, suc, zero, ◌+◌, List, [], ◌∷◌, ◌++◌, ap, ◌∙◌, add-one, append-nil, arith}
use Rattle.std.specs.List.{flat_map, range_with_len}
use Rattle.std.proofs.lemmas.Grind.{flat_map-append}
use Rattle.hx_gen.specs.Numbers.{for_each_to, next_number, random_number}

-- the number that comes next
pub next_is : (first k j : ℕ) → k + 1 ≡ j
    → random_number first j ≡ next_number (random_number first k)
next_is first k j is = rw (← is, add-one)

range_more : (a n : ℕ) → range_with_len a (suc n) ≡ range_with_len a n ++ (a + n) ∷ []
range_more a zero = let same : a ≡ a + 0 = omega arith in ap (λ b. b ∷ []) same
range_more a (suc n) =
    let same : (a + 1) + n ≡ a + suc n = omega arith in
    ap (λ xs. a ∷ xs) (range_more (a + 1) n ∙ ap (λ b. range_with_len (a + 1) n ++ b ∷ []) same)

one_more_suc : {A : Type 0} (items : ℕ → List A) (n : ℕ)
    → for_each_to (suc n) items ≡ for_each_to n items ++ items (suc n)
one_more_suc items n =
    let next : 1 + n ≡ suc n = omega arith in
    ap (flat_map items) (range_more 1 n)
    ∙ (flat_map-append items (range_with_len 1 n) ((1 + n) ∷ [])
    ∙ ap (λ xs. flat_map items (range_with_len 1 n) ++ xs)
    (append-nil (items (1 + n)) ∙ ap items next))

-- what there is for one number more
pub one_more : {A : Type 0} (items : ℕ → List A) (n : ℕ)
    → for_each_to (n + 1) items ≡ for_each_to n items ++ items (n + 1)
one_more items n = rw (add-one n) (one_more_suc items n)
