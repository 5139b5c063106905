-- Bytes that a change leaves as they are, and those that it doesn't.
use Rattle.std.proofs.Common.{◌≡◌, ℕ, true, false, ◌==◌, List, [], ◌∷◌, map, refl, sym, ap, ap₂, ◌∙◌, inl, inr, eq-eqb, eqb-true}
use Rattle.std.specs.List.{list_all}
use Rattle.std.proofs.lemmas.Bool.{cases_Bool}

same_bytes : (f : ℕ → ℕ) (xs : List ℕ) → list_all (λ b. f b == b) xs ≡ true → map f xs ≡ xs
same_bytes f [] all = refl
same_bytes f (x ∷ xs) all =
    elim (cases_Bool (f x == x)) [
      | inl same ↦ ap₂ ◌∷◌ (eqb-true (f x) x same) (same_bytes f xs (rw same at all))
      | inr other ↦ absurd (let no : false ≡ true = rw other at all in cc)
    ]

all_same : (f : ℕ → ℕ) (xs : List ℕ) → map f xs ≡ xs → list_all (λ b. f b == b) xs ≡ true
all_same f [] same = refl
all_same f (x ∷ xs) same =
    let first : f x ≡ x = cc in
    let rest : map f xs ≡ xs = cc in
    rw (eq-eqb (f x) x first) (all_same f xs rest)

-- a text of which no byte changes
pub unchanged : (f : ℕ → ℕ) (text seen : List ℕ) → seen ≡ text → true ≡ list_all (λ b. f b == b) seen
    → map f text ≡ text
unchanged f text seen is all = same_bytes f text (ap (list_all (λ b. f b == b)) (sym is) ∙ sym all)

-- a text of which some byte changes
pub changed : (f : ℕ → ℕ) (text seen : List ℕ) → seen ≡ text → false ≡ list_all (λ b. f b == b) seen
    → map f text ≡ text → ⊥
changed f text seen is some same =
    let all : list_all (λ b. f b == b) seen ≡ true = ap (list_all (λ b. f b == b)) is ∙ all_same f text same in
    cc
