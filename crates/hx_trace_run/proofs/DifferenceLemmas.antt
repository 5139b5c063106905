-- Two texts up to where they differ.
use Rattle.std.proofs.Common.{◌≡◌, ℕ, ◌+◌, Bool, true, false, List, [], ◌∷◌, nat_eq, take, refl, ap, sym, ◌∙◌, add-one}
use Rattle.std.specs.Prelude.{◌≢◌, slice_get}
use Rattle.std.proofs.lemmas.Bool.{eq-eqb, eqb-true}
use Rattle.std.proofs.lemmas.Option.{none-some, same_Some}
use Rattle.hx_trace_run.specs.Comparing.{common_length}

next_take : (b n : ℕ) (xs : List ℕ) → take (n + 1) (b ∷ xs) ≡ b ∷ take n xs
next_take b n xs = rw add-one refl

next_get : (b n : ℕ) (xs : List ℕ) → slice_get (b ∷ xs) (n + 1) ≡ slice_get xs n
next_get b n xs = rw add-one refl

same_by : (b c : ℕ) (text other : List ℕ) (same : Bool) → nat_eq b c ≡ same
    → take (common_length text other) text ≡ take (common_length text other) other
    → take (common_length (b ∷ text) (c ∷ other)) (b ∷ text) ≡ take (common_length (b ∷ text) (c ∷ other)) (c ∷ other)
same_by b c text other true is so =
    rw is (next_take b (common_length text other) text
    ∙ ap (λ (x : ℕ). x ∷ take (common_length text other) text) (eqb-true b c is)
    ∙ ap (λ (xs : List ℕ). c ∷ xs) so
    ∙ sym (next_take c (common_length text other) other))
same_by b c text other false is so = rw is refl

-- they are the same up to the length that they have in common
pub same_before : (text other : List ℕ) → take (common_length text other) text ≡ take (common_length text other) other
same_before [] [] = refl
same_before [] (c ∷ other) = refl
same_before (b ∷ text) [] = refl
same_before (b ∷ text) (c ∷ other) = same_by b c text other (nat_eq b c) refl (same_before text other)

other_by : (b c : ℕ) (text other : List ℕ) (same : Bool) → nat_eq b c ≡ same → (b ∷ text) ≢ (c ∷ other)
    → (text ≢ other → slice_get text (common_length text other) ≢ slice_get other (common_length text other))
    → slice_get (b ∷ text) (common_length (b ∷ text) (c ∷ other)) ≢ slice_get (c ∷ other) (common_length (b ∷ text) (c ∷ other))
other_by b c text other true is differ so =
    let same : b ≡ c = eqb-true b c is in
    let later : text ≢ other = λ eq. differ (cc (same, eq)) in
    rw is (λ eq.
    so later (sym (next_get b (common_length text other) text) ∙ eq ∙ next_get c (common_length text other) other))
other_by b c text other false is differ so =
    rw is (λ eq. let same = eq-eqb b c (same_Some b c eq) in cc (is, same))

-- and where they aren't the same, they have different bytes there, or one of them has none
pub other_there : (text other : List ℕ) → text ≢ other
    → slice_get text (common_length text other) ≢ slice_get other (common_length text other)
other_there [] [] differ = absurd (differ refl)
other_there [] (c ∷ other) differ = λ eq. none-some c eq
other_there (b ∷ text) [] differ = λ eq. none-some b (sym eq)
other_there (b ∷ text) (c ∷ other) differ = other_by b c text other (nat_eq b c) refl differ (other_there text other)
