-- Lemmas on the lines of a file, cut one after the other.
use Rattle.std.proofs.Common.{◌≡◌, ℕ, ◌+◌, ◌≤◌, ◌==◌, Bool, true, false, cond, List, [], ◌∷◌, length, Option, None, Some, option_map, refl, ap, arith}
use Rattle.std.proofs.lemmas.Option.{same_Some, none-some}
use Rattle.hx_text.specs.Cut.{cut_of}

length_step : (b : ℕ) (text line after : List ℕ) (test : Bool) (found : Option (List ℕ × List ℕ))
    → ((l a : List ℕ) → found ≡ Some (l, a) → length a + 1 ≤ length text)
    → cond {A = Option (List ℕ × List ℕ)} test (Some ([], text)) (option_map (λ p. (b ∷ p.0, p.1)) found) ≡ Some (line, after) → length after + 1 ≤ length text + 1
length_step b text line after true found cut is =
    let same : text ≡ after = ap (λ (p : List ℕ × List ℕ). p.1) (same_Some ([], text) (line, after) is) in omega (arith, ap length same)
length_step b text line after false None cut is = absurd (none-some (line, after) is)
length_step b text line after false (Some p) cut is =
    let same : p.1 ≡ after = ap (λ (p : List ℕ × List ℕ). p.1) (same_Some (b ∷ p.0, p.1) (line, after) is) in
    omega (arith, ap length same, cut p.0 p.1 refl)

-- what follows a cut is shorter than the whole
pub size_of_cut : (byte : ℕ) (text line after : List ℕ) → cut_of byte text ≡ Some (line, after) → length after + 1 ≤ length text
size_of_cut byte [] line after is = absurd (none-some (line, after) is)
size_of_cut byte (b ∷ text) line after is =
    let shorter : length after + 1 ≤ length text + 1 = length_step b text line after (b == byte) (cut_of byte text) (size_of_cut byte text) is in
    omega (arith, shorter)

pub ruleset first_texts = (size_of_cut)
