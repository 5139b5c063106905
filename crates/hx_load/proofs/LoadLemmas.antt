-- Lemmas on the lines of a text, cut one after the other.
use Rattle.std.proofs.Common.{◌≡◌, ℕ, ◌+◌, ◌≤◌, ◌==◌, Bool, true, false, cond, List, [], ◌∷◌, length, map, Option, None, Some, option_map, refl, sym, ap, ◌∙◌, arith}
use Rattle.std.specs.Io.BufRead.{strip_last}
use Rattle.std.specs.List.{slice_split, onto_first}
use Rattle.std.proofs.lemmas.Option.{same_Some, none-some}
use Rattle.hx_text.specs.Cut.{cut_of}
use Rattle.hx_load.specs.Configuration.{lines_of}

-- a cut text is what stands before the cut, and the pieces of what follows
split_step : (byte b : ℕ) (text line after : List ℕ) (test : Bool) (found : Option (List ℕ × List ℕ))
    → ((l a : List ℕ) → found ≡ Some (l, a) → slice_split (λ b. b == byte) text ≡ l ∷ slice_split (λ b. b == byte) a)
    → cond {A = Option (List ℕ × List ℕ)} test (Some ([], text)) (option_map (λ p. (b ∷ p.0, p.1)) found) ≡ Some (line, after)
    → cond test ([] ∷ slice_split (λ b. b == byte) text) (onto_first b (slice_split (λ b. b == byte) text)) ≡ line ∷ slice_split (λ b. b == byte) after
split_step byte b text line after true found cut is =
    ap (λ (p : List ℕ × List ℕ). p.0 ∷ slice_split (λ b. b == byte) p.1) (same_Some ([], text) (line, after) is)
split_step byte b text line after false None cut is = absurd (none-some (line, after) is)
split_step byte b text line after false (Some p) cut is =
    ap (onto_first b) (cut p.0 p.1 refl) ∙ ap (λ (p : List ℕ × List ℕ). p.0 ∷ slice_split (λ b. b == byte) p.1) (same_Some (b ∷ p.0, p.1) (line, after) is)

split_cut : (byte : ℕ) (text line after : List ℕ) → cut_of byte text ≡ Some (line, after)
    → slice_split (λ b. b == byte) text ≡ line ∷ slice_split (λ b. b == byte) after
split_cut byte [] line after is = absurd (none-some (line, after) is)
split_cut byte (b ∷ text) line after is = split_step byte b text line after (b == byte) (cut_of byte text) (split_cut byte text) is

length_step : (b : ℕ) (text line after : List ℕ) (test : Bool) (found : Option (List ℕ × List ℕ))
    → ((l a : List ℕ) → found ≡ Some (l, a) → length a + 1 ≤ length text)
    → cond {A = Option (List ℕ × List ℕ)} test (Some ([], text)) (option_map (λ p. (b ∷ p.0, p.1)) found) ≡ Some (line, after) → length after + 1 ≤ length text + 1
length_step b text line after true found cut is =
    let same : text ≡ after = ap (λ (p : List ℕ × List ℕ). p.1) (same_Some ([], text) (line, after) is) in omega (arith, ap length same)
length_step b text line after false None cut is = absurd (none-some (line, after) is)
length_step b text line after false (Some p) cut is =
    let same : p.1 ≡ after = ap (λ (p : List ℕ × List ℕ). p.1) (same_Some (b ∷ p.0, p.1) (line, after) is) in
    omega (arith, ap length same, cut p.0 p.1 refl)

-- what follows a cut is shorter than the whole
pub size_of_cut : (byte : ℕ) (text line after : List ℕ) → cut_of byte text ≡ Some (line, after) → length after + 1 ≤ length text
size_of_cut byte [] line after is = absurd (none-some (line, after) is)
size_of_cut byte (b ∷ text) line after is =
    let shorter : length after + 1 ≤ length text + 1 = length_step b text line after (b == byte) (cut_of byte text) (size_of_cut byte text) is in
    omega (arith, shorter)

-- a text that is not cut is its one piece
uncut_step : (byte b : ℕ) (text : List ℕ) (test : Bool) (found : Option (List ℕ × List ℕ))
    → (found ≡ None → slice_split (λ b. b == byte) text ≡ text ∷ [])
    → cond {A = Option (List ℕ × List ℕ)} test (Some ([], text)) (option_map (λ p. (b ∷ p.0, p.1)) found) ≡ None
    → cond test ([] ∷ slice_split (λ b. b == byte) text) (onto_first b (slice_split (λ b. b == byte) text)) ≡ (b ∷ text) ∷ []
uncut_step byte b text true found uncut is = absurd (none-some ([], text) (sym is))
uncut_step byte b text false None uncut is = ap (onto_first b) (uncut refl)
uncut_step byte b text false (Some p) uncut is = absurd (none-some (b ∷ p.0, p.1) (sym is))

split_uncut : (byte : ℕ) (text : List ℕ) → cut_of byte text ≡ None → slice_split (λ b. b == byte) text ≡ text ∷ []
split_uncut byte [] is = refl
split_uncut byte (b ∷ text) is = uncut_step byte b text (b == byte) (cut_of byte text) (split_uncut byte text) is

-- the lines of a text by its first line feed
pub lines_of_cut : (text line after : List ℕ) → cut_of 10 text ≡ Some (line, after) → lines_of text ≡ strip_last 13 line ∷ lines_of after
lines_of_cut text line after is = ap (map (strip_last 13)) (split_cut 10 text line after is)

pub lines_of_uncut : (text : List ℕ) → cut_of 10 text ≡ None → lines_of text ≡ strip_last 13 text ∷ []
lines_of_uncut text is = ap (map (strip_last 13)) (split_uncut 10 text is)

pub ruleset first_lines = (lines_of_cut, lines_of_uncut, size_of_cut)
