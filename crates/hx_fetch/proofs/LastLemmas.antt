-- The values of header lines: of a line without a comma, and the last of those of many lines.
use Rattle.std.proofs.Common.{◌≡◌, ◌≢◌, ℕ, ◌==◌, List, [], ◌∷◌, ◌++◌, Some, None, false, map, refl, ap, sym, ◌∙◌, inl, inr}
use Rattle.std.specs.Prelude.{Option, slice_get, reverse, option_and_then}
use Rattle.std.specs.List.{flat_map, list_any}
use Rattle.std.proofs.lemmas.Bool.{cases_Bool}
use Rattle.hx_lists.specs.Blanks.{trim_blanks}
use Rattle.hx_lists.specs.HeaderValues.{Quoting, Outside, Quoted, Escaped, quoting_after, bytes_with_quoting, is_cut, hdr_pieces, hdr_values}
use Rattle.hx_lists.proofs.CommaLemmas.{IsCutAtCommas-hdr_pieces, IsCutAtCommas-only}
use Rattle.hx_text.specs.Cut.{cut_of}
use Rattle.hx_fetch.proofs.StepLemmas.{last_after, last_of_none}

-- ---- a line without a comma

option_map_none : {A B : Type 0} (f : A → B) (o : Option A) → Rattle.std.specs.Prelude.option_map f o ≡ None → o ≡ None
option_map_none f None h = refl
option_map_none f (Some x) h = cc

first_kept : (b : ℕ) (line : List ℕ) → cut_of 44 (b ∷ line) ≡ None → ((b == 44) ≡ false) × (cut_of 44 line ≡ None)
first_kept b line h =
    elim (cases_Bool (b == 44)) [
      | inl comma ↦ absurd (cc (rw comma at h))
      | inr other ↦ (other, option_map_none _ (cut_of 44 line) (rw other at h))
    ]

uncut : (q : Quoting) (line : List ℕ) → cut_of 44 line ≡ None → list_any is_cut (bytes_with_quoting q line) ≡ false
uncut q [] h = refl
uncut Outside (b ∷ line) h =
    let kept = first_kept b line h in
    rw kept.0 (uncut (quoting_after Outside b) line kept.1)
uncut Quoted (b ∷ line) h = uncut (quoting_after Quoted b) line (first_kept b line h).1
uncut Escaped (b ∷ line) h = uncut (quoting_after Escaped b) line (first_kept b line h).1

pub value_without_comma : (line : List ℕ) → cut_of 44 line ≡ None → hdr_values line ≡ trim_blanks line ∷ []
value_without_comma line h =
    let one : line ∷ [] ≡ hdr_pieces line =
    IsCutAtCommas-only (line ∷ []) line (record { some = λ e. cc e; joined = refl; uncut = (uncut Outside line h, tt); closed = tt }) in
    ap (map trim_blanks) (sym one)

-- ---- the last value of all lines

last-append : (before : Option (List ℕ)) (xs ys : List (List ℕ)) → last_after before (xs ++ ys) ≡ last_after (last_after before xs) ys
last-append before [] ys = refl
last-append before (x ∷ xs) ys = last-append (Some x) xs ys

last-some : (before : Option (List ℕ)) (xs : List (List ℕ)) → xs ≢ [] → last_after before xs ≡ last_after None xs
last-some before [] some = absurd (some refl)
last-some before (x ∷ xs) some = refl

pub map_some : (xs : List (List ℕ)) → xs ≢ [] → map trim_blanks xs ≢ []
map_some [] some = λ e. some refl
map_some (x ∷ xs) some = λ e. cc e

-- the last value of a line
last_of : List ℕ → Option (List ℕ)
last_of line = last_after None (hdr_values line)

last_by_line : (before : Option (List ℕ)) (lines : List (List ℕ)) → last_after (option_and_then last_of before) (flat_map hdr_values lines) ≡ option_and_then last_of (last_after before lines)
unfolding last_of
last_by_line before [] = refl
last_by_line before (line ∷ lines) =
    last-append (option_and_then last_of before) (hdr_values line) (flat_map hdr_values lines)
    ∙ ap (λ last. last_after last (flat_map hdr_values lines))
    (last-some (option_and_then last_of before) (hdr_values line) (map_some (hdr_pieces line) (IsCutAtCommas-hdr_pieces line).some))
    ∙ last_by_line (Some line) lines

last_is_of_last : (lines : List (List ℕ)) (line : Option (List ℕ)) → line ≡ slice_get (reverse lines) 0 → option_and_then last_of line ≡ slice_get (reverse (flat_map hdr_values lines)) 0
last_is_of_last lines line is =
    ap (option_and_then last_of) (is ∙ sym (last_of_none lines))
    ∙ sym (last_by_line None lines) ∙ last_of_none (flat_map hdr_values lines)

-- the last value of all lines is that of the last line
pub last_in_lines : (lines : List (List ℕ)) (line : List ℕ) → Some line ≡ slice_get (reverse lines) 0 → slice_get (reverse (hdr_values line)) 0 ≡ slice_get (reverse (flat_map hdr_values lines)) 0
unfolding last_of
last_in_lines lines line is = sym (last_of_none (hdr_values line)) ∙ last_is_of_last lines (Some line) is

-- and there is none without a line
pub last_in_none : (lines : List (List ℕ)) → None ≡ slice_get (reverse lines) 0 → None ≡ slice_get (reverse (flat_map hdr_values lines)) 0
last_in_none lines is = last_is_of_last lines None is

pub ruleset last_of_lines = (last_in_lines, last_in_none)
