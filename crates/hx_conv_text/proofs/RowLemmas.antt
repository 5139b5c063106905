-- Parts of gaps and pieces in a row: which spans an index and a count name, and the text across them.
use Rattle.std.proofs.Common.{◌≡◌, ℕ, suc, ◌+◌, ◌-◌, ◌<◌, ℤ, pos, negsuc, List, [], ◌∷◌, ◌++◌, length, drop, take, fold, Option, Some, refl, sym, ap, ◌∙◌, inl, inr, arith, append-nil, append_assoc, length-append, slice_range}
use Rattle.std.proofs.lemmas.Bool.{ne_eqb}
use Rattle.std.proofs.lemmas.Grind.{flat_map-append}
use Rattle.std.proofs.Math.Seq.{drop-append_seam, take-append_seam, take_all}
use Rattle.hx_conv_text.specs.Cuts.{AreTakenByCount, AreNamed, GapAndPiece, row_text}
use Rattle.hx_conv_text.specs.Pieces.{first_items, items_at, last_items, piece_count, text_across}

-- where the pieces lie, where the first gap begins at a position
abbrev pub spans_at : ℕ → List GapAndPiece → List (ℕ × ℕ)
spans_at at [] = []
spans_at at (next ∷ pieces) =
    (at + length next.0, at + length next.0 + length next.1)
    ∷ spans_at (at + length next.0 + length next.1) pieces

pub length-spans_at : (at : ℕ) (pieces : List GapAndPiece) → length (spans_at at pieces) ≡ length pieces
length-spans_at at [] = refl
length-spans_at at (next ∷ pieces) =
    ap suc (length-spans_at (at + length next.0 + length next.1) pieces)

length-next : (at : ℕ) (gap piece rest : List ℕ)
    → at + length gap + length piece + length rest ≡ at + length (gap ++ piece ++ rest)
length-next at gap piece rest =
    omega (arith, length-append (gap ++ piece) rest, length-append gap piece)

pub spans_at-append : (at : ℕ) (xs ys : List GapAndPiece)
    → spans_at at (xs ++ ys) ≡ spans_at at xs ++ spans_at (at + length (row_text xs)) ys
spans_at-append at [] ys = ap (λ k. spans_at k ys) (let e : at ≡ at + 0 = omega arith in e)
spans_at-append at (next ∷ xs) ys =
    let later = at + length next.0 + length next.1 in
    ap (λ l. (at + length next.0, later) ∷ l)
    (spans_at-append later xs ys
    ∙ ap (λ k. spans_at later xs ++ spans_at k ys) (length-next at next.0 next.1 (row_text xs)))

-- where the last piece ends
last_end : (at : ℕ) (pieces : List GapAndPiece)
    → fold (λ end next. next.1) at (spans_at at pieces) ≡ at + length (row_text pieces)
last_end at [] = omega arith
last_end at (next ∷ pieces) =
    last_end (at + length next.0 + length next.1) pieces
    ∙ length-next at next.0 next.1 (row_text pieces)

-- bytes that stand between others
middle : (before value after : List ℕ) (start : ℕ) → start ≡ length before
    → slice_range (before ++ (value ++ after)) start (start + length value) ≡ value
middle before value after start e =
    let size : start + length value - start ≡ length value = omega arith in
    rw size (ap (λ k. take (length value) (drop k (before ++ (value ++ after)))) e
    ∙ ap (take (length value)) (drop-append_seam before (value ++ after))
    ∙ take-append_seam value after)

-- the text across pieces that stand in a row
pub across_row : (before : List GapAndPiece) (gap first : List ℕ) (others after : List GapAndPiece) (end : List ℕ)
    → text_across (row_text (before ++ (gap, first) ∷ (others ++ after)) ++ end)
    (spans_at (length (row_text before)) ((gap, first) ∷ others))
    ≡ Some (first ++ row_text others)
across_row before gap first others after end =
    let start = length (row_text before) + length gap in
    let value = first ++ row_text others in
    let rest = row_text after ++ end in
    let ends : fold (λ end next. next.1) (start + length first) (spans_at (start + length first) others) ≡ start + length value =
    last_end (start + length first) others ∙ omega (arith, length-append first (row_text others)) in
    let text : row_text (before ++ (gap, first) ∷ (others ++ after)) ++ end ≡ (row_text before ++ gap) ++ (value ++ rest) =
    rw (
      flat_map-append (λ (next : GapAndPiece). next.0 ++ next.1) before ((gap, first) ∷ (others ++ after)),
      flat_map-append (λ (next : GapAndPiece). next.0 ++ next.1) others after,
    )
    (simp append_assoc refl) in
    rw (ends, text) (ap Some (middle (row_text before ++ gap) value rest start (sym (length-append (row_text before) gap))))

-- ---- which items an index and a count name

without_end : (xs ys : List (ℕ × ℕ)) → length ys ≡ 0 → xs ++ ys ≡ xs
without_end xs [] none = append-nil xs
without_end xs (y ∷ ys) none = absurd (omega (arith, none))

without_start : (xs ys : List (ℕ × ℕ)) → length xs ≡ 0 → xs ++ ys ≡ ys
without_start [] ys none = refl
without_start (x ∷ xs) ys none = absurd (omega (arith, none))

module _ (before taken after : List (ℕ × ℕ)) where
  some_first : (count : ℕ) → 0 < length taken → AreTakenByCount count (length taken) (length after)
      → first_items count (taken ++ after) ≡ taken
  some_first count some (inl same) =
      rw (ne_eqb count 0 (λ e. omega (arith, e, same)))
      (ap (λ k. take k (taken ++ after)) (sym same) ∙ take-append_seam taken after)
  some_first count some (inr (none, inl zero')) = rw zero' (without_end taken after none)
  some_first count some (inr (none, inr few)) =
      rw (ne_eqb count 0 (λ e. omega (arith, e, few)))
      (ap (take count) (without_end taken after none) ∙ take_all count taken few)

  some_last : (count : ℕ) → 0 < length taken → AreTakenByCount count (length taken) (length before)
      → last_items count (before ++ taken) ≡ taken
  some_last count some (inl same) =
      let start : length (before ++ taken) - count ≡ length before = omega (arith, same, length-append before taken) in
      rw (ne_eqb count 0 (λ e. omega (arith, e, same)))
      (ap (λ k. drop k (before ++ taken)) start ∙ drop-append_seam before taken)
  some_last count some (inr (none, inl zero')) = rw zero' (without_start before taken none)
  some_last count some (inr (none, inr few)) =
      let start : length (before ++ taken) - count ≡ 0 = omega (arith, none, few, length-append before taken) in
      rw (ne_eqb count 0 (λ e. omega (arith, e, few)))
      (ap (λ k. drop k (before ++ taken)) start ∙ without_start before taken none)

  pub items_named : (index : ℤ) (count : Option ℤ) → 0 < length taken
      → AreNamed index (piece_count count) (length before) (length taken) (length after)
      → items_at index count (before ++ (taken ++ after)) ≡ taken
  items_named (pos n) count some named =
      ap (λ k. first_items (piece_count count) (drop k (before ++ (taken ++ after)))) (sym named.0)
      ∙ ap (first_items (piece_count count)) (drop-append_seam before (taken ++ after))
      ∙ some_first (piece_count count) some named.1
  items_named (negsuc n) count some named =
      let all = before ++ (taken ++ after) in
      let upto : length all - n ≡ length (before ++ taken) =
      omega (arith, named.0, length-append before (taken ++ after), length-append taken after, length-append before taken) in
      ap (λ k. last_items (piece_count count) (take k all)) upto
      ∙ ap (λ l. last_items (piece_count count) (take (length (before ++ taken)) l)) (sym (append_assoc before taken after))
      ∙ ap (last_items (piece_count count)) (take-append_seam (before ++ taken) after)
      ∙ some_last (piece_count count) some named.1
