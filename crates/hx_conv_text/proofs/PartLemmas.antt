-- A part of a text is what an index and a count name of its pieces, where these lie in the row.
use Rattle.std.proofs.Common.{◌≡◌, ℕ, zero, suc, ◌+◌, ◌-◌, ◌<◌, ◌≤◌, ◌⊎◌, ◌==◌, ℤ, pos, negsuc, List, [], ◌∷◌, ◌++◌, length, drop, take, Option, Some, refl, sym, ap, ◌∙◌, subst, inl, inr, arith, length-append, length-drop}
use Rattle.std.proofs.lemmas.Bool.{cases_Bool, cases_lt, eqb-false, eqb-true}
use Rattle.std.proofs.lemmas.List.{length-take-le, take-append-drop}
use Rattle.std.proofs.lemmas.Option.{none-some, same_Some}
use Rattle.std.proofs.Math.ListN.{drop_of_length-le}
use Rattle.std.proofs.Math.Seq.{take_all}
use Rattle.hx_conv_text.specs.Cuts.{AreNamed, GapAndPiece, IsPartOf, IsRow, row_text}
use Rattle.hx_conv_text.specs.Pieces.{first_items, items_at, last_items, piece_count, text_across}
use Rattle.hx_conv_text.proofs.RowLemmas.{across_row, items_named, length-spans_at, spans_at, spans_at-append}

-- an index names a piece, of so many
abbrev IsWithin : ℤ → ℕ → Type 0
IsWithin (pos n) size = n - 1 < size
IsWithin (negsuc n) size = n < size

-- how many pieces stand before those that are named, and how many of these follow the first
record Numbers (index : ℤ) (count size : ℕ) : Type 0 where
  before : ℕ
  others : ℕ
  within : before + (others + 1) ≤ size
  named : AreNamed index count before (others + 1) (size - (before + (others + 1)))

numbers : (index : ℤ) (count size : ℕ) → IsWithin index size → Numbers index count size
numbers (pos n) count size h =
    let i = n - 1 in
    elim (cases_Bool (count == 0)) [
      | inl all ↦
          let j = size - i - 1 in
          record { before = i; others = j; within = omega arith; named = (refl, inr (omega arith, inl (eqb-true count 0 all))) }
      | inr some ↦
          let is = eqb-false count 0 some in
          let more : 0 < count = omega (arith, is) in
          elim (cases_lt count (size - i)) [
            | inl lt ↦
                record { before = i; others = count - 1; within = omega arith; named = (refl, inl (omega arith)) }
            | inr ge ↦
                record { before = i; others = size - i - 1; within = omega arith; named = (refl, inr (omega arith, inr (omega arith))) }
          ]
    ]
numbers (negsuc n) count size h =
    let m = size - n in
    elim (cases_Bool (count == 0)) [
      | inl all ↦
          record { before = 0; others = m - 1; within = omega arith; named = (omega arith, inr (refl, inl (eqb-true count 0 all))) }
      | inr some ↦
          let is = eqb-false count 0 some in
          let more : 0 < count = omega (arith, is) in
          elim (cases_lt count m) [
            | inl lt ↦
                record { before = m - count; others = count - 1; within = omega arith; named = (omega arith, inl (omega arith)) }
            | inr ge ↦
                record { before = 0; others = m - 1; within = omega arith; named = (omega arith, inr (refl, inr (omega arith))) }
          ]
    ]

-- a row, parted before a piece and after some that follow it
record IsParted (row : List GapAndPiece) (i j : ℕ) : Type 0 where
  before : List GapAndPiece
  next : GapAndPiece
  others : List GapAndPiece
  after : List GapAndPiece
  whole : before ++ next ∷ (others ++ after) ≡ row
  count_before : length before ≡ i
  count_others : length others ≡ j
  count_after : length after ≡ length row - (i + (j + 1))

parted : (row : List GapAndPiece) (i j : ℕ) → i + (j + 1) ≤ length row → IsParted row i j
parted [] i j h = absurd (omega arith)
parted (next ∷ row) zero j h = record {
  before = [];
  next = next;
  others = take j row;
  after = drop j row;
  whole = ap (λ l. next ∷ l) (take-append-drop j row);
  count_before = refl;
  count_others = length-take-le j row (omega arith);
  count_after = omega (arith, length-drop j row);
}
parted (x ∷ row) (suc i) j h =
    let p = parted row i j (omega arith) in
    record {
      before = x ∷ p.before;
      next = p.next;
      others = p.others;
      after = p.after;
      whole = ap (λ l. x ∷ l) p.whole;
      count_before = ap suc p.count_before;
      count_others = p.count_others;
      count_after = omega (arith, p.count_after);
    }

first_of_none : (count : ℕ) → first_items count [] ≡ []
first_of_none count =
    elim (cases_Bool (count == 0)) [ inl all ↦ rw all refl | inr some ↦ rw some (take_all count [] (omega arith)) ]

last_of_none : (count : ℕ) → last_items count [] ≡ []
last_of_none count =
    elim (cases_Bool (count == 0)) [ inl all ↦ rw all refl | inr some ↦ rw some (drop_of_length-le [] (omega arith)) ]

-- an index that names no piece
none_named : (index : ℤ) (count : Option ℤ) (spans : List (ℕ × ℕ)) → (IsWithin index (length spans) → ⊥)
    → items_at index count spans ≡ []
none_named (pos n) count spans h =
    let short : length spans ≤ n - 1 = omega (arith, h) in
    ap (first_items (piece_count count)) (drop_of_length-le spans short) ∙ first_of_none (piece_count count)
none_named (negsuc n) count spans h =
    let short : length spans - n ≡ 0 = omega (arith, h) in
    ap (λ k. last_items (piece_count count) (take k spans)) short ∙ last_of_none (piece_count count)

is_within : (index : ℤ) (size : ℕ) → IsWithin index size ⊎ (IsWithin index size → ⊥)
is_within (pos n) size =
    elim (cases_lt (n - 1) size) [ inl lt ↦ inl lt | inr ge ↦ inr (λ lt. omega (arith, lt, ge)) ]
is_within (negsuc n) size =
    elim (cases_lt n size) [ inl lt ↦ inl lt | inr ge ↦ inr (λ lt. omega (arith, lt, ge)) ]

within_if_some : (index : ℤ) (count : Option ℤ) (text value : List ℕ) (spans : List (ℕ × ℕ))
    → text_across text (items_at index count spans) ≡ Some value → IsWithin index (length spans)
within_if_some index count text value spans some =
    elim (is_within index (length spans)) [
      | inl within ↦ within
      | inr outside ↦ absurd (none-some value (sym (ap (text_across text) (none_named index count spans outside)) ∙ some))
    ]

module _ (IsEdge IsGap IsPiece : List ℕ → Type 0) (text : List ℕ) (spans : List (ℕ × ℕ)) where
  -- the pieces of the text lie where they lie in any row that it is
  abbrev pub LieInRow : Type 0
  LieInRow = (row : List GapAndPiece) (end : List ℕ) → 0 < length row → IsRow IsEdge IsGap IsPiece row
      → IsEdge end → row_text row ++ end ≡ text → spans ≡ spans_at 0 row

  pub part_is : LieInRow → (index : ℤ) (count : Option ℤ) (value : List ℕ)
      → IsPartOf IsEdge IsGap IsPiece index count text value
      → text_across text (items_at index count spans) ≡ Some value
  part_is lie index count value h =
      let taken = (h.gap, h.first) ∷ h.others in
      let row = h.before ++ (taken ++ h.after) in
      let k = length (row_text h.before) in
      let later = k + length (row_text taken) in
      let some : 0 < length row = omega (arith, length-append h.before (taken ++ h.after)) in
      let parts : spans ≡ spans_at 0 h.before ++ (spans_at k taken ++ spans_at later h.after) =
      lie row h.end some h.row h.edge h.whole
      ∙ spans_at-append 0 h.before (taken ++ h.after)
      ∙ ap (λ n. spans_at 0 h.before ++ spans_at n (taken ++ h.after)) (let e : 0 + k ≡ k = omega arith in e)
      ∙ ap (λ l. spans_at 0 h.before ++ l) (spans_at-append k taken h.after) in
      let named : AreNamed index (piece_count count) (length (spans_at 0 h.before)) (length (spans_at k taken)) (length (spans_at later h.after)) =
      rw (length-spans_at 0 h.before, length-spans_at k taken, length-spans_at later h.after)
      (rw (let e : suc (length h.others) ≡ length h.others + 1 = omega arith in e) h.named) in
      let items : items_at index count spans ≡ spans_at k taken =
      ap (items_at index count) parts
      ∙ items_named (spans_at 0 h.before) (spans_at k taken) (spans_at later h.after) index count (omega (arith, length-spans_at k taken)) named in
      ap (text_across text) items
      ∙ ap (λ t. text_across t (spans_at k taken)) (sym h.whole)
      ∙ across_row h.before h.gap h.first h.others h.after h.end
      ∙ ap Some h.part

  pub is_part : LieInRow → (row : List GapAndPiece) (end : List ℕ) → IsRow IsEdge IsGap IsPiece row
      → IsEdge end → row_text row ++ end ≡ text → spans ≡ spans_at 0 row
      → (index : ℤ) (count : Option ℤ) (value : List ℕ)
      → text_across text (items_at index count spans) ≡ Some value
      → IsPartOf IsEdge IsGap IsPiece index count text value
  is_part lie row end is edge whole at index count value some =
      let size : length spans ≡ length row = ap length at ∙ length-spans_at 0 row in
      let n = numbers index (piece_count count) (length row)
      (subst (IsWithin index) size (within_if_some index count text value spans some)) in
      let p = parted row n.before n.others n.within in
      let part : IsPartOf IsEdge IsGap IsPiece index count text (p.next.1 ++ row_text p.others) = record {
        before = p.before;
        gap = p.next.0;
        first = p.next.1;
        others = p.others;
        after = p.after;
        end = end;
        row = subst (IsRow IsEdge IsGap IsPiece) (sym p.whole) is;
        edge = edge;
        whole = ap (λ l. row_text l ++ end) p.whole ∙ whole;
        part = refl;
        named = rw (p.count_before, p.count_others, p.count_after) n.named;
      } in
      subst (IsPartOf IsEdge IsGap IsPiece index count text)
      (same_Some _ _ (sym (part_is lie index count (p.next.1 ++ row_text p.others) part) ∙ some)) part
