-- How pieces are found from the left: the first field and the first word after a position.
use Rattle.std.proofs.Common.{not, ◌≡◌, ℕ, suc, ◌+◌, ◌-◌, ◌<◌, ◌≤◌, Bool, true, false, List, [], ◌∷◌, length, drop, take, refl, sym, ap, ◌∙◌, arith, inl, inr, nat_lt, nat_le, length-drop, if◌then◌else◌}
use Rattle.std.specs.List.{filter, slice_split, position_or_len, prefix_len, onto_first}
use Rattle.std.proofs.lemmas.Bool.{cases_Bool, cases_lt, le-ltb, lt-ltb, le-leb, lt-leb, ne_eqb}
use Rattle.std.proofs.lemmas.List.{drop-take, length-take-le}
use Rattle.std.proofs.lemmas.List.Splits.{length-slice_split, slice_split_first, slice_split-cons_no, slice_split-cons_yes}
use Rattle.std.proofs.lemmas.List.Sums.{count_by-le-length, length-filter, prefix_len-le-length}
use Rattle.std.proofs.Math.ListN.{drop_of_length-le}
use Rattle.std.proofs.Math.Seq.{drop-drop, take_all}
use Rattle.hx_conv_text.specs.Pieces.{first_items, is_in, last_items, spans_from}
use Rattle.hx_conv_text.specs.Scanning.{fields_after, is_filled, pieces_after}

module _ (p : ℕ → Bool) where
  split-none : (xs : List ℕ) → length xs ≤ position_or_len p xs → slice_split p xs ≡ xs ∷ []
  split-none [] h = refl
  split-none (x ∷ xs) h =
      elim (cases_Bool (p x)) [
        | inl yes' ↦ absurd (omega (arith, rw yes' at h))
        | inr no' ↦ slice_split-cons_no p x xs no' ∙ ap (onto_first x) (split-none xs (omega (arith, rw no' at h)))
      ]

  empties : (xs : List ℕ) (at : ℕ) → filter is_filled (spans_from at (slice_split p xs))
      ≡ filter is_filled (spans_from (at + prefix_len p xs) (slice_split p (drop (prefix_len p xs) xs)))
  empties [] at = ap (λ k. filter is_filled (spans_from k (slice_split p []))) (let e : at ≡ at + 0 = omega arith in e)
  empties (x ∷ xs) at =
      elim (cases_Bool (p x)) [
        | inl yes' ↦
            let n = prefix_len p xs in
            let one : 1 + n ≡ suc n = omega arith in
            let same : at + 0 + 1 ≡ at + 1 = omega arith in
            let next : at + 1 + n ≡ at + suc n = omega arith in
            let none : nat_lt at (at + 0) ≡ false = le-ltb at (at + 0) (omega arith) in
            rw (slice_split-cons_yes p x xs yes', yes', none, same, one, ← next) (empties xs (at + 1))
        | inr no' ↦ let same : at ≡ at + 0 = omega arith in
            rw (no', no') (ap (λ k. filter is_filled (spans_from k (onto_first x (slice_split p xs)))) same)
      ]

  pub stops : (xs : List ℕ) → position_or_len p (drop (prefix_len p xs) xs) ≡ 0 → drop (prefix_len p xs) xs ≡ []
  stops [] h = refl
  stops (x ∷ xs) h =
      elim (cases_Bool (p x)) [
        | inl yes' ↦
            let n = prefix_len p xs in
            let one : 1 + n ≡ suc n = omega arith in
            rw (yes', one) (stops xs (rw (yes', one) at h))
        | inr no' ↦ absurd (omega (arith, rw (no', no') at h))
      ]

  after_field : (xs : List ℕ) → slice_split p xs ≡ take (position_or_len p xs) xs
      ∷ (if nat_le (position_or_len p xs + 1) (length xs) then slice_split p (drop (position_or_len p xs + 1) xs) else [])
  after_field xs =
      elim (cases_lt (position_or_len p xs) (length xs)) [
        | inl lt ↦ let more : nat_le (position_or_len p xs + 1) (length xs) ≡ true = le-leb (position_or_len p xs + 1) (length xs) (omega arith) in
            rw more (slice_split_first p xs 0 lt)
        | inr ge ↦ let none : nat_le (position_or_len p xs + 1) (length xs) ≡ false = lt-leb (position_or_len p xs + 1) (length xs) (omega arith) in
            rw (none, take_all (position_or_len p xs) xs ge) (split-none xs ge)
      ]

pub first_field : (delims text : List ℕ) (at n : ℕ) → at ≤ length text → n ≡ position_or_len (is_in delims) (drop at text)
    → fields_after delims text at ≡ (at, at + n) ∷ fields_after delims text (at + n + 1)
first_field delims text at n h e =
    let p : ℕ → Bool = is_in delims in
    let rest = drop at text in
    let size : length rest ≡ length text - at = length-drop at text in
    let bound : n ≤ length rest = omega (arith, e, prefix_len-le-length (λ b. not (p b)) rest) in
    let here : nat_le at (length text) ≡ true = le-leb at (length text) h in
    let split : slice_split p rest ≡ take n rest ∷ (if nat_le (n + 1) (length rest) then slice_split p (drop (n + 1) rest) else []) =
    rw e (after_field p rest) in
    let taken : length (take n rest) ≡ n = length-take-le n rest bound in
    let later : drop (n + 1) rest ≡ drop (at + n + 1) text = drop-drop (n + 1) at text ∙ ap (λ k. drop k text) (let e : at + (n + 1) ≡ at + n + 1 = omega arith in e) in
    elim (cases_lt n (length rest)) [
      | inl lt ↦
          let more : nat_le (n + 1) (length rest) ≡ true = le-leb (n + 1) (length rest) (omega arith) in
          let next : nat_le (at + n + 1) (length text) ≡ true = le-leb (at + n + 1) (length text) (omega arith) in
          rw (here, split, more, next, taken, later) refl
      | inr ge ↦
          let none : nat_le (n + 1) (length rest) ≡ false = lt-leb (n + 1) (length rest) (omega arith) in
          let past : nat_le (at + n + 1) (length text) ≡ false = lt-leb (at + n + 1) (length text) (omega arith) in
          rw (here, split, none, past, taken) refl
    ]

-- the words at a position or after it begin where the delimiters there end
words_after : (delims text : List ℕ) (at k : ℕ) → at ≤ length text → k ≡ prefix_len (is_in delims) (drop at text)
    → filter is_filled (fields_after delims text at) ≡ filter is_filled (fields_after delims text (at + k))
words_after delims text at k h e =
    let p : ℕ → Bool = is_in delims in
    let bound : k ≤ length text - at = omega (arith, e, prefix_len-le-length p (drop at text), length-drop at text) in
    let here : nat_le at (length text) ≡ true = le-leb at (length text) h in
    let there : nat_le (at + k) (length text) ≡ true = le-leb (at + k) (length text) (omega arith) in
    let later : drop k (drop at text) ≡ drop (at + k) text = drop-drop k at text in
    rw (here, there, ← later, e) (empties p (drop at text) at)

pub first_word : (delims text : List ℕ) (at k n : ℕ) → at ≤ length text → k ≡ prefix_len (is_in delims) (drop at text)
    → n ≡ position_or_len (is_in delims) (drop (at + k) text) → 0 < n
    → filter is_filled (fields_after delims text at)
    ≡ (at + k, at + k + n) ∷ filter is_filled (fields_after delims text (at + k + n + 1))
first_word delims text at k n h e f some =
    let bound : k ≤ length text - at = omega (arith, e, prefix_len-le-length (is_in delims) (drop at text), length-drop at text) in
    let filled : nat_lt (at + k) (at + k + n) ≡ true = lt-ltb (at + k) (at + k + n) (omega arith) in
    let within : at + k ≤ length text = omega arith in
    words_after delims text at k h e
    ∙ ap (filter is_filled) (first_field delims text (at + k) n within f)
    ∙ rw filled refl

pub no_word : (delims text : List ℕ) (at k : ℕ) → at ≤ length text → k ≡ prefix_len (is_in delims) (drop at text)
    → 0 ≡ position_or_len (is_in delims) (drop (at + k) text) → filter is_filled (fields_after delims text at) ≡ []
no_word delims text at k h e f =
    let p : ℕ → Bool = is_in delims in
    let bound : k ≤ length text - at = omega (arith, e, prefix_len-le-length p (drop at text), length-drop at text) in
    let within : at + k ≤ length text = omega arith in
    let later : drop k (drop at text) ≡ drop (at + k) text = drop-drop k at text in
    let ends : drop (at + k) text ≡ [] = sym later ∙ ap (λ j. drop j (drop at text)) e ∙ stops p (drop at text) (ap (λ j. position_or_len p (drop j (drop at text))) (sym e) ∙ ap (position_or_len p) later ∙ sym f) in
    let size : length text - (at + k) ≡ 0 = sym (length-drop (at + k) text) ∙ ap length ends in
    let empty : nat_lt (at + k) (at + k + 0) ≡ false = le-ltb (at + k) (at + k + 0) (omega arith) in
    let past : nat_le (at + k + 0 + 1) (length text) ≡ false = lt-leb (at + k + 0 + 1) (length text) (omega arith) in
    words_after delims text at k h e
    ∙ ap (filter is_filled) (first_field delims text (at + k) 0 within f)
    ∙ rw (empty, past) refl

length-spans_from : (at : ℕ) (pieces : List (List ℕ)) → length (spans_from at pieces) ≡ length pieces
length-spans_from at [] = refl
length-spans_from at (piece ∷ pieces) = ap suc (length-spans_from (at + length piece + 1) pieces)

length-fields_after : (delims text : List ℕ) → length (fields_after delims text 0) ≤ length text + 1
length-fields_after delims text =
    let p : ℕ → Bool = is_in delims in
    let here : nat_le 0 (length text) ≡ true = le-leb 0 (length text) (omega arith) in
    rw here (omega (
      arith,
      length-spans_from 0 (slice_split p text),
      length-slice_split p text,
      count_by-le-length p text,
    ))

pub length-pieces_after : (words : Bool) (delims text : List ℕ)
    → length (pieces_after words delims text 0) ≤ length text + 1
length-pieces_after false delims text = length-fields_after delims text
length-pieces_after true delims text =
    omega (
      arith,
      length-fields_after delims text,
      length-filter is_filled (fields_after delims text 0),
      count_by-le-length is_filled (fields_after delims text 0),
    )

-- lists of which some items are skipped
pub drop_next : (spans rest : List (ℕ × ℕ)) (span : (ℕ × ℕ)) (i : ℕ) → drop i spans ≡ span ∷ rest → drop (i + 1) spans ≡ rest
drop_next spans rest span i e = sym (drop-drop 1 i spans) ∙ ap (drop 1) e

pub drop_later : (spans : List (ℕ × ℕ)) (i n : ℕ) → i ≤ n → drop i spans ≡ [] → drop n spans ≡ []
drop_later spans i n h e =
    let sum : i + (n - i) ≡ n = omega arith in
    ap (λ k. drop k spans) (sym sum) ∙ sym (drop-drop (n - i) i spans) ∙ ap (drop (n - i)) e
    ∙ drop_of_length-le [] (omega arith)

pub take_next : (spans rest : List (ℕ × ℕ)) (span : (ℕ × ℕ)) (n : ℕ) → 0 < n → spans ≡ span ∷ rest
    → take n spans ≡ span ∷ take (n - 1) rest
take_next spans rest span n h e =
    let more : n ≡ suc (n - 1) = omega arith in
    ap (take n) e ∙ ap (λ k. take k (span ∷ rest)) more

-- the items up to one, taken from the first of them on
pub take_last : (spans : List (ℕ × ℕ)) (pieces skipped : ℕ) → skipped ≤ pieces
    → take (pieces - skipped) (drop skipped spans) ≡ drop skipped (take pieces spans)
take_last spans pieces skipped h =
    let sum : skipped + (pieces - skipped) ≡ pieces = omega arith in
    sym (drop-take skipped (pieces - skipped) spans) ∙ ap (λ k. drop skipped (take k spans)) sum

-- so many items, or all
pub first_some : (most : ℕ) (spans : List (ℕ × ℕ)) → ¬ (most ≡ 0) → take most spans ≡ first_items most spans
first_some most spans h = rw (ne_eqb most 0 h) refl

pub first_all : (most size : ℕ) (spans : List (ℕ × ℕ)) → most ≡ 0 → length spans ≤ size → take size spans ≡ first_items most spans
first_all most size spans e h = rw e (take_all size spans h)

pub last_all : (most skipped : ℕ) (spans : List (ℕ × ℕ)) → most ≡ 0 → skipped ≡ 0 → drop skipped spans ≡ last_items most spans
last_all most skipped spans e f = rw (e, f) refl

pub last_some : (most skipped : ℕ) (spans : List (ℕ × ℕ)) → ¬ (most ≡ 0) → skipped ≡ length spans - most
    → drop skipped spans ≡ last_items most spans
last_some most skipped spans h e = rw (ne_eqb most 0 h, e) refl

-- a walk over spans has come to one: it, and those that are left
pub record IsComeTo (spans : List (ℕ × ℕ)) (last : ℕ × ℕ) (left : List (ℕ × ℕ)) : Type 0 where
  pub passed : ℕ
  pub at : drop passed spans ≡ last ∷ left

pub next_come : (spans left rest : List (ℕ × ℕ)) (last span : ℕ × ℕ) → IsComeTo spans last left → left ≡ span ∷ rest
    → IsComeTo spans span rest
next_come spans left rest last span is e = record {
  passed = is.passed + 1;
  at = drop_next spans left last is.passed is.at ∙ e;
}

pub last_come : (spans left : List (ℕ × ℕ)) (last : ℕ × ℕ) → IsComeTo spans last left → left ≡ []
    → last ∷ [] ≡ last_items 1 spans
last_come spans left last is e =
    let rest : drop is.passed spans ≡ last ∷ [] = is.at ∙ ap (λ l. last ∷ l) e in
    let size : length spans - is.passed ≡ 1 = sym (length-drop is.passed spans) ∙ ap length rest in
    let passed : is.passed ≡ length spans - 1 = omega (arith, size) in
    sym rest ∙ ap (λ n. drop n spans) passed
