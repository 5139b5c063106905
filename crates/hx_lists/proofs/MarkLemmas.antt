-- The bytes of a header line up to its next mark belong to one piece.
use Rattle.std.proofs.Common.{◌≡◌, ℕ, zero, suc, ◌+◌, ◌-◌, ◌<◌, ◌≤◌, false, ◌==◌, List, Some, None, length, get_or, take, drop, sym, ap, ◌∙◌, arith, inl, inr, eq-eqb}
use Rattle.std.specs.List.{list_any}
use Rattle.std.proofs.lemmas.Bool.{cases_Bool, true≢false}
use Rattle.std.proofs.lemmas.List.{get_or-take, get_or-drop, length-take, length-drop}
use Rattle.std.proofs.lemmas.List.Folds.{list_any_at}
use Rattle.memchr.specs.Find.{IsFirstByte, Nowhere, Passes}
use Rattle.hx_lists.specs.HeaderValues.{Outside}
use Rattle.hx_lists.specs.HeaderScan.{is_mark, pieces_at}
use Rattle.hx_lists.proofs.PieceLemmas.{pieces_at-outside}
use Rattle.hx_lists.proofs.SplitLemmas.{neither}

module _ (line : List ℕ) where
  -- no mark stands from a place up to another
  abbrev IsPlain : ℕ → ℕ → Type 0
  IsPlain from to = (k : ℕ) → from ≤ k → k < to → is_mark (get_or line k 0) ≡ false

  by_length : (n i : ℕ) → i + n ≤ length line → IsPlain i (i + n)
      → pieces_at Outside line i ≡ pieces_at Outside line (i + n)
  by_length zero i within plain = ap (pieces_at Outside line) (omega arith)
  by_length (suc n) i within plain =
      let b = get_or line i 0 in
      let apart = neither (b == 44) (b == 34) (plain i (omega arith) (omega arith)) in
      pieces_at-outside line i (omega arith) (λ e. true≢false (sym (eq-eqb b 44 e) ∙ apart.0))
      (λ e. true≢false (sym (eq-eqb b 34 e) ∙ apart.1))
      ∙ by_length n (i + 1) (omega arith) (λ k low high. plain k (omega arith) (omega arith))
      ∙ ap (pieces_at Outside line) (omega arith)

  pieces_at-plain : (i j : ℕ) → i ≤ j → j ≤ length line → IsPlain i j
      → pieces_at Outside line j ≡ pieces_at Outside line i
  pieces_at-plain i j le within plain =
      ap (pieces_at Outside line) (omega arith)
      ∙ sym (by_length (j - i) i (omega arith) (λ k low high. plain k low (omega arith)))

  pub pieces_at-other : (i : ℕ) → i < length line → is_mark (get_or line i 0) ≡ false
      → pieces_at Outside line (i + 1) ≡ pieces_at Outside line i
  pieces_at-other i within no' =
      pieces_at-plain i (i + 1) (omega arith) (omega arith)
      (λ k low high. let here : k ≡ i = omega arith in ap (λ at. is_mark (get_or line at 0)) here ∙ no')

  read : (from n k : ℕ) → from ≤ k → k < from + n
      → get_or (take n (drop from line)) (k - from) 0 ≡ get_or line k 0
  read from n k low high =
      get_or-take n (drop from line) (k - from) 0 (omega arith)
      ∙ get_or-drop from line (k - from) 0
      ∙ ap (λ at. get_or line at 0) (omega arith)

  plain_part : (from to : ℕ) → to ≤ length line
      → list_any is_mark (take (to - from) (drop from line)) ≡ false → IsPlain from to
  plain_part from to within none k low high =
      let part = take (to - from) (drop from line) in
      let short : k - from < length part =
      omega (arith, length-take (to - from) (drop from line), length-drop from line) in
      let same = read from (to - from) k low (omega arith) in
      elim (cases_Bool (is_mark (get_or line k 0))) [
        | inl yes' ↦ absurd
            (true≢false (sym (list_any_at is_mark part (k - from) 0 short (ap is_mark same ∙ yes')) ∙ none))
        | inr no' ↦ no'
      ]

  -- a part without a mark reaches from before the first place to the second or further
  pub pieces_at-unmarked : (from to i j : ℕ)
      → list_any is_mark (take (to - from) (drop from line)) ≡ false → to ≤ length line → from ≤ i
      → i ≤ j → j ≤ to → pieces_at Outside line j ≡ pieces_at Outside line i
  pieces_at-unmarked from to i j none within low le high =
      pieces_at-plain i j le (omega arith)
      (λ k above below. plain_part from to within none k (omega arith) (omega arith))

  plain_before : (from n : ℕ) → from + n ≤ length line
      → Nowhere (Passes is_mark (take (length line - from) (drop from line))) 0 n
      → IsPlain from (from + n)
  plain_before from n within nowhere k low high =
      let same = read from (length line - from) k low (omega arith) in
      elim (cases_Bool (is_mark (get_or line k 0))) [
        | inl yes' ↦ absurd
            (nowhere (k - from) (omega arith) (omega arith) (ap is_mark same ∙ yes'))
        | inr no' ↦ no'
      ]

  -- a search from a place on finds its mark so far ahead, or none
  pub pieces_at-found : (from n : ℕ) → from ≤ length line
      → IsFirstByte is_mark (take (length line - from) (drop from line)) (Some n)
      → pieces_at Outside line (from + n) ≡ pieces_at Outside line from
  pieces_at-found from n le found =
      let within : from + n ≤ length line =
      omega (arith, found.0.high, length-take (length line - from) (drop from line), length-drop from line) in
      pieces_at-plain from (from + n) (omega arith) within
      (plain_before from n within found.0.before)

  pub pieces_at-unfound : (from : ℕ) → from ≤ length line
      → IsFirstByte is_mark (take (length line - from) (drop from line)) None
      → pieces_at Outside line (length line) ≡ pieces_at Outside line from
  pieces_at-unfound from le none =
      pieces_at-plain from (length line) le (omega arith)
      (λ k low high. plain_before from (length line - from) (omega arith)
      (λ at above below. none at above (omega (arith, length-take (length line - from) (drop from line), length-drop from line)))
      k low (omega arith))
