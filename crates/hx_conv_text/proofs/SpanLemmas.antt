-- The bytes in a span of a text whose one end is the text's, or that takes no more than is there.
use Rattle.std.proofs.Common.{◌≡◌, ℕ, ◌+◌, ◌-◌, ◌≤◌, List, drop, take, length, slice_range, ap, ◌∙◌, arith, length-drop}
use Rattle.std.specs.List.{copy_within}
use Rattle.std.proofs.lemmas.List.{length-take-le, take-append-le}
use Rattle.std.proofs.Math.Seq.{take_all}

-- up to the end
pub last_bytes : (text : List ℕ) (n : ℕ) → slice_range text n (length text) ≡ drop n text
last_bytes text n = take_all (length text - n) (drop n text) (omega (arith, length-drop n text))

-- from the start on
pub first_bytes : (text : List ℕ) (n : ℕ) → slice_range text 0 n ≡ take n text
first_bytes text n = let same : n - 0 ≡ n = omega arith in ap (λ k. take k text) same

-- bytes that were moved to the start
pub moved : (old new : List ℕ) (start end : ℕ) → start ≤ end → end ≤ length old
    → new ≡ copy_within old start end 0 → take (end - start) new ≡ slice_range old start end
moved old new start end order inside copied =
    let n = end - start in
    let size : length (take n (drop start old)) ≡ n = length-take-le n (drop start old) (omega (arith, length-drop start old)) in
    ap (take n) copied ∙ take-append-le n (take n (drop start old)) (drop (0 + n) old) (omega arith)
    ∙ take_all n (take n (drop start old)) (omega arith)

pub ruleset spans = (last_bytes, first_bytes)
