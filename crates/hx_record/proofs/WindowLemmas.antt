-- Bytes that move within a buffer, and bytes that are read after them.
use Rattle.std.proofs.Common.{◌≡◌, ℕ, ◌+◌, ◌-◌, ◌≤◌, List, [], ◌++◌, length, take, drop, ap, ◌∙◌, arith, length-drop, length-take-le, append-nil}
use Rattle.std.specs.List.{copy_within}
use Rattle.std.proofs.lemmas.Slice.{between_is}
use Rattle.std.proofs.lemmas.List.{drop-append-le, take-append-le}
use Rattle.std.proofs.Math.Seq.{take-add, take-append-add}

-- bytes that all have room
pub take_all : (room : ℕ) (bytes : List ℕ) → length bytes ≤ room → take room bytes ≡ bytes
take_all room bytes all =
    let split : length bytes + (room - length bytes) ≡ room = omega arith in
    let long : take (length bytes + (room - length bytes)) (bytes ++ []) ≡ bytes ++ take (room - length bytes) [] = take-append-add bytes [] (room - length bytes) in
    grind (arith, append-nil)

-- bytes that were moved to the start
pub moved : (old new : List ℕ) (start end : ℕ) → start ≤ end → end ≤ length old → new ≡ copy_within old start end 0 → take (end - start) new ≡ drop start (take end old)
moved old new start end order inside copied =
    let n = end - start in
    let size : length (take n (drop start old)) ≡ n = length-take-le n (drop start old) (omega (arith, length-drop start old)) in
    ap (take n) copied ∙ take-append-le n (take n (drop start old)) (drop (0 + n) old) (omega arith) ∙ take_all n (take n (drop start old)) (omega arith) ∙ between_is old start end

-- bytes that were read after the others
pub grown : (old new : List ℕ) (start end count : ℕ) → start ≤ end → end + count ≤ length new → take end new ≡ take end old → drop start (take (end + count) new) ≡ drop start (take end old) ++ take count (drop end new)
grown old new start end count order inside same =
    let size : length (take end new) ≡ end = length-take-le end new (omega arith) in
    ap (drop start) (take-add end count new) ∙ drop-append-le start (take end new) (take count (drop end new)) (omega arith) ∙ ap (λ front. drop start front ++ take count (drop end new)) same
