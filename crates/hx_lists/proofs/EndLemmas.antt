-- How many elements from either end of a list pass a test, and what stands after them.
use Rattle.std.proofs.Common.{◌≡◌, ℕ, ◌+◌, ◌-◌, List, length, take, drop, ap, ◌∙◌, arith}
use Rattle.std.specs.List.{prefix_len, suffix_len}
use Rattle.std.proofs.lemmas.List.{drop-drop, length-take-le}
use Rattle.std.proofs.lemmas.List.Sums.{prefix_len-le-length, suffix_len-le-length}
use Rattle.hx_base.specs.Bytes.{is_blank}
use Rattle.hx_lists.specs.Blanks.{last_blanks}

pub ruleset ends = (prefix_len-le-length, suffix_len-le-length)

-- what stands after the first blanks and what is trimmed
pub last_blanks_are : (bytes : List ℕ) → let rest = drop (prefix_len is_blank bytes) bytes in
    drop (length rest - suffix_len is_blank rest) rest ≡ last_blanks bytes
last_blanks_are bytes =
    let n = prefix_len is_blank bytes in
    let rest = drop n bytes in
    let at = length rest - suffix_len is_blank rest in
    let first : length (take n bytes) ≡ n =
    length-take-le n bytes (prefix_len-le-length is_blank bytes) in
    let between : length (take at rest) ≡ at = length-take-le at rest (omega arith) in
    let whole : n + at ≡ length (take n bytes) + length (take at rest) =
    omega (arith, first, between) in
    drop-drop at n bytes ∙ ap (λ k. drop k bytes) whole
