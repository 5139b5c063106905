-- A line that stands in the bytes as it is written, and lines that are appended one by one.
use Rattle.std.proofs.Common.{◌≡◌, ℕ, ◌+◌, ◌-◌, ◌<◌, ◌≤◌, List, [], ◌∷◌, ◌++◌, length, get_or, take, drop, map, sym, ap, ◌∙◌, refl, arith}
use Rattle.std.specs.Prelude.{codes}
use Rattle.std.specs.List.{flat_map, slice_range}
use Rattle.std.proofs.Math.Seq.{take-add}
use Rattle.std.proofs.lemmas.Fmt.{decimal_digit}
use Rattle.std.proofs.lemmas.List.{append_assoc, drop-drop, drop_more, flat_map_more, map_more}
use Rattle.httparse.specs.Spans.{header_bytes, IsHeaderWithin}
use Rattle.httparse.specs.declared.spans.HeaderSpan.{HeaderSpan}
use Rattle.hx_http.specs.Parts.{Parts}
use Rattle.hx_http.specs.Text.{header_line, request_line}

-- a slice is two slices
slice_in_two : (xs : List ℕ) (a b c : ℕ) → a ≤ b → b ≤ c
    → slice_range xs a c ≡ slice_range xs a b ++ slice_range xs b c
slice_in_two xs a b c first second =
    let size : c - a ≡ (b - a) + (c - b) = omega arith in
    let middle : a + (b - a) ≡ b = omega arith in
    rw size (take-add (b - a) (c - b) (drop a xs))
    ∙ ap (λ rest. take (b - a) (drop a xs) ++ take (c - b) rest)
    (drop-drop (b - a) a xs ∙ ap (λ n. drop n xs) middle)

-- a slice of two bytes
two_bytes : (xs : List ℕ) (a : ℕ) (x y : ℕ) → a + 1 < length xs → get_or xs a 0 ≡ x
    → get_or xs (a + 1) 0 ≡ y → slice_range xs a (a + 2) ≡ x ∷ y ∷ []
two_bytes xs a x y within first second =
    let size : a + 2 - a ≡ 2 = omega arith in
    let next : a + 1 + 1 ≡ a + 2 = omega arith in
    rw (size, drop_more xs a 0 (omega arith), drop_more xs (a + 1) 0 within, first, second) refl

-- the bytes from a name to the value that follows it after a colon and a space
pub whole_line : (bytes : List ℕ) (line : HeaderSpan) → IsHeaderWithin (length bytes) line
    → line.value.start ≡ line.name.end + 2 → get_or bytes line.name.end 0 ≡ 58
    → get_or bytes (line.name.end + 1) 0 ≡ 32
    → slice_range bytes line.name.start line.value.end ≡ header_line (header_bytes bytes line)
whole_line bytes line within follows colon space =
    let mark : slice_range bytes line.name.end line.value.start ≡ 58 ∷ 32 ∷ []
    = rw follows (two_bytes bytes line.name.end 58 32 (omega (arith, within.1.0, within.1.1, follows)) colon space) in
    slice_in_two bytes line.name.start line.name.end line.value.end within.0.0
    (omega (arith, within.1.0, follows))
    ∙ ap (λ rest. slice_range bytes line.name.start line.name.end ++ rest)
    (slice_in_two bytes line.name.end line.value.start line.value.end (omega (arith, follows)) within.1.0
    ∙ ap (λ text. text ++ slice_range bytes line.value.start line.value.end) mark)

-- one line more
pub one_line_more : (old now next before : List ℕ) (bytes : List ℕ) (lines : List HeaderSpan) (i : ℕ)
    (d : HeaderSpan) → i < length lines
    → now ≡ old ++ flat_map (λ line. before ++ header_line line) (map (header_bytes bytes) (take i lines))
    → next ≡ now ++ before ++ header_line (header_bytes bytes (get_or lines i d))
    → next ≡ old ++ flat_map (λ line. before ++ header_line line) (map (header_bytes bytes) (take (i + 1) lines))
one_line_more old now next before bytes lines i d within so_far is =
    let item = λ (line : List ℕ × List ℕ). before ++ header_line line in
    let line = header_bytes bytes (get_or lines i d) in
    is ∙ append_assoc now before (header_line line)
    ∙ ap (λ (text : List ℕ). text ++ item line) so_far
    ∙ flat_map_more item old (map (header_bytes bytes) (take i lines)) line
    ∙ ap (λ pairs. old ++ flat_map item pairs) (sym (map_more (header_bytes bytes) lines i d within))

-- a request line piece by piece
pub pieces_of_request : (old version : List ℕ) (head : Parts) → head.minor < 10
    → version ≡ codes " HTTP/1." ++ (48 + head.minor) ∷ []
    → old ++ head.method ++ codes " " ++ head.target ++ version ≡ old ++ request_line head
pieces_of_request old version head digit is =
    rw (is, decimal_digit head.minor digit) (simp append_assoc)
