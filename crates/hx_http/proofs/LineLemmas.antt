-- Header lines by their spans, and the same edits of the lines that they cover.
use Rattle.std.proofs.Common.{◌≡◌, ℕ, ◌+◌, ◌<◌, ◌≤◌, Bool, true, false, not, cond, List, [], ◌∷◌, ◌++◌, length, get_or, set, take, map, subst, sym, ap, ◌∙◌, refl, arith}
use Rattle.std.specs.Prelude.{None, Some, filter, slice_get, slice_set}
use Rattle.std.specs.Option.{option_map_or}
use Rattle.std.proofs.lemmas.List.{get_or-map, length-map, length_push, map-set, map_more, map_push}
use Rattle.std.proofs.lemmas.Bool.{le-ltb, lt-ltb}
use Rattle.std.proofs.lemmas.List.Elements.{All-get_or}
use Rattle.std.proofs.lemmas.List.Filters.{length-filter_both}
use Rattle.std.proofs.lemmas.Option.{slice_get-map, slice_get_read}
use Rattle.std.specs.List.{All, list_any}
use Rattle.httparse.specs.Spans.{span_bytes, header_bytes, IsHeaderWithin}
use Rattle.httparse.specs.declared.spans.Span.{Span}
use Rattle.httparse.specs.declared.spans.HeaderSpan.{HeaderSpan}
use Rattle.hx_http.specs.declared.fault.EditFault.TheVariants.{TooMany}
use Rattle.hx_base.specs.Bytes.{is_bad_value_byte}
use Rattle.hx_http.specs.Edits.{has_name, set_header_fault, without_header}
use Rattle.hx_http.specs.Head.{header_limit}
use Rattle.hx_http.specs.Parts.{Parts}
use Rattle.hx_http.specs.Spans.{lines_without, Extends}
use Rattle.hx_http.proofs.ExtendLemmas.{headers_extended, span_extended}

-- a filter of the values is that of their images
pub map-filter : {X Y : Type 0} (f : X → Y) (test : Y → Bool) (xs : List X)
    → map f (filter (λ x. test (f x)) xs) ≡ filter test (map f xs)
map-filter f test [] = refl
map-filter {X} {Y} f test (x ∷ xs) = by_test (test (f x)) (map-filter f test xs)
  where
    by_test : (passes : Bool)
        → map f (filter (λ (y : X). test (f y)) xs) ≡ filter test (map f xs)
        → map f (cond passes (x ∷ filter (λ (y : X). test (f y)) xs)
        (filter (λ (y : X). test (f y)) xs))
        ≡ cond passes (f x ∷ filter test (map f xs)) (filter test (map f xs))
    by_test true more = ap (λ (ys : List Y). f x ∷ ys) more
    by_test false more = more

-- another second part in the pair at a position
pub other_second : {A B L : Type 0} (f g : L → A × B) (lines : List L) (i : ℕ) (line new : L) (value : B)
    → map g lines ≡ map f lines → i < length lines → line ≡ get_or lines i line
    → g new ≡ ((f line).0, value)
    → map g (set lines i new)
    ≡ option_map_or (λ (pair : A × B). slice_set (map f lines) i (pair.0, value))
    (slice_get (map f lines) i) (map f lines)
other_second f g lines i line new value same within read is =
    rw (slice_get-map f lines i, slice_get_read lines (length lines) i line refl within read, map-set g lines i new, same, is)
    refl

-- equal lists of images have equal images at each position
pub same_at : {X Y Z : Type 0} (f : X → Z) (g : Y → Z) (xs : List X) (ys : List Y) (i : ℕ) (d : X) (e : Y)
    → i < length xs → i < length ys → map f xs ≡ map g ys → f (get_or xs i d) ≡ g (get_or ys i e)
same_at {Z = Z} f g xs ys i d e within other same =
    sym (get_or-map f xs i d (f d) within)
    ∙ ap (λ (zs : List Z). get_or zs i (f d)) same
    ∙ get_or-map g ys i e (f d) other

pub same_length : {X Y Z : Type 0} (f : X → Z) (g : Y → Z) (xs : List X) (ys : List Y)
    → map f xs ≡ map g ys → length xs ≡ length ys
same_length f g xs ys same = sym (length-map xs f) ∙ ap length same ∙ length-map ys g

-- what holds of each element holds of one that was read
pub read_within : {X : Type 0} (P : X → Type 0) (xs : List X) (i : ℕ) (x : X) → i < length xs
    → x ≡ get_or xs i x → All P xs → P x
read_within P xs i x within read all = subst P (sym read) (All-get_or P xs i x within all)

-- the line that a read past the end would give
abbrev pub empty_line : HeaderSpan
empty_line = record { name = record { start = 0; end = 0 }; value = record { start = 0; end = 0 } }

-- ---- lines of longer bytes

-- one more line
pub one_more : (old new : List ℕ) (lines more : List HeaderSpan) (line : HeaderSpan) (pair : List ℕ × List ℕ)
    → Extends old new → All (IsHeaderWithin (length old)) lines → more ≡ lines ++ line ∷ []
    → header_bytes new line ≡ pair
    → map (header_bytes new) more ≡ map (header_bytes old) lines ++ pair ∷ []
one_more old new lines more line pair extends within is text =
    rw (is, map_push (header_bytes new) lines line, headers_extended old new lines extends within, text)
    refl

-- one more line of those that are copied from other bytes
pub copied_more : (old new other : List ℕ) (copied more lines : List HeaderSpan) (i : ℕ)
    (d line : HeaderSpan) → Extends old new → All (IsHeaderWithin (length old)) copied
    → map (header_bytes old) copied ≡ map (header_bytes other) (take i lines) → i < length lines
    → more ≡ copied ++ line ∷ [] → header_bytes new line ≡ header_bytes other (get_or lines i d)
    → map (header_bytes new) more ≡ map (header_bytes other) (take (i + 1) lines)
copied_more old new other copied more lines i d line extends within same below is text =
    one_more old new copied more line (header_bytes other (get_or lines i d)) extends within is text
    ∙ ap (λ (pairs : List (List ℕ × List ℕ)). pairs ++ header_bytes other (get_or lines i d) ∷ []) same
    ∙ sym (map_more (header_bytes other) lines i d below)

-- another value in the line at a position
pub other_value : (old new : List ℕ) (lines : List HeaderSpan) (i : ℕ) (line : HeaderSpan) (s : Span) (value : List ℕ)
    → Extends old new → All (IsHeaderWithin (length old)) lines → i < length lines
    → line ≡ get_or lines i line → span_bytes new s ≡ value
    → map (header_bytes new) (set lines i (record { name = line.name; value = s }))
    ≡ option_map_or (λ pair. slice_set (map (header_bytes old) lines) i (pair.0, value))
    (slice_get (map (header_bytes old) lines) i) (map (header_bytes old) lines)
other_value old new lines i line s value extends within inside read text =
    let here = read_within (IsHeaderWithin (length old)) lines i line inside read within in
    other_second (header_bytes old) (header_bytes new) lines i line
    (record { name = line.name; value = s }) value (headers_extended old new lines extends within) inside read
    (ap (λ (name : List ℕ). (name, span_bytes new s)) (span_extended old new line.name extends here.0)
    ∙ ap (λ (v : List ℕ). (span_bytes old line.name, v)) text)

-- the lines without the name, and as many pairs without it
pub kept_lines : (old new name : List ℕ) (lines : List HeaderSpan) → Extends old new
    → All (IsHeaderWithin (length old)) lines
    → map (header_bytes new) (lines_without new name lines)
    ≡ filter (λ line. not (has_name name line)) (map (header_bytes old) lines)
kept_lines old new name lines extends within =
    map-filter (header_bytes new) (λ line. not (has_name name line)) lines
    ∙ ap (filter (λ line. not (has_name name line))) (headers_extended old new lines extends within)

pub kept_count : (bytes name : List ℕ) (lines : List HeaderSpan)
    → length (lines_without bytes name lines)
    ≡ length (filter (λ line. not (has_name name line)) (map (header_bytes bytes) lines))
kept_count bytes name lines =
    sym (length-map (lines_without bytes name lines) (header_bytes bytes))
    ∙ ap length (map-filter (header_bytes bytes) (λ line. not (has_name name line)) lines)

-- the same pairs without the name, and one more, by the lines of longer bytes
pub one_in_place : (old new name : List ℕ) (lines more : List HeaderSpan) (line : HeaderSpan)
    (pair : List ℕ × List ℕ) → Extends old new → All (IsHeaderWithin (length old)) lines
    → more ≡ lines_without new name lines ++ line ∷ [] → header_bytes new line ≡ pair
    → map (header_bytes new) more
    ≡ filter (λ line. not (has_name name line)) (map (header_bytes old) lines) ++ pair ∷ []
one_in_place old new name lines more line pair extends within is text =
    rw (is, map_push (header_bytes new) (lines_without new name lines) line, kept_lines old new name lines extends within, text)
    refl

-- as many as before are fewer by the longer bytes where they are by the old ones
pub still_fewer : (old new name : List ℕ) (lines : List HeaderSpan) → Extends old new
    → All (IsHeaderWithin (length old)) lines
    → length (filter (λ line. not (has_name name line)) (map (header_bytes old) lines))
    < length (map (header_bytes old) lines)
    → length (lines_without new name lines) < length lines
still_fewer old new name lines extends within fewer =
    omega (
      arith,
      kept_count new name lines,
      ap (λ (pairs : List (List ℕ × List ℕ)). length (filter (λ line. not (has_name name line)) pairs))
          (headers_extended old new lines extends within),
      length-map lines (header_bytes old),
    )

-- ---- the number of lines

filter_fewer : {X : Type 0} (test : X → Bool) (xs : List X) → length (filter test xs) ≤ length xs
filter_fewer test xs =
    omega (arith, length-filter_both test (λ x. not (test x)) (λ x. refl) xs)

-- a filter that keeps as many keeps all
pub filter_all : {X : Type 0} (test : X → Bool) (xs : List X) → length xs ≤ length (filter test xs)
    → filter test xs ≡ xs
filter_all test [] as_many = refl
filter_all {X} test (x ∷ xs) as_many =
    go (test x) as_many (filter_all test xs) (filter_fewer test xs)
  where
    go : (passes : Bool)
        → length (x ∷ xs) ≤ length (cond passes (x ∷ filter test xs) (filter test xs))
        → (length xs ≤ length (filter test xs) → filter test xs ≡ xs)
        → length (filter test xs) ≤ length xs
        → cond passes (x ∷ filter test xs) (filter test xs) ≡ x ∷ xs
    go true many same fewer = ap (λ (ys : List X). x ∷ ys) (same (omega arith))
    go false many same fewer = absurd (omega arith)

-- where no line has the name, none goes
pub without_none : (name : List ℕ) (head : Parts)
    → length head.headers ≤ length (without_header name head).headers
    → without_header name head ≡ head
without_none name head as_many =
    ap (λ headers. record head { headers = headers })
    (filter_all (λ line. not (has_name name line)) head.headers as_many)

-- one line more than the limit, or within it
pub too_many : (name value : List ℕ) (head : Parts) → list_any is_bad_value_byte value ≡ false
    → header_limit ≤ length (without_header name head).headers
    → set_header_fault name value head ≡ Some TooMany
too_many name value head fine many =
    let kept = (without_header name head).headers in
    rw (
      fine,
      lt-ltb header_limit (length (kept ++ (name, value) ∷ []))
          (omega (arith, length_push kept (name, value))),
    ) refl

pub few_enough : (name value : List ℕ) (head : Parts) → list_any is_bad_value_byte value ≡ false
    → length (without_header name head).headers < header_limit
    → set_header_fault name value head ≡ None
few_enough name value head fine few =
    let kept = (without_header name head).headers in
    rw (
      fine,
      le-ltb header_limit (length (kept ++ (name, value) ∷ []))
          (omega (arith, length_push kept (name, value))),
    ) refl
