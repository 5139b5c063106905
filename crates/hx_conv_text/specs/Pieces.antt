-- The pieces of a text between delimiters, and the ranges of pieces that `field` and `word` take
-- (HAProxy configuration manual 2.4, section 7.3.1).
use Rattle.std.specs.Prelude.{ℕ, ◌+◌, ◌-◌, nat_lt, ◌==◌, Bool, ℤ, pos, negsuc, List, [], ◌∷◌, length, drop, take, fold, Option, Some, None, slice_range, if◌then◌else◌}
use Rattle.std.specs.List.{filter, list_any, slice_split}
use Rattle.std.specs.Option.{option_map_or}
use Rattle.hx_conv_text.specs.Texts.{natural}

-- the byte is one of these
abbrev pub is_in : List ℕ → ℕ → Bool
is_in bytes b = list_any (λ other. other == b) bytes

-- the spans of pieces that stand in a row, with one byte between each and the next, the first from
-- `start` on
abbrev pub spans_from : ℕ → List (List ℕ) → List (ℕ × ℕ)
spans_from start [] = []
spans_from start (piece ∷ pieces) =
    (start, start + length piece) ∷ spans_from (start + length piece + 1) pieces

-- the spans of the pieces of a text that is cut at each delimiter
abbrev pub field_spans : List ℕ → List ℕ → List (ℕ × ℕ)
field_spans delims text = spans_from 0 (slice_split (is_in delims) text)

-- the spans of the longest runs of bytes that aren't delimiters: the pieces that aren't empty
abbrev pub word_spans : List ℕ → List ℕ → List (ℕ × ℕ)
word_spans delims text = filter (λ span. nat_lt span.0 span.1) (field_spans delims text)

-- so many of the first items, or all for 0
abbrev pub first_items : ℕ → List (ℕ × ℕ) → List (ℕ × ℕ)
first_items count items = if count == 0 then items else take count items

-- so many of the last items, or all for 0
abbrev pub last_items : ℕ → List (ℕ × ℕ) → List (ℕ × ℕ)
last_items count items = if count == 0 then items else drop (length items - count) items

-- how many pieces are taken, 0 for all: one where it isn't said
abbrev pub piece_count : Option ℤ → ℕ
piece_count count = option_map_or natural count 1

-- The items that an index and a count name. The index 1 is that of the first item, and so many are
-- taken from the one at the index on. The index -1 is that of the last, and of a negative one so
-- many are taken up to the one at the index.
abbrev pub items_at : ℤ → Option ℤ → List (ℕ × ℕ) → List (ℕ × ℕ)
items_at (pos n) count items = first_items (piece_count count) (drop (n - 1) items)
items_at (negsuc n) count items = last_items (piece_count count) (take (length items - n) items)

-- the text from where the first of the spans begins to where the last ends; none without spans
abbrev pub text_across : List ℕ → List (ℕ × ℕ) → Option (List ℕ)
text_across text [] = None
text_across text (span ∷ spans) =
    Some (slice_range text span.0 (fold (λ end next. next.1) span.1 spans))
