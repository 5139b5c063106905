-- How the code finds pieces: from the left, one after the other, each as a span of the text.
use Rattle.std.specs.Prelude.{ℕ, ◌≤◌, nat_le, nat_lt, Bool, true, false, List, [], drop, fold, length, slice_range, if◌then◌else◌}
use Rattle.std.specs.List.{filter, slice_split}
use Rattle.hx_conv_text.specs.Pieces.{is_in, spans_from}
use Rattle.hx_conv_text.specs.declared.pieces.Pieces.{Pieces}

-- the bytes of a text in a span
abbrev pub bytes_at : List ℕ → ℕ × ℕ → List ℕ
bytes_at text span = slice_range text span.0 span.1

-- the span begins and ends in the text
abbrev pub LiesWithin : List ℕ → ℕ × ℕ → Type 0
LiesWithin text span = (span.0 ≤ span.1) × (span.1 ≤ length text)

-- the span has a byte
abbrev pub is_filled : (ℕ × ℕ) → Bool
is_filled span = nat_lt span.0 span.1

-- where the last of the spans ends, or `end` where there is none
abbrev pub last_end : ℕ → List (ℕ × ℕ) → ℕ
last_end end spans = fold (λ before next. next.1) end spans

-- the fields of a text that begin at a position or after it, where one does
abbrev pub fields_after : List ℕ → List ℕ → ℕ → List (ℕ × ℕ)
fields_after delims text at =
    if nat_le at (length text)
    then spans_from at (slice_split (is_in delims) (drop at text))
    else []

-- those fields, or the words among them
abbrev pub pieces_after : Bool → List ℕ → List ℕ → ℕ → List (ℕ × ℕ)
pieces_after false delims text at = fields_after delims text at
pieces_after true delims text at = filter is_filled (fields_after delims text at)

-- what is left of a text that is cut
abbrev pub pieces_left : Pieces → ℕ → List (ℕ × ℕ)
pieces_left pieces at = pieces_after pieces.words pieces.delims.now pieces.text.now at
