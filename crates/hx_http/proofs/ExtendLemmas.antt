-- A message keeps its parts where bytes are appended to its own, but for those whose spans change.
use Rattle.std.proofs.Common.{◌≡◌, ℕ, ◌+◌, ◌-◌, ◌≤◌, List, ◌++◌, length, take, drop, map, sym, ap, ◌∙◌, refl, arith, length-append}
use Rattle.std.specs.List.{All, slice_range}
use Rattle.std.proofs.lemmas.List.{append_assoc, drop-drop, drop-take, drop_at, length-drop, length-take-le, take-take, take_all, take_at}
use Rattle.std.proofs.lemmas.List.Elements.{All-weaker}
use Rattle.httparse.specs.Spans.{span_bytes, header_bytes, IsWithin, IsHeaderWithin}
use Rattle.httparse.specs.declared.spans.Span.{Span}
use Rattle.httparse.specs.declared.spans.HeaderSpan.{HeaderSpan}
use Rattle.httparse.specs.declared.spans.RequestSpans.{RequestSpans}
use Rattle.hx_http.specs.declared.spans.HeadSpans.{HeadSpans}
use Rattle.hx_http.specs.Edits.{with_method, with_target}
use Rattle.hx_http.specs.Parts.{Parts}
use Rattle.hx_http.specs.Spans.{parts_at, AreWithin, Extends}
use Rattle.hx_http.proofs.SpanLemmas.{span_in_prefix, headers_in_prefix, AreWithin-more}

longer : (old new : List ℕ) → Extends old new → length old ≤ length new
longer old new more = omega (arith, ap length more.whole ∙ length-append old more.more)

old_prefix : (old new : List ℕ) → Extends old new → take (length old) new ≡ old
old_prefix old new more =
    ap (take (length old)) more.whole ∙ take_at old more.more (length old) refl

-- spans of the old bytes lie in the new ones
pub AreWithin-extended : (old new : List ℕ) (spans : HeadSpans) → Extends old new
    → AreWithin (length old) spans → AreWithin (length new) spans
AreWithin-extended old new spans more within =
    AreWithin-more (length old) (length new) spans (longer old new more) within

pub lines_extended : (old new : List ℕ) (lines : List HeaderSpan) → Extends old new
    → All (IsHeaderWithin (length old)) lines → All (IsHeaderWithin (length new)) lines
lines_extended old new lines more within =
    let long = longer old new more in
    All-weaker (IsHeaderWithin (length old)) (IsHeaderWithin (length new))
    (λ line here. (
      (here.0.0, omega (arith, here.0.1)),
      (here.1.0, omega (arith, here.1.1)),
    )) lines within

pub Extends-trans : (one two three : List ℕ) → Extends one two → Extends two three
    → Extends one three
Extends-trans one two three first second = record {
  more = first.more ++ second.more;
  whole = second.whole ∙ ap (λ (xs : List ℕ). xs ++ second.more) first.whole
      ∙ append_assoc one first.more second.more;
}

-- a span of the old bytes has the same ones among the new
pub span_extended : (old new : List ℕ) (s : Span) → Extends old new → IsWithin (length old) s
    → span_bytes new s ≡ span_bytes old s
span_extended old new s more within =
    sym (span_in_prefix new (length old) s within)
    ∙ ap (λ (text : List ℕ). span_bytes text s) (old_prefix old new more)

pub headers_extended : (old new : List ℕ) (lines : List HeaderSpan) → Extends old new
    → All (IsHeaderWithin (length old)) lines
    → map (header_bytes new) lines ≡ map (header_bytes old) lines
headers_extended old new lines more within =
    sym (headers_in_prefix new (length old) lines within)
    ∙ ap (λ (text : List ℕ). map (header_bytes text) lines) (old_prefix old new more)

-- the parts at these spans, of which the lines are given apart
abbrev pub parts_by : List ℕ → RequestSpans → List HeaderSpan → Parts
parts_by bytes head lines = record {
  method = span_bytes bytes head.method;
  target = span_bytes bytes head.path;
  minor = head.version;
  headers = map (header_bytes bytes) lines;
}

-- other header lines
pub other_headers : (old new : List ℕ) (spans : HeadSpans) (lines : List HeaderSpan)
    (headers : List (List ℕ × List ℕ)) → Extends old new → AreWithin (length old) spans
    → map (header_bytes new) lines ≡ headers
    → parts_by new spans.head lines ≡ record (parts_at old spans) { headers = headers }
other_headers old new spans lines headers more within is =
    let method = span_extended old new spans.head.method more within.method in
    let target = span_extended old new spans.head.path more within.target in
    cc

-- the same parts
pub parts_extended : (old new : List ℕ) (spans : HeadSpans) → Extends old new
    → AreWithin (length old) spans → parts_at new spans ≡ parts_at old spans
parts_extended old new spans more within =
    other_headers old new spans spans.lines.items (map (header_bytes old) spans.lines.items) more within
    (headers_extended old new spans.lines.items more within.lines)

-- another method
pub other_method : (old new : List ℕ) (spans : HeadSpans) (s : Span) (text : List ℕ)
    → Extends old new → AreWithin (length old) spans → span_bytes new s ≡ text
    → parts_by new (record spans.head { method = s }) spans.lines.items
    ≡ with_method text (parts_at old spans)
other_method old new spans s text more within is =
    let target = span_extended old new spans.head.path more within.target in
    let headers = headers_extended old new spans.lines.items more within.lines in
    cc

-- another target
pub other_target : (old new : List ℕ) (spans : HeadSpans) (s : Span) (text : List ℕ)
    → Extends old new → AreWithin (length old) spans → span_bytes new s ≡ text
    → parts_by new (record spans.head { path = s }) spans.lines.items
    ≡ with_target text (parts_at old spans)
other_target old new spans s text more within is =
    let method = span_extended old new spans.head.method more within.method in
    let headers = headers_extended old new spans.lines.items more within.lines in
    cc

-- the text that was appended to the old bytes lies from their end on
pub text_at_end : (old new text : List ℕ) (start end : ℕ) → new ≡ old ++ text → start ≡ length old
    → end ≡ length new → slice_range new start end ≡ text
text_at_end old new text start end is from to =
    rw (from, to, is, drop_at old text (length old) refl)
    (take_all _ text (omega (arith, length-append old text)))

span_length : (bytes : List ℕ) (s : Span) → IsWithin (length bytes) s
    → length (span_bytes bytes s) ≡ s.end - s.start
span_length bytes s within =
    let long : s.end - s.start ≤ length (drop s.start bytes)
    = omega (arith, length-drop s.start bytes, within.1) in
    length-take-le (s.end - s.start) (drop s.start bytes) long

-- the first bytes of a span, and those from a position on
first_bytes : (bytes : List ℕ) (s : Span) (n : ℕ) → n ≤ s.end - s.start
    → slice_range bytes s.start (s.start + n) ≡ take n (span_bytes bytes s)
first_bytes bytes s n fits =
    let same : s.start + n - s.start ≡ n = omega arith in
    rw same (sym (take-take n (s.end - s.start) (drop s.start bytes) fits))

last_bytes : (bytes : List ℕ) (s : Span) (n : ℕ) → n ≤ s.end - s.start
    → slice_range bytes (s.start + n) s.end ≡ drop n (span_bytes bytes s)
last_bytes bytes s n fits =
    let m : ℕ = s.end - (s.start + n) in
    let sum : s.end - s.start ≡ n + m = omega arith in
    sym (rw sum (drop-take n m (drop s.start bytes) ∙ ap (take m) (drop-drop n s.start bytes)))

-- the text that four pieces make at the end
pub text_around : (old one two three new mark text : List ℕ) (s : Span) (before after start end : ℕ)
    → IsWithin (length old) s → before ≤ length (span_bytes old s) → after ≤ length (span_bytes old s)
    → one ≡ old ++ slice_range old s.start (s.start + before) → two ≡ one ++ mark
    → three ≡ two ++ text → new ≡ three ++ slice_range three (s.start + after) s.end
    → start ≡ length old → end ≡ length new
    → slice_range new start end
    ≡ take before (span_bytes old s) ++ mark ++ text ++ drop after (span_bytes old s)
text_around old one two three new mark text s before after start end within first last is1 is2 is3 is4 from to =
    let size = span_length old s within in
    let head = take before (span_bytes old s) in
    let front : one ≡ old ++ head
    = is1 ∙ ap (λ (xs : List ℕ). old ++ xs) (first_bytes old s before (omega arith)) in
    let three_is : three ≡ old ++ (head ++ mark ++ text)
    = rw (is3, is2, front) (simp append_assoc) in
    let more : Extends old three = record { more = head ++ mark ++ text; whole = three_is } in
    let tail : slice_range three (s.start + after) s.end ≡ drop after (span_bytes old s)
    = span_extended old three (record { start = s.start + after; end = s.end }) more
    (omega arith, within.1) ∙ last_bytes old s after (omega arith) in
    let new_is : new ≡ old ++ (head ++ mark ++ text ++ drop after (span_bytes old s))
    = is4 ∙ rw (tail, three_is) (append_assoc old (head ++ mark ++ text) (drop after (span_bytes old s))) in
    text_at_end old new _ start end new_is from to
