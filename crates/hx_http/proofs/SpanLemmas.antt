-- A span that lies in a prefix of a text covers the same bytes of both.
use Rattle.std.proofs.Common.{◌≡◌, ℕ, ◌+◌, ◌-◌, ◌≤◌, List, [], ◌∷◌, take, drop, map, ap, ◌∙◌, refl, arith}
use Rattle.std.proofs.lemmas.List.{drop-take, take-take}
use Rattle.std.proofs.lemmas.List.Elements.{All-head, All-nil, All-tail, All-weaker}
use Rattle.std.specs.List.{All, slice_range}
use Rattle.httparse.specs.Spans.{span_bytes, header_bytes, IsWithin, IsHeaderWithin}
use Rattle.httparse.specs.declared.spans.Span.{Span}
use Rattle.httparse.specs.declared.spans.HeaderSpan.{HeaderSpan}
use Rattle.hx_http.specs.Parts.{no_parts}
use Rattle.hx_http.specs.Spans.{parts_at, AreWithin, HasNoBytes}
use Rattle.hx_http.specs.declared.spans.HeadSpans.{HeadSpans}

range_in_prefix : (text : List ℕ) (n i j : ℕ) → i ≤ j → j ≤ n
    → slice_range (take n text) i j ≡ slice_range text i j
range_in_prefix text n i j ordered within =
    let sum : n ≡ i + (n - i) = omega arith in
    ap (λ m. take (j - i) (drop i (take m text))) sum
    ∙ ap (λ (xs : List ℕ). take (j - i) xs) (drop-take i (n - i) text)
    ∙ take-take (j - i) (n - i) (drop i text) (omega arith)

pub span_in_prefix : (text : List ℕ) (n : ℕ) (s : Span) → IsWithin n s
    → span_bytes (take n text) s ≡ span_bytes text s
span_in_prefix text n s within = range_in_prefix text n s.start s.end within.0 within.1

pub headers_in_prefix : (text : List ℕ) (n : ℕ) (hs : List HeaderSpan) → All (IsHeaderWithin n) hs
    → map (header_bytes (take n text)) hs ≡ map (header_bytes text) hs
headers_in_prefix text n [] within = refl
headers_in_prefix text n (h ∷ hs) within =
    let here = All-head (IsHeaderWithin n) h hs within in
    let name = span_in_prefix text n h.name here.0 in
    let value = span_in_prefix text n h.value here.1 in
    let more = headers_in_prefix text n hs (All-tail (IsHeaderWithin n) h hs within) in
    cc

pub parts_in_prefix : (text : List ℕ) (spans : HeadSpans) → AreWithin spans.head.len spans
    → parts_at (take spans.head.len text) spans ≡ parts_at text spans
parts_in_prefix text spans within =
    let m = span_in_prefix text spans.head.len spans.head.method within.method in
    let t = span_in_prefix text spans.head.len spans.head.path within.target in
    let h = headers_in_prefix text spans.head.len spans.lines.items within.lines in
    cc

within_more : (a b : ℕ) (s : Span) → a ≤ b → IsWithin a s → IsWithin b s
within_more a b s le within = (within.0, omega (arith, within.1))

-- spans that lie in the first bytes lie in more of them
pub AreWithin-more : (a b : ℕ) (spans : HeadSpans) → a ≤ b → AreWithin a spans → AreWithin b spans
AreWithin-more a b spans le within = record {
  method = within_more a b spans.head.method le within.method;
  target = within_more a b spans.head.path le within.target;
  version = within.version;
  lines = All-weaker (IsHeaderWithin a) (IsHeaderWithin b)
      (λ line here. (within_more a b line.name le here.0, within_more a b line.value le here.1)) spans.lines.items within.lines;
}

-- spans without bytes lie in any text
pub no_bytes_within : (n : ℕ) (spans : HeadSpans) → HasNoBytes spans → AreWithin n spans
no_bytes_within n spans none = record {
  method = rw none.method (omega arith, omega arith);
  target = rw none.target (omega arith, omega arith);
  version = omega (arith, none.version);
  lines = rw none.lines (All-nil (IsHeaderWithin n));
}

-- and their parts are empty
pub no_bytes_parts : (bytes : List ℕ) (spans : HeadSpans) → HasNoBytes spans → parts_at bytes spans ≡ no_parts
no_bytes_parts bytes spans none = rw (none.method, none.target, none.version, none.lines) refl
