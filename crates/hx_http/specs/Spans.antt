-- A view of the code, for private contracts: the parts of a head by the spans at which they lie.
use Rattle.std.specs.Prelude.{◌≡◌, ℕ, ◌≤◌, List, [], ◌++◌, not, map, filter, All}
use Rattle.httparse.specs.declared.spans.HeaderSpan.{HeaderSpan}
use Rattle.httparse.specs.declared.spans.Span.{Span}
use Rattle.httparse.specs.Spans.{span_bytes, header_bytes, IsWithin, IsHeaderWithin}
use Rattle.hx_http.specs.Edits.{has_name}
use Rattle.hx_http.specs.Parts.{Parts}
use Rattle.hx_http.specs.declared.spans.HeadSpans.{HeadSpans}

-- The parts that lie at these spans of a text.
abbrev pub parts_at : List ℕ → HeadSpans → Parts
parts_at bytes spans = record {
  method = span_bytes bytes spans.head.method;
  target = span_bytes bytes spans.head.path;
  minor = spans.head.version;
  headers = map (header_bytes bytes) spans.lines.items;
}

-- the lines that don't have the name
abbrev pub lines_without : List ℕ → List ℕ → List HeaderSpan → List HeaderSpan
lines_without bytes name lines =
    filter (λ line. not (has_name name (header_bytes bytes line))) lines

-- Each span lies in the first `count` bytes, and the version is `HTTP/1.0` or `HTTP/1.1`.
pub record AreWithin (count : ℕ) (spans : HeadSpans) : Type 0 where
  pub method : IsWithin count spans.head.method
  pub target : IsWithin count spans.head.path
  pub version : spans.head.version ≤ 1
  pub lines : All (IsHeaderWithin count) spans.lines.items

abbrev pub no_span : Span
no_span = record { start = 0; end = 0 }

-- the spans have no bytes, and no header lines
pub record HasNoBytes (spans : HeadSpans) : Type 0 where
  pub method : spans.head.method ≡ no_span
  pub target : spans.head.path ≡ no_span
  pub version : spans.head.version ≡ 0
  pub lines : spans.lines.items ≡ []

-- the bytes that the new text begins with are the old text
pub record Extends (old new : List ℕ) : Type 0 where
  pub more : List ℕ
  pub whole : new ≡ old ++ more
