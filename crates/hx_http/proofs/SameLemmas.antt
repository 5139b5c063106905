-- Equal spans, by the tests of their numbers.
use Rattle.std.proofs.Common.{◌≡◌, ℕ, Bool, true, false, not, ◌&&◌, List, refl, sym, ap, ◌∙◌}
use Rattle.std.specs.Prelude.{nat_eq}
use Rattle.std.specs.Bool.{Decides}
use Rattle.std.proofs.lemmas.Bool.{and_from, and_parts, false≢true}
use Rattle.std.proofs.lemmas.Bool.Decides.{Decides-eqb}
use Rattle.httparse.specs.declared.spans.HeaderSpan.{HeaderSpan}
use Rattle.httparse.specs.declared.spans.Span.{Span}
use Rattle.hx_http.specs.Spans.{parts_at}
use Rattle.hx_http.specs.declared.spans.HeadSpans.{HeadSpans}

abbrev pub same_span : Span → Span → Bool
same_span a b = nat_eq a.start b.start && nat_eq a.end b.end

abbrev pub same_line_spans : HeaderSpan → HeaderSpan → Bool
same_line_spans a b = same_span a.name b.name && same_span a.value b.value

abbrev span_of : ℕ → ℕ → Span
span_of start end = record { start = start; end = end }

abbrev line_of : Span → Span → HeaderSpan
line_of name value = record { name = name; value = value }

span_from : (a b : Span) → same_span a b ≡ true → a ≡ b
span_from a b same =
    let both = and_parts (nat_eq a.start b.start) (nat_eq a.end b.end) same in
    let start = (Decides-eqb a.start b.start).0 both.0 in
    let end = (Decides-eqb a.end b.end).0 both.1 in
    ap (λ n. span_of n a.end) start ∙ ap (λ n. span_of b.start n) end

same_from : (a : Span) → same_span a a ≡ true
same_from a =
    and_from (nat_eq a.start a.start) (nat_eq a.end a.end) ((Decides-eqb a.start a.start).1 refl)
    ((Decides-eqb a.end a.end).1 refl)

line_from : (a b : HeaderSpan) → same_line_spans a b ≡ true → a ≡ b
line_from a b same =
    let both = and_parts (same_span a.name b.name) (same_span a.value b.value) same in
    let name = span_from a.name b.name both.0 in
    let value = span_from a.value b.value both.1 in
    ap (λ s. line_of s a.value) name ∙ ap (λ s. line_of b.name s) value

same_line_from : (a : HeaderSpan) → same_line_spans a a ≡ true
same_line_from a =
    and_from (same_span a.name a.name) (same_span a.value a.value) (same_from a.name) (same_from a.value)

pub line_decides : (a b : HeaderSpan) → Decides (same_line_spans a b) (a ≡ b)
line_decides a b = (line_from a b, λ same. rw same (same_line_from b))

pub span_not_other : (a b : Span) (other : Bool) → other ≡ false → other ≡ not (same_span a b) → a ≡ b
span_not_other a b other is says = by (same_span a b) refl (sym is ∙ says)
  where
    by : (same : Bool) → same_span a b ≡ same → false ≡ not same → a ≡ b
    by true same says = span_from a b same
    by false same says = absurd (false≢true says)

-- the same spans have the same parts of any bytes
pub same_parts : (spans other : HeadSpans) (bytes : List ℕ) → spans.head.method ≡ other.head.method
    → spans.head.path ≡ other.head.path → spans.head.version ≡ other.head.version
    → spans.lines.items ≡ other.lines.items → parts_at bytes spans ≡ parts_at bytes other
same_parts spans other bytes method path version lines = rw (method, path, version, lines) refl
