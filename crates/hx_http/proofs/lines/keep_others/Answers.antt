use Rattle.std.proofs.Common.{not, get_or, sym, ap, ◌∙◌, arith}
use Rattle.std.proofs.lemmas.List.{get_or_default}
use Rattle.std.proofs.lemmas.List.Elements.{All-get_or, All-set}
use Rattle.std.proofs.lemmas.List.Filters.{FiltersInPlace-more_no, FiltersInPlace-more_set}
use Rattle.httparse.specs.declared.spans.HeaderSpan.{HeaderSpan}
use Rattle.httparse.specs.Spans.{IsHeaderWithin}
use Rattle.hx_http.proofs.LineLemmas.{empty_line}
use Rattle.hx_http.proofs.lines.keep_others.Goals as goal
use Rattle.hx_http.proofs.lines.keep_others.Goals.{then-not-has_name, else-not-has_name}

pub loop-i-preserved : goal.loop-i-preserved
loop-i-preserved c =
    let lines = c.loop-i.lines in
    let i = c.loop-i.i in
    let line : HeaderSpan = get_or lines i empty_line in
    let old = c.loop-i.invariant in
    elim c.if-not-has_name.branch [
      | then-not-has_name w ↦ rw (w.lines-is, w.kept-is) (record {
        filters = FiltersInPlace-more_set {x = line} old.filters (omega arith)
            (ap not (sym c.has_name.ensures ∙ w.if-not-has_name.true))
            (get_or_default lines i empty_line line (omega arith));
        within = All-set (IsHeaderWithin _) lines c.loop-i.kept line
            (All-get_or (IsHeaderWithin _) lines i empty_line (omega arith) old.within) old.within;
      })
      | else-not-has_name w ↦ rw (w.lines-is, w.kept-is) (record {
        filters = FiltersInPlace-more_no {x = line} old.filters (omega arith)
            (ap not (sym c.has_name.ensures ∙ w.if-not-has_name.false))
            (get_or_default lines i empty_line line (omega arith));
        within = old.within;
      })
    ]
