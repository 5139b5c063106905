use Rattle.std.proofs.Common.{ℕ, List, ◌++◌, ◌+◌, drop, append_assoc, ap, sym, ◌∙◌}
use Rattle.std.specs.declared.alloc.Global.{Global}
use Rattle.std.specs.declared.vec.Vec.{Vec}
use Rattle.hx_diff.specs.RowsView.{row_at, row_of, rows_of}
use Rattle.hx_diff.specs.Verdicts.{row_text, rows_text}
use Rattle.hx_diff.specs.declared.rows.Count.{Count}
use Rattle.hx_diff.proofs.VerdictLemmas.{next_row}
use Rattle.hx_diff.proofs.rows.append_entry.Goals as goal

pub returns-in_ok-append_row-in-Some : goal.returns-in_ok-append_row-in-Some
returns-in_ok-append_row-in-Some c =
    let rest : List ℕ = rows_text (rows_of (drop (c.args.at + 1) c.args.counts.now.entries)) in
    let entry : Vec ℕ Global × Count = (c.in-Some.key.now, c.in-Some.count.now) in
    ap (λ (text : List ℕ). text ++ rest) (c.in_ok-append_row-in-Some.ensures
    ∙ ap (λ (key : List ℕ). c.args.text.now.items ++ row_text (row_at key c.in-Some.count.now)) c.as_slice.ensures.value)
    ∙ append_assoc c.args.text.now.items (row_text (row_of entry)) rest
    ∙ ap (λ (text : List ℕ). c.args.text.now.items ++ text) (sym (next_row c.args.counts.now.entries c.args.at entry (sym c.in-Some.ensures.entry)))
