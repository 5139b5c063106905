use Rattle.std.proofs.Common.{sym, ◌∙◌}
use Rattle.hx_cli.proofs.ReferenceLineLemmas.{line_inserted, line_kept, none_after_all}
use Rattle.hx_cli.proofs.showing.lines_by_number.Goals as goal

pub loop-r-init : goal.loop-r-init
loop-r-init c = rw c.len-r.ensures
    (none_after_all c.args.is_map c.args.refs.now.content c.new-lines.result.entries c.new-lines.ensures.empty)

pub loop-r-preserved : goal.loop-r-preserved
loop-r-preserved c =
    line_inserted c.args.is_map c.args.refs.now.content c.loop-r.r c.info-info.result c.loop-r.lines.entries c.insert_line.new.lines.entries
    c.loop-r-test.true c.info-info.ensures (sym c.if-not-is_told.false ∙ c.is_told.ensures) c.loop-r.invariant c.in_ok-insert_line.ensures

pub loop-r-preserved-then-not-is_told : goal.loop-r-preserved-then-not-is_told
loop-r-preserved-then-not-is_told c =
    line_kept c.args.is_map c.args.refs.now.content c.loop-r.r c.info-info.result c.loop-r.lines.entries c.loop-r-test.true
    c.info-info.ensures (sym c.if-not-is_told.true ∙ c.is_told.ensures) c.loop-r.invariant
