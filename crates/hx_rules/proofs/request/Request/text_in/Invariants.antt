use Rattle.std.proofs.Common.{◌≡◌, ◌++◌, drop}
use Rattle.hx_rules.specs.Formats.{text_in}
use Rattle.hx_rules.specs.RequestView.{state_of}
use Rattle.hx_rules.specs.State.{table_view}
use Rattle.hx_rules.proofs.request.Request.text_in.Given as goal

-- the text so far and that of the parts that are left are the whole
abbrev pub invariant-loop-part : goal.invariant-loop-part
invariant-loop-part g l =
    let text = text_in (table_view g.T.Tables.heads g.T.Tables.lists g.T.Tables.after_change) l.self.conn.now (state_of g.T.Tables.state l.self) in
    l.text ++ text (drop l.part-index l.part-items) ≡ text l.format
