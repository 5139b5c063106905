use Rattle.std.proofs.Common.{[], ◌∙◌}
use Rattle.hx_core.specs.Answers.{told_line}
use Rattle.hx_core.proofs.ItemLemmas.{one_item_more}
use Rattle.hx_core.proofs.replies.append_lines.Goals as goal

pub loop-at-preserved : goal.loop-at-preserved
loop-at-preserved c =
    c.in_ok-append_line.ensures
    ∙ one_item_more (told_line c.args.session) [] c.args.bytes.now.items c.loop-at.bytes.items c.args.reply.now.lines c.loop-at.at
    c.loop-at.invariant
