use Rattle.hx_cli.proofs.ReferenceLineLemmas.{told_first}
use Rattle.hx_cli.proofs.showing.show_all.Goals as goal

pub loop-line-init : goal.loop-line-init
loop-line-init c =
    told_first c.args.is_map c.args.refs.now.content c.new-reply.result c.push.new.self c.in_ok-heading.field-0 c.in_ok-lines.lines.entries
    c.new-reply.ensures c.in_ok-heading.ensures c.in_ok-lines.ensures c.in_ok-push.ensures.ok
