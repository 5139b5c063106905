use Rattle.std.proofs.Common.{◌-◌, length}
use Rattle.hx_cli.proofs.UseLineLemmas.{ordered_uses, Tells}
use Rattle.hx_cli.proofs.showing.uses_reply.Given as goal

abbrev pub invariant-loop-by : goal.invariant-loop-by
invariant-loop-by g l = Tells l.is_map l.refs.content l.r l.text l.reply l.k

abbrev pub decreases-loop-by : goal.decreases-loop-by
decreases-loop-by g l = length (ordered_uses l.refs.content l.r) - l.k
