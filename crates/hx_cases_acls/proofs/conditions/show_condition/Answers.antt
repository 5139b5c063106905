use Rattle.std.proofs.Common.{◌≡◌, true, rules}
use Rattle.hx_cases_acls.proofs.CondLemmas.{cond_has_heads}
use Rattle.hx_cases_acls.proofs.conditions.show_condition.Goals as goal

pub show_asked-requires-clause-heads : goal.show_asked-requires-clause-heads
show_asked-requires-clause-heads c =
    let found : c.has_cond_heads.result ≡ true = search rules in
    rw c.in-Ok.ensures.built
    (cond_has_heads c.args.filled.now.refs.content.heads c.args.cond.now
    (rw c.as_slice.ensures at (c.has_cond_heads.ensures found)))
