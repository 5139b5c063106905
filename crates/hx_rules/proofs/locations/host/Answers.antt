use Rattle.std.proofs.Common.{sym, ◌∙◌, rules}
use Rattle.hx_rules.proofs.LineLemmas.{host_after, host_here}
use Rattle.hx_rules.proofs.locations.host.Goals as goal

pub returns-then-eq_ignore_ascii_case : goal.returns-then-eq_ignore_ascii_case
returns-then-eq_ignore_ascii_case c =
    let line = c.in-Some.ensures.line in
    let named = c.if-eq_ignore_ascii_case.ensures.test in
    sym (host_here c.args.message.now.headers c.loop-at.at (c.in-Some.name.now, c.in-Some.value.now) (search rules) (search rules))
    ∙ c.loop-at.invariant

pub loop-at-preserved : goal.loop-at-preserved
loop-at-preserved c =
    let line = c.in-Some.ensures.line in
    let other = c.if-eq_ignore_ascii_case.ensures.test in
    sym (host_after c.args.message.now.headers c.loop-at.at (c.in-Some.name.now, c.in-Some.value.now) (search rules) (search rules))
    ∙ c.loop-at.invariant
