use Rattle.std.proofs.Common.{refl, arith}
use Rattle.hx_cases_values.proofs.mapped.map_used.Goals as goal

pub returns-clause-head : goal.returns-clause-head
returns-clause-head c =
    c.in_ok-add_uses.ensures.head c.in_ok-by.by
    (rw (c.in_ok-add_use.ensures.ok, c.in_ok-refs.ensures.heads) (record { head = omega arith; by = refl }))
