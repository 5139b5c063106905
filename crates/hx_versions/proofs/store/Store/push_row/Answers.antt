use Rattle.std.proofs.Common.{ap, refl}
use Rattle.hx_versions.specs.declared.pools.Row.{Row}
use Rattle.hx_versions.specs.Rows.{StoreView}
use Rattle.hx_versions.proofs.StoreCallLemmas.{pushed_rows, pushed_store}
use Rattle.hx_versions.proofs.store.Store.push_row.Goals as goal

pub invariant_of-self-2 : goal.invariant_of-self-2
invariant_of-self-2 c =
    let s = c.self.inside in
    let row : Row = record { versions = c.new-versions.result; count = 0 } in
    rw (c.in_ok-push.ensures.items) (pushed_store s.pools s.rows.items row s.retired s.waiting s.filled c.self.invariant refl c.new-versions.ensures)

pub returns-clause-ok : goal.returns-clause-ok
returns-clause-ok c =
    let s = c.self.inside in
    let row : Row = record { versions = c.new-versions.result; count = 0 } in
    rw (← c.self.view_is, c.in_ok-push.ensures.items)
    (ap (λ rows. record { rows = rows; waiting = s.waiting }) (pushed_rows s.pools s.rows.items row s.retired s.waiting s.filled c.self.invariant refl c.new-versions.ensures))
