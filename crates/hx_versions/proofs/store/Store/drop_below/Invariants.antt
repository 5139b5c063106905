use Rattle.std.proofs.Common.{length}
use Rattle.hx_versions.specs.Rows.{row_at}
use Rattle.hx_versions.proofs.DropLoopLemmas.{HasDropped}
use Rattle.hx_versions.proofs.store.Store.drop_below.Given as goal

abbrev pub invariant-loop : goal.invariant-loop
invariant-loop g l = HasDropped l.number l.r l.fn.self l.self l.fn.steps l.steps

abbrev pub decreases-loop : goal.decreases-loop
decreases-loop g l = length (row_at l.self l.r)
