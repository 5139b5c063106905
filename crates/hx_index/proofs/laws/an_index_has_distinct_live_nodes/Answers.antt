use Rattle.hx_index.proofs.HoldingLemmas.{free_off, holds_live}
use Rattle.hx_index.proofs.laws.an_index_has_distinct_live_nodes.Goals as goal

pub returns-clause-live : goal.returns-clause-live
returns-clause-live c nodes index items id h there = holds_live nodes index items id h there

pub returns-clause-off : goal.returns-clause-off
returns-clause-off c nodes index items id h free there =
    free_off nodes index items id h free there
