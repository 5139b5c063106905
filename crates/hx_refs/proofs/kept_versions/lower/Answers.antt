use Rattle.hx_versions.specs.Rows.{row_at}
use Rattle.hx_refs.proofs.FilledLemmas.{row_itself}
use Rattle.hx_refs.proofs.LoweredLemmas.{lowered_by_none}
use Rattle.hx_refs.proofs.kept_versions.lower.Goals as goal

pub returns-else-by-gt0-clause-lowered : goal.returns-else-by-gt0-clause-lowered
returns-else-by-gt0-clause-lowered c =
    lowered_by_none c.args.by (row_at c.args.store.now c.args.r) c.if-by-gt0.false

pub returns-else-by-gt0-clause-others : goal.returns-else-by-gt0-clause-others
returns-else-by-gt0-clause-others c = row_itself c.args.store.now.rows c.args.r c.requires.row
