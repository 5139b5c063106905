use Rattle.hx_refs.proofs.TableLemmas.{addition_counts}
use Rattle.hx_refs.proofs.refs.Refs.append_pair.Goals as goal

pub returns-clause-large : goal.returns-clause-large
returns-clause-large g c =
    rw c.table_answer.ensures
    (addition_counts c.add-answer.result c.args.self.now.content c.args.r (record { key = c.args.key.now; value = c.args.value.now })
    _ _ c.requires c.add-answer.ensures.large)
