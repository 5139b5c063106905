use Rattle.hx_record.proofs.FindLemmas.{none_from}
use Rattle.hx_record.proofs.find.first_at.Goals as goal

pub returns-in-None-clause-value : goal.returns-in-None-clause-value
returns-in-None-clause-value c =
    none_from c.args.byte c.args.bytes.now c.args.from c.requires (rw (← c.split_at.ensures.back) c.in-None.ensures)
