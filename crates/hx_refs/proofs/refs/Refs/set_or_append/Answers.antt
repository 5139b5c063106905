use Rattle.hx_refs.proofs.TableLemmas.{value_answered}
use Rattle.hx_refs.proofs.refs.Refs.set_or_append.Goals as goal

pub returns-clause-ok : goal.returns-clause-ok
returns-clause-ok g c =
    rw c.table_answer.ensures
    (value_answered c.set_key-answer.result c.args.self.now c.set_key-answer.new.self c.args.r c.args.key.now c.args.value.now c.requires.r
    (cc (c.lacks_key.ensures, c.if-lacks_key.false)) c.set_key-answer.ensures.ok c.set_key-answer.ensures.none
    c.set_key-answer.ensures.refused c.set_key-answer.ensures.kept)
