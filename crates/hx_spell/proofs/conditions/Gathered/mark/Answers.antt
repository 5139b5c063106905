use Rattle.hx_spell.proofs.ConditionStepLemmas.{marks_more}
use Rattle.hx_spell.proofs.conditions.Gathered.mark.Goals as goal

pub returns : goal.returns
returns c =
    let terms = c.args.self.now in
    marks_more terms.before terms.conj terms.marked terms.negated c.args.count
