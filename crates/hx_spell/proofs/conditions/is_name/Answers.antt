use Rattle.std.proofs.Common.{sym}
use Rattle.hx_spell.proofs.ConditionStepLemmas.{name_of_some}
use Rattle.hx_spell.proofs.conditions.is_name.Goals as goal

pub returns-then-not-is_empty : goal.returns-then-not-is_empty
returns-then-not-is_empty c =
    name_of_some c.args.word.now c.are_name_bytes.result (sym c.if-not-is_empty.ensures) c.are_name_bytes.ensures
