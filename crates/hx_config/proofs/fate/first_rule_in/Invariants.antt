use Rattle.std.proofs.Common.{◌≡◌, length}
use Rattle.hx_config.specs.Fates.{first_rule_in}
use Rattle.hx_config.proofs.fate.first_rule_in.Given as goal

abbrev pub invariant-loop-rest : goal.invariant-loop-rest
invariant-loop-rest l = first_rule_in l.sections l.changing l.rest ≡ first_rule_in l.sections l.changing l.lines

abbrev pub decreases-loop-rest : goal.decreases-loop-rest
decreases-loop-rest l = length l.rest
