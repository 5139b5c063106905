use Rattle.std.proofs.Common.{◌≡◌, length}
use Rattle.hx_config.specs.Accounts.{are_plain}
use Rattle.hx_config.proofs.accounts.are_plain.Given as goal

abbrev pub invariant-loop-rest : goal.invariant-loop-rest
invariant-loop-rest l = are_plain l.section l.rest ≡ are_plain l.section l.lines

abbrev pub decreases-loop-rest : goal.decreases-loop-rest
decreases-loop-rest l = length l.rest
