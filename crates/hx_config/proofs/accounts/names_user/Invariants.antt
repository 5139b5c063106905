use Rattle.std.proofs.Common.{◌≡◌, length}
use Rattle.hx_config.specs.Accounts.{names_user}
use Rattle.hx_config.proofs.accounts.names_user.Given as goal

abbrev pub invariant-loop-rest : goal.invariant-loop-rest
invariant-loop-rest l = names_user l.section l.name l.rest ≡ names_user l.section l.name l.lines

abbrev pub decreases-loop-rest : goal.decreases-loop-rest
decreases-loop-rest l = length l.rest
