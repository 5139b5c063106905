use Rattle.std.proofs.Common.{◌≡◌, length}
use Rattle.hx_config.specs.Accounts.{userlist_of}
use Rattle.hx_config.proofs.accounts.userlist_of.Given as goal

abbrev pub invariant-loop-rest : goal.invariant-loop-rest
invariant-loop-rest l = userlist_of l.name l.rest ≡ userlist_of l.name l.lines

abbrev pub decreases-loop-rest : goal.decreases-loop-rest
decreases-loop-rest l = length l.rest
