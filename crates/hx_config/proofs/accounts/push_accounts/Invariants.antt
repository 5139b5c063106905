use Rattle.std.proofs.Common.{◌≡◌, ◌++◌, length}
use Rattle.hx_config.specs.Accounts.{accounts_in}
use Rattle.hx_config.proofs.accounts.push_accounts.Given as goal

abbrev pub invariant-loop-rest : goal.invariant-loop-rest
invariant-loop-rest l =
    l.out.items ++ accounts_in l.section l.lines l.groups l.rest
    ≡ l.fn.out.items ++ accounts_in l.section l.lines l.groups l.lines

abbrev pub decreases-loop-rest : goal.decreases-loop-rest
decreases-loop-rest l = length l.rest
