use Rattle.std.proofs.Common.{◌≡◌, length}
use Rattle.std.specs.List.{list_any}
use Rattle.hx_config.specs.Accounts.{lists_user}
use Rattle.hx_config.proofs.accounts.is_listed_below.Given as goal

abbrev pub invariant-loop-rest : goal.invariant-loop-rest
invariant-loop-rest l =
    list_any (λ line. lists_user l.section l.group l.user line) l.rest
    ≡ list_any (λ line. lists_user l.section l.group l.user line) l.lines

abbrev pub decreases-loop-rest : goal.decreases-loop-rest
decreases-loop-rest l = length l.rest
