use Rattle.std.proofs.Common.{◌≡◌, length}
use Rattle.std.specs.List.{list_any}
use Rattle.hx_config.specs.Accounts.{is_member}
use Rattle.hx_config.proofs.accounts.is_in_one.Given as goal

abbrev pub invariant-loop-rest : goal.invariant-loop-rest
invariant-loop-rest l =
    list_any (λ group. is_member l.section l.lines l.user group) l.rest
    ≡ list_any (λ group. is_member l.section l.lines l.user group) l.groups

abbrev pub decreases-loop-rest : goal.decreases-loop-rest
decreases-loop-rest l = length l.rest
