use Rattle.std.proofs.Common.{◌≡◌, ◌++◌, ◌-◌, drop, length}
use Rattle.hx_conv_text.specs.Captured.{captured}
use Rattle.hx_conv_text.specs.Substitution.{expansion}
use Rattle.hx_conv_text.proofs.substitution.append_expansion.Given as goal

abbrev pub invariant-loop-at : goal.invariant-loop-at
invariant-loop-at l =
    l.made.items ++ expansion (captured l.captures) (drop l.at l.sub)
    ≡ l.fn.made.items ++ expansion (captured l.captures) l.sub

abbrev pub decreases-loop-at : goal.decreases-loop-at
decreases-loop-at l = length l.sub - l.at
