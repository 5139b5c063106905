use Rattle.std.proofs.Common.{◌≡◌, ◌++◌, length}
use Rattle.hx_config.specs.Frontends.{frontends_text}
use Rattle.hx_config.proofs.frontends.frontends.Given as goal

abbrev pub invariant-loop-rest : goal.invariant-loop-rest
invariant-loop-rest l = l.text.items ++ frontends_text l.rest ≡ frontends_text l.lines

abbrev pub decreases-loop-rest : goal.decreases-loop-rest
decreases-loop-rest l = length l.rest
