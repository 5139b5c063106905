use Rattle.std.proofs.Common.{◌≡◌, length}
use Rattle.hx_filling.specs.References.{first_unknown}
use Rattle.hx_filling.proofs.tables.known_tables.Given as goal

-- the first file that is named nowhere else is among those that are left
abbrev pub invariant-loop-rest : goal.invariant-loop-rest
invariant-loop-rest l = first_unknown l.rest ≡ first_unknown l.specs

abbrev pub decreases-loop-rest : goal.decreases-loop-rest
decreases-loop-rest l = length l.rest
