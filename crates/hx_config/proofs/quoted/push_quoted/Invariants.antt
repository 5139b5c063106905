use Rattle.std.proofs.Common.{◌≡◌, ◌++◌, codes, flat_map, length}
use Rattle.hx_config.specs.Quoted.{quoted, quoted_byte}
use Rattle.hx_config.proofs.quoted.push_quoted.Given as goal

abbrev pub invariant-loop-rest : goal.invariant-loop-rest
invariant-loop-rest l =
    l.out.items ++ (flat_map quoted_byte l.rest ++ codes "\"") ≡ l.fn.out.items ++ quoted l.text

abbrev pub decreases-loop-rest : goal.decreases-loop-rest
decreases-loop-rest l = length l.rest
