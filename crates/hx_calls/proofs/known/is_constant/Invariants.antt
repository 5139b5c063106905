use Rattle.std.proofs.Common.{◌≡◌, map, length}
use Rattle.std.specs.List.{list_any}
use Rattle.std.specs.Str.{bytes_eq}
use Rattle.hx_calls.proofs.known.is_constant.Given as goal

abbrev pub invariant-loop-names : goal.invariant-loop-names
invariant-loop-names l =
    list_any (bytes_eq l.name) (map (λ other. other.now) l.names)
    ≡ list_any (bytes_eq l.name) (map (λ other. other.now) l.fn.names)

abbrev pub decreases-loop-names : goal.decreases-loop-names
decreases-loop-names l = length l.names
