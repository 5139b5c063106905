use Rattle.std.specs.Prelude.{◌≡◌, map, take}
use Rattle.hx_trace.specs.Why.{reason_of}
use Rattle.hx_trace.proofs.why.reasons_of.Given as goal

abbrev pub invariant-loop-ground : goal.invariant-loop-ground
invariant-loop-ground l =
    l.reasons.items ≡ map (reason_of l.numbers) (take l.ground-index l.grounds)
