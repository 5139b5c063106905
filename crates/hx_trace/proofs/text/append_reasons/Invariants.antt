use Rattle.std.specs.Prelude.{◌≡◌, ◌++◌, map, take}
use Rattle.std.specs.List.{flat_map}
use Rattle.hx_trace.specs.Why.{head_numbers, reason_of, reason_text}
use Rattle.hx_trace.proofs.text.append_reasons.Given as goal

abbrev pub invariant-loop-ground : goal.invariant-loop-ground
invariant-loop-ground l =
    l.text
    ≡ l.initial.text
    ++ flat_map reason_text
    (map (reason_of (head_numbers l.refs.content)) (take l.ground-index l.grounds))
