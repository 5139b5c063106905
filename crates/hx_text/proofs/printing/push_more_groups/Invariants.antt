use Rattle.std.proofs.Common.{◌≡◌, ◌+◌, ◌*◌, ◌≤◌, ◌∷◌, ◌++◌, take, length, flat_map}
use Rattle.std.specs.Net.Text.{hex}
use Rattle.hx_text.proofs.printing.push_more_groups.Given as goal

abbrev pub invariant-loop-group : goal.invariant-loop-group
invariant-loop-group l =
    (l.line.items ≡ l.initial.line.items ++ flat_map (λ g. 58 ∷ hex g)
    (take l.group-index l.groups))
    × (length l.line.items ≤ length l.initial.line.items + 5 * l.group-index)
