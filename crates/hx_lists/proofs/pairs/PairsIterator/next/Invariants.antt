use Rattle.std.proofs.Common.{◌≡◌, ◌+◌, [], length}
use Rattle.std.specs.Option.{option_copied, option_map_or}
use Rattle.memchr.specs.Find.{is_byte3}
use Rattle.hx_lists.specs.NamedValues.{named_values}
use Rattle.hx_lists.proofs.pairs.PairsIterator.next.Given as goal

abbrev pub invariant-loop-self : goal.invariant-loop-self
invariant-loop-self l =
    (l.self-inside.separators ≡ l.initial.self-inside.separators)
    × (option_map_or (named_values (is_byte3 l.self-inside.separators.0 l.self-inside.separators.1 l.self-inside.separators.2)) (option_copied l.self-inside.rest) [] ≡ l.fn.self)

abbrev pub decreases-loop-self : goal.decreases-loop-self
decreases-loop-self l = option_map_or (λ text. length text + 1) (option_copied l.self-inside.rest) 0
