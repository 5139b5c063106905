use Rattle.std.proofs.Common.{◌≡◌, ◌+◌, [], length, map}
use Rattle.std.specs.List.{after_first}
use Rattle.std.specs.Option.{option_copied, option_map_or}
use Rattle.memchr.specs.Find.{is_byte3}
use Rattle.hx_lists.specs.NamedValues.{named_values, is_named, trimmed_pair, value_named}
use Rattle.hx_lists.proofs.pairs.Pairs.next_trimmed.Given as goal

abbrev pub invariant-loop-self : goal.invariant-loop-self
invariant-loop-self l =
    let s = l.self-inside.separators in
    let left = map trimmed_pair (option_map_or (named_values (is_byte3 s.0 s.1 s.2)) (option_copied l.self-inside.rest) []) in
    (s ≡ l.initial.self-inside.separators)
    × (value_named l.name left ≡ value_named l.name (map trimmed_pair l.fn.self))
    × (after_first (is_named l.name) left ≡ after_first (is_named l.name) (map trimmed_pair l.fn.self))

abbrev pub decreases-loop-self : goal.decreases-loop-self
decreases-loop-self l = option_map_or (λ text. length text + 1) (option_copied l.self-inside.rest) 0
