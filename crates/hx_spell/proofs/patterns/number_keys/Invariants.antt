use Rattle.std.proofs.Common.{◌≡◌, length}
use Rattle.hx_spell.specs.PatternView.{key_after}
use Rattle.hx_spell.specs.Patterns.{equal, number_keys}
use Rattle.hx_spell.proofs.KeyLemmas.{longer_keys}
use Rattle.hx_spell.proofs.patterns.number_keys.Given as goal

abbrev pub invariant-loop-left : goal.invariant-loop-left
invariant-loop-left l =
    number_keys equal l.words ≡ longer_keys l.keys (number_keys (key_after l.operator) l.left)

abbrev pub decreases-loop-left : goal.decreases-loop-left
decreases-loop-left l = length l.left
