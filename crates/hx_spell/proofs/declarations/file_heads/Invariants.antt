use Rattle.std.proofs.Common.{◌≡◌, length}
use Rattle.hx_spell.specs.Declarations.{file_heads}
use Rattle.hx_calls.specs.Known.{Extends}
use Rattle.hx_spell.proofs.KeyLemmas.{longer_heads}
use Rattle.hx_spell.proofs.declarations.file_heads.Given as goal

abbrev pub invariant-loop-left : goal.invariant-loop-left
invariant-loop-left l =
    (file_heads l.fn.way l.files l.fn.known ≡ longer_heads l.heads (file_heads l.way l.left l.known))
    × Extends l.fn.known l.known

abbrev pub decreases-loop-left : goal.decreases-loop-left
decreases-loop-left l = length l.left
