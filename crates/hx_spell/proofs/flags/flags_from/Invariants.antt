use Rattle.std.proofs.Common.{◌≡◌, None, length}
use Rattle.std.specs.Prelude.{option_map}
use Rattle.hx_spell.specs.FlagView.{flag_of}
use Rattle.hx_spell.specs.Flags.{flags_from, no_flags}
use Rattle.hx_calls.specs.Known.{Extends}
use Rattle.hx_spell.proofs.flags.flags_from.Given as goal

abbrev pub invariant-loop-left : goal.invariant-loop-left
invariant-loop-left l =
    (flags_from l.line None l.words (no_flags l.fn.by) l.fn.known
    ≡ flags_from l.line (option_map flag_of l.awaits) l.left l.flags l.known)
    × Extends l.fn.known l.known

abbrev pub decreases-loop-left : goal.decreases-loop-left
decreases-loop-left l = length l.left
