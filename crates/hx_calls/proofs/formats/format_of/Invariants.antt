use Rattle.std.proofs.Common.{◌≡◌, length}
use Rattle.hx_calls.specs.FormatView.{with_read}
use Rattle.hx_calls.specs.Formats.{format_of}
use Rattle.hx_calls.specs.Known.{Extends}
use Rattle.hx_calls.proofs.formats.format_of.Given as goal

abbrev pub invariant-loop-left : goal.invariant-loop-left
invariant-loop-left l =
    (format_of l.line l.word l.fn.known
    ≡ with_read l.read.parts l.read.text.items (format_of l.line l.left l.known))
    × Extends l.fn.known l.known

abbrev pub decreases-loop-left : goal.decreases-loop-left
decreases-loop-left l = length l.left
