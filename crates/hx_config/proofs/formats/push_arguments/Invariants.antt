use Rattle.std.proofs.Common.{◌≡◌, ◌++◌, length}
use Rattle.hx_config.specs.Formats.{arguments_said}
use Rattle.hx_config.specs.FormatView.{known_view}
use Rattle.hx_config.proofs.formats.push_arguments.Given as goal

abbrev pub invariant-loop-letters_left : goal.invariant-loop-letters_left
invariant-loop-letters_left l =
    l.out.items ++ arguments_said (known_view l.known) l.letters_left l.rest
    ≡ l.fn.out.items ++ arguments_said (known_view l.known) l.letters l.words

abbrev pub decreases-loop-letters_left : goal.decreases-loop-letters_left
decreases-loop-letters_left l = length l.letters_left
