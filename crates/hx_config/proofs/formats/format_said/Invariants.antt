use Rattle.std.proofs.Common.{◌≡◌, ◌++◌, length}
use Rattle.hx_config.specs.Formats.{format_from, format_said}
use Rattle.hx_config.specs.FormatView.{known_view}
use Rattle.hx_config.proofs.formats.format_said.Given as goal

abbrev pub invariant-loop-rest : goal.invariant-loop-rest
invariant-loop-rest l =
    l.out.items ++ format_from (known_view l.known) l.skip l.rest
    ≡ format_said (known_view l.known) l.text

abbrev pub decreases-loop-rest : goal.decreases-loop-rest
decreases-loop-rest l = length l.rest
