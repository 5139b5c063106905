use Rattle.std.proofs.Common.{◌≡◌, ◌++◌, length}
use Rattle.std.specs.Prelude.{filter_map}
use Rattle.hx_base.specs.Bytes.{ascii}
use Rattle.hx_text.specs.Cut.{pieces}
use Rattle.hx_refs.specs.FileLines.{line_pair, text_pairs}
use Rattle.hx_refs.proofs.pairs.Pairs.of_text.Given as goal

abbrev pub invariant-loop-line : goal.invariant-loop-line
invariant-loop-line l =
    l.pairs ++ filter_map (line_pair l.two_column) (pieces (ascii "\n") l.rest)
    ≡ text_pairs l.two_column l.text

abbrev pub decreases-loop-line : goal.decreases-loop-line
decreases-loop-line l = length (pieces (ascii "\n") l.rest)
