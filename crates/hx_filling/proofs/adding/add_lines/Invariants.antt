use Rattle.std.proofs.Common.{◌++◌, length}
use Rattle.std.specs.Prelude.{filter_map}
use Rattle.hx_base.specs.Bytes.{ascii}
use Rattle.hx_text.specs.Cut.{pieces}
use Rattle.hx_refs.specs.FileLines.{line_pair, text_pairs}
use Rattle.hx_filling.specs.Adding.{AddsRest, IsUncounted}
use Rattle.hx_filling.proofs.adding.add_lines.Given as goal

abbrev pub invariant-loop-line : goal.invariant-loop-line
invariant-loop-line g l = record {
  rest : AddsRest l.r (text_pairs l.two_column l.text)
      (l.pairs ++ filter_map (line_pair l.two_column) (pieces (ascii "\n") l.rest))
      l.fn.refs.content l.refs.content;
  uncounted : IsUncounted (g.M.ReMaker.state l.fn.maker) (g.M.ReMaker.state l.maker);
}

abbrev pub decreases-loop-line : goal.decreases-loop-line
decreases-loop-line g l = length (pieces (ascii "\n") l.rest)
