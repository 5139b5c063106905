use Rattle.std.proofs.Common.{◌≡◌, ◌+◌, ◌≤◌, length}
use Rattle.std.specs.Option.{option_copied}
use Rattle.hx_base.specs.Pairs.{pairs_of}
use Rattle.hx_load.specs.Configuration.{lines_left, size_left}
use Rattle.hx_load.specs.LineReading.{HasRead, NamesOnly}
use Rattle.hx_load.proofs.lines.read_lines.Given as goal

abbrev pub invariant-lines : goal.invariant-lines
invariant-lines g l = record {
  has : HasRead (pairs_of l.env) l.config l.number l.speller l.program
      (lines_left (option_copied l.rest));
  counted : l.number + size_left (option_copied l.rest) ≤ length l.config + 1;
  names : NamesOnly l.speller.heads (length l.speller.references) l.program;
  too_large : (g.M.ReMaker.state l.maker).too_large ≡ (g.M.ReMaker.state l.fn.maker).too_large;
  large : (g.M.ReMaker.state l.maker).large ≡ (g.M.ReMaker.state l.fn.maker).large;
}

abbrev pub decreases-lines : goal.decreases-lines
decreases-lines g l = size_left (option_copied l.rest)
