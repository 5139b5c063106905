use Rattle.std.proofs.Common.{◌≡◌, ◌+◌, ◌≤◌, ◌++◌, length}
use Rattle.std.specs.Option.{option_copied}
use Rattle.hx_base.specs.Pairs.{pairs_of}
use Rattle.hx_lint.specs.Texts.{size_left, texts_left}
use Rattle.hx_config.specs.Lines.{lines_from, lines_of}
use Rattle.hx_config.proofs.lines.lines_of.Given as goal

abbrev pub invariant-lines : goal.invariant-lines
invariant-lines l = record {
  read : l.lines.items ++ lines_from (pairs_of l.env) (l.number + 1) l.section (texts_left (option_copied l.rest))
      ≡ lines_of (pairs_of l.env) l.file;
  counted : l.number + size_left (option_copied l.rest) ≤ length l.file + 1;
}

abbrev pub decreases-lines : goal.decreases-lines
decreases-lines l = size_left (option_copied l.rest)
