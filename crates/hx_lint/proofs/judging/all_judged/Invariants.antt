use Rattle.std.proofs.Common.{◌≡◌, ◌≤◌, ◌+◌, length}
use Rattle.std.specs.Option.{option_copied}
use Rattle.hx_base.specs.Pairs.{pairs_of}
use Rattle.hx_calls.specs.Known.{nothing_known, reading}
use Rattle.hx_lint.specs.Judging.{all_judged, judged_from, known_after}
use Rattle.hx_lint.specs.Texts.{size_left, texts_left}
use Rattle.hx_lint.proofs.judging.all_judged.Given as goal

-- the lines that are left, after those that are read, are all lines; and what is known is what those
-- bring that are read
abbrev pub invariant-lines : goal.invariant-lines
invariant-lines l = record {
  lines : judged_from (pairs_of l.env) (l.number + 1) (texts_left (option_copied l.rest)) (reading l.lines.items l.speller)
      ≡ all_judged (pairs_of l.env) l.config;
  counted : l.number + size_left (option_copied l.rest) ≤ length l.config + 1;
  known : l.speller ≡ known_after l.lines.items nothing_known;
}

abbrev pub decreases-lines : goal.decreases-lines
decreases-lines l = size_left (option_copied l.rest)
