use Rattle.std.proofs.Common.{refl, ap, arith, ◌∙◌, ◌≡◌, ◌+◌, ℕ, List, Option, Bor}
use Rattle.std.specs.Option.{option_copied}
use Rattle.hx_base.specs.Pairs.{pairs_of}
use Rattle.hx_calls.specs.Known.{nothing_known}
use Rattle.hx_load.specs.Configuration.{lines_left, size_left}
use Rattle.hx_load.proofs.LineHeadLemmas.{names_none}
use Rattle.hx_load.proofs.LineLemmas.{large_on_line, read_all, read_more, read_none, read_refused}
use Rattle.hx_load.proofs.lines.read_lines.Goals as goal

-- ---- before the first line

pub lines-init : goal.lines-init
lines-init g c =
    let none = c.new-program.ensures in
    record {
      has = rw (c.in-Ok.ensures.ok, none)
          (read_none (pairs_of c.args.env.now) c.args.config.now);
      counted = omega arith;
      names = rw (c.in-Ok.ensures.ok, none) (names_none nothing_known.heads 0);
      too_large = refl;
      large = refl;
    }

-- ---- the next line has a fault

pub returns-in-Err-Refused-clause-refused : goal.returns-in-Err-Refused-clause-refused
returns-in-Err-Refused-clause-refused g c = λ line code is.
    let l = c.lines in
    let left = ap (λ (o : Option (Bor (List ℕ))). lines_left (option_copied o)) c.in-Some.is
    ∙ c.first_line.ensures.lines in
    let (says, small) = rw c.in-Err-Refused.field-0-is at c.in-Err-Refused.ensures.read in
    let number : l.number + 1 ≡ line = cc (is) in
    let coded : c.in-Err-Refused.code ≡ code = cc (is, c.in-Err-Refused.code-is) in
    rw (← number, ← coded)
    (read_refused (pairs_of c.args.env.now) c.args.config.now l.number l.speller l.program (lines_left (option_copied l.rest)) c.first_line.result.0.now
    (lines_left (option_copied c.first_line.result.1)) c.in-Err-Refused.code l.invariant.has left
    says)

pub returns-in-Err-Refused-clause-uncounted : goal.returns-in-Err-Refused-clause-uncounted
returns-in-Err-Refused-clause-uncounted g c = λ no.
    let i = c.lines.invariant in
    let (says, small) = rw c.in-Err-Refused.field-0-is at c.in-Err-Refused.ensures.read in
    (small.count ∙ i.too_large, small.last ∙ i.large)

pub returns-in-Err-TooLarge-clause-too_large : goal.returns-in-Err-TooLarge-clause-too_large
returns-in-Err-TooLarge-clause-too_large g c = λ is.
    let l = c.lines in
    let left = ap (λ (o : Option (Bor (List ℕ))). lines_left (option_copied o)) c.in-Some.is
    ∙ c.first_line.ensures.lines in
    let (rose, reads) = rw c.in-Err-TooLarge.field-0-is at c.in-Err-TooLarge.ensures.read in (
      rw l.invariant.too_large at rose,
      large_on_line (pairs_of c.args.env.now) c.args.config.now l.number l.speller
          l.program (lines_left (option_copied l.rest))
          c.first_line.result.0.now (lines_left (option_copied c.first_line.result.1))
          (g.M.ReMaker.state c.read_line.new.maker).large l.invariant.has left reads,
    )

pub returns-in-Err-NoMemory-clause-uncounted : goal.returns-in-Err-NoMemory-clause-uncounted
returns-in-Err-NoMemory-clause-uncounted g c = λ no.
    let i = c.lines.invariant in
    let small = rw c.in-Err-NoMemory.field-0-is at c.in-Err-NoMemory.ensures.read in
    (small.count ∙ i.too_large, small.last ∙ i.large)

-- ---- the next line is read

pub lines-preserved : goal.lines-preserved
lines-preserved g c =
    let l = c.lines in
    let left = ap (λ (o : Option (Bor (List ℕ))). lines_left (option_copied o)) c.in-Some.is
    ∙ c.first_line.ensures.lines in
    let size = ap (λ (o : Option (Bor (List ℕ))). size_left (option_copied o)) c.in-Some.is in
    let small = c.in-Ok-read_line.ensures.read in
    record {
      has = read_more (pairs_of c.args.env.now) c.args.config.now l.number l.speller
          c.read_line.new.speller l.program c.read_line.new.program (lines_left (option_copied l.rest))
          c.first_line.result.0.now (lines_left (option_copied c.first_line.result.1))
          l.invariant.has left c.in-Ok-read_line.ensures.ok;
      counted = omega (arith, l.invariant.counted, size, c.first_line.ensures.shorter);
      names = c.in-Ok-read_line.ensures.names l.invariant.names;
      too_large = small.count ∙ l.invariant.too_large;
      large = small.last ∙ l.invariant.large;
    }

-- ---- after the last line

pub returns-clause-accepted : goal.returns-clause-accepted
returns-clause-accepted g c =
    let l = c.lines in
    read_all (pairs_of c.args.env.now) c.args.config.now l.number l.speller l.program (lines_left (option_copied l.rest)) l.invariant.has
    (rw c.in_default-rest.is refl)

pub returns-clause-names : goal.returns-clause-names
returns-clause-names g c = c.lines.invariant.names

pub returns-clause-uncounted : goal.returns-clause-uncounted
returns-clause-uncounted g c = λ no. (c.lines.invariant.too_large, c.lines.invariant.large)
