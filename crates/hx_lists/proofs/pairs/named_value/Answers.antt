use Rattle.std.proofs.Common.{sym}
use Rattle.std.proofs.lemmas.List.{take_rest}
use Rattle.memchr.specs.Find.{is_byte}
use Rattle.hx_lists.proofs.CutLemmas.{before_first-at, after_first-at, list_any-none}
use Rattle.hx_lists.proofs.pairs.named_value.Goals as goal

pub returns-in-Some-clause-parts : goal.returns-in-Some-clause-parts
returns-in-Some-clause-parts c =
    let before = before_first-at (is_byte 61) c.args.piece.now c.in-Some.at c.in-Some.ensures in
    let after = after_first-at (is_byte 61) c.args.piece.now c.in-Some.at c.in-Some.ensures in
    rw (before, after, take_rest)

pub returns-in-None-clause-named : goal.returns-in-None-clause-named
returns-in-None-clause-named c = sym (list_any-none (is_byte 61) c.args.piece.now c.in-None.ensures)
