use Rattle.hx_text.proofs.AddressLemmas.{pieces_at_offset, cut_nowhere, cut_of_at_offset, cut_of_nowhere}
use Rattle.std.proofs.Common.{sym}
use Rattle.hx_text.proofs.cut.cut_at.Goals as goal

pub returns-in-Some-clause-value : goal.returns-in-Some-clause-value
returns-in-Some-clause-value c =
    let found_at = c.in-Some.ensures in
    rw (
      c.split_at.ensures.front,
      c.split_at-in-Some.ensures.back,
      c.split_at.ensures.back,
    ) (sym
    (cut_of_at_offset c.args.byte c.in-Some.at c.args.text.now found_at.0.high found_at.0.before
    found_at.1))

pub returns-in-Some-clause-cut : goal.returns-in-Some-clause-cut
returns-in-Some-clause-cut c =
    let found_at = c.in-Some.ensures in
    rw (
      c.split_at.ensures.front,
      c.split_at-in-Some.ensures.back,
      c.split_at.ensures.back,
    ) (pieces_at_offset c.args.byte c.in-Some.at c.args.text.now
    found_at.0.high found_at.0.before found_at.1)

pub returns-in-None-clause-value : goal.returns-in-None-clause-value
returns-in-None-clause-value c = sym (cut_of_nowhere c.args.byte c.args.text.now c.in-None.ensures)

pub returns-in-None-clause-whole : goal.returns-in-None-clause-whole
returns-in-None-clause-whole c = cut_nowhere c.args.byte c.args.text.now c.in-None.ensures
