use Rattle.std.proofs.Common.{sym}
use Rattle.hx_text.proofs.AddressLemmas.{last_cut_of_at_offset, last_cut_of_nowhere}
use Rattle.hx_text.proofs.cut.cut_after_last.Goals as goal

pub returns-in-Some : goal.returns-in-Some
returns-in-Some c =
    let found_at = c.in-Some.ensures in
    rw (
      c.split_at.ensures.front,
      c.split_at.ensures.back,
    ) (sym
    (last_cut_of_at_offset c.args.byte c.in-Some.at c.args.text.now found_at.0.high
    found_at.0.after found_at.1))

pub returns-in-None : goal.returns-in-None
returns-in-None c = sym (last_cut_of_nowhere c.args.byte c.args.text.now c.in-None.ensures)
