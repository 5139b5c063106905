use Rattle.hx_core.proofs.HeadTextLemmas.{marked_lines}
use Rattle.hx_core.proofs.verdicts.append_head.Goals as goal

pub returns : goal.returns
returns c =
    rw (c.in_ok-extend_from_slice-2.ensures.items, c.in_ok-append_lines.ensures, c.in_ok-extend_from_slice.ensures.items)
    (marked_lines c.args.bytes.now.items c.args.head.now)
