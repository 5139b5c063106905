use Rattle.std.proofs.Common.{sym, ◌∙◌}
use Rattle.hx_text.proofs.PrintLemmas.{mapped_line, other_line}
use Rattle.hx_text.proofs.printing.push_ipv6.Goals as goal

pub returns-then-is_mapped : goal.returns-then-is_mapped
returns-then-is_mapped c =
    let text =
    mapped_line c.args.address c.groups-groups.result c.groups-groups.ensures
    (sym c.is_mapped.ensures ∙ c.if-is_mapped.true) in
    rw (
      c.push_dotted.ensures,
      c.push_all.ensures,
      c.requires,
      c.high.ensures,
      c.low.ensures,
      c.high-then-is_mapped.ensures,
      c.low-then-is_mapped.ensures,
    ) text

pub returns-else-is_mapped : goal.returns-else-is_mapped
returns-else-is_mapped c =
    let text =
    other_line c.args.address c.groups-groups.result c.groups-groups.ensures
    (sym c.is_mapped.ensures ∙ c.if-is_mapped.false) in
    rw (c.push_compressed.ensures, c.requires) text
