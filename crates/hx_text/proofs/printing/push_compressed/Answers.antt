use Rattle.hx_text.proofs.PrintLemmas.{compressed}
use Rattle.hx_text.proofs.printing.push_compressed.Goals as goal

pub returns-else-len-lt2 : goal.returns-else-len-lt2
returns-else-len-lt2 c =
    let run = c.longest_zero_run-start in
    let text =
    compressed c.args.groups.now run.result run.ensures.value c.if-len-lt2.false
    c.args.line.now.items in
    rw (
      c.push_groups-else-len-lt2-2.ensures.text,
      c.push_all.ensures,
      c.push_groups-else-len-lt2.ensures.text,
      c.split_at.ensures.front,
      c.split_at-else-len-lt2.ensures.back,
    ) text
