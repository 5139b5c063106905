use Rattle.std.proofs.Common.{◌-◌}
use Rattle.hx_record.proofs.WaitLemmas.{wait_more}
use Rattle.hx_record.proofs.reader.Reader.fill.Goals as goal

pub invariant_of-self-else-count-eq0 : goal.invariant_of-self-else-count-eq0
invariant_of-self-else-count-eq0 g c =
    let took = c.in_ok-count.ensures.ok in
    let same = c.reserve.ensures.bytes in
    record {
      wait = rw (took.bytes, same) (wait_more (c.self.inside.limit - c.self.inside.at) c.self.inside.window.bytes took.got c.self.inside.wait c.self.invariant.wait);
      within = c.self.invariant.within;
    }
