use Rattle.std.proofs.Common.{◌≤◌, ◌-◌, ◌++◌, ◌∙◌, ap, length, take, drop, arith, length-take-le, length-drop}
use Rattle.hx_record.specs.Room.{BytesWithRoom}
use Rattle.hx_record.proofs.WindowLemmas.{grown}
use Rattle.hx_record.proofs.window.Window.read.Goals as goal

pub returns-clause-ok : goal.returns-clause-ok
returns-clause-ok g c =
    let read = c.in_ok-count.ensures in
    let count = c.in_ok-count.count in
    let end = c.self.inside.end in
    let rest = drop end c.read_after.new.buf.items in
    let size = length-drop end c.read_after.new.buf.items in
    let room : 4096 ≤ length c.self.inside.buf.items - end = rw (← c.self.view_is) at c.requires in
    record {
      got = take count rest;
      consumed = read.bytes.0;
      logged = read.log;
      bytes = grown c.self.inside.buf.items c.read_after.new.buf.items c.self.inside.start end count c.self.invariant.order read.within read.prefix ∙ ap (λ (held : BytesWithRoom). held.bytes ++ take count rest) c.self.view_is;
      size = length-take-le count rest (omega (arith, read.within, read.len));
      end = λ none. read.bytes.1 none (omega (arith, read.len));
    }
