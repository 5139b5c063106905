use Rattle.std.proofs.Common.{◌≡◌, length}
use Rattle.hx_filling.specs.Declaring.{HasRoomForAll}
use Rattle.hx_filling.specs.References.{with_tables}
use Rattle.hx_filling.proofs.tables.declare_tables.Given as goal

abbrev pub invariant-loop-rest : goal.invariant-loop-rest
invariant-loop-rest l = record {
  room : HasRoomForAll l.left l.rest l.refs.content;
  declared : with_tables l.left l.rest l.refs.content ≡ with_tables l.numbers l.specs l.fn.refs.content;
}

abbrev pub decreases-loop-rest : goal.decreases-loop-rest
decreases-loop-rest l = length l.rest
