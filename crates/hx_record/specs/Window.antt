-- The bytes that a buffer holds for a reader.
use Rattle.std.specs.Prelude.{◌-◌, ◌≤◌, length, take, drop}
use Rattle.hx_record.specs.Room.{BytesWithRoom}
use Rattle.hx_record.specs.declared.window.Window.TheInside.{Inside}

-- the bytes from `start` to `end`, and the room after them
abbrev pub window_bytes : Inside → BytesWithRoom
window_bytes w = record {
  bytes = drop w.start (take w.end w.buf.items);
  room = length w.buf.items - w.end;
}

-- they lie in the buffer
pub record IsWindow (w : Inside) : Type 0 where
  pub order : w.start ≤ w.end
  pub within : w.end ≤ length w.buf.items
