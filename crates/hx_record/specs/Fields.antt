-- What a reader's fields stand for.
use Rattle.std.specs.Prelude.{◌-◌, ◌≤◌, take}
use Rattle.hx_record.specs.State.{State}
use Rattle.hx_record.specs.declared.reader.Reader.TheInside.{Inside}
use Rattle.hx_record.specs.PieceView.{IsWait}

abbrev pub state_of : Inside → State
state_of r = record { limit = r.limit; at = r.at; pending = r.window.bytes; ended = r.ended }

-- What is known of the pending bytes under the limit is so, and no more bytes were passed than the
-- limit allows.
pub record IsReader (r : Inside) : Type 0 where
  pub wait : IsWait (take (r.limit - r.at) r.window.bytes) r.wait
  pub within : r.at ≤ r.limit
