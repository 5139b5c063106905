-- What the parts of a step do.
use Rattle.std.specs.Prelude.{◌≡◌, List, ℕ, None, Some, Result, Ok, Err}
use Rattle.hx_fetch.specs.declared.Conn.{Conn}
use Rattle.hx_http.specs.Parts.{Parts}
use Rattle.hx_record.specs.declared.Event.{Event}
use Rattle.hx_refs.specs.declared.Slots.{Slots}
use Rattle.hx_sample.specs.Vars.{after_request}
use Rattle.hx_core.specs.Steps.{after_number, refusal_of, request_evaluation, world_after}
use Rattle.hx_core.specs.Telling.{Telling, told_answer}
use Rattle.hx_core.specs.World.{World}
use Rattle.hx_core.specs.declared.fault.StepFault.{StepFault}
use Rattle.hx_core.specs.declared.fault.StepFault.TheVariants.{UnknownConn, ConnOpen, TooLarge, NoMemory}

-- a world, and the slots of memory in which its references are kept
pub record WorldState : Type 0 where
  pub world : World
  pub slots : Slots

-- the world after a request with this head
abbrev pub after_parts : World → Conn → Parts → World
after_parts world conn head =
    let state = (request_evaluation world conn head).state in
    record (after_number world) { vars = after_request state.vars; refs = state.tables }

-- The world goes on, and the event is answered, with what is told of it. One that may not stand where it stands changes
-- nothing. Where memory runs out, or an expression is too large, it may stand there.
abbrev pub DoesStep : Telling → (before after : WorldState) → Event → Result (List ℕ) StepFault
    → Type 0
DoesStep telling before after event (Ok text) =
    (refusal_of before.world event ≡ None) × (after.world ≡ world_after before.world event)
    × (text ≡ told_answer telling before.world event)
DoesStep telling before after event (Err UnknownConn) =
    (refusal_of before.world event ≡ Some UnknownConn) × (after ≡ before)
DoesStep telling before after event (Err ConnOpen) =
    (refusal_of before.world event ≡ Some ConnOpen) × (after ≡ before)
DoesStep telling before after event (Err TooLarge) = refusal_of before.world event ≡ None
DoesStep telling before after event (Err NoMemory) = refusal_of before.world event ≡ None
