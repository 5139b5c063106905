-- One event of a record: whether it may stand where it stands, its answer, and the world after it.
use Rattle.std.specs.Prelude.{⊤, ℕ, ◌+◌, ◌-◌, ◌^◌, min, Bool, true, false, List, [], ◌++◌, codes, Option, None, Some, Result, Err, if◌then◌else◌}
use Rattle.std.specs.FinMap as map
use Rattle.std.specs.Fmt.{decimal}
use Rattle.std.specs.Option.{option_map_or}
use Rattle.hx_cli.specs.Payloads.{line_effect, LineAsksFor}
use Rattle.hx_fetch.specs.declared.Conn.{Conn as Connection}
use Rattle.hx_http.specs.Head.{Head, head_of, many, message, none}
use Rattle.hx_http.specs.Parts.{Parts}
use Rattle.hx_outside.specs.Makers.{CountsLarge, ExpressionText, MakerState}
use Rattle.hx_record.specs.declared.Event.{Event}
use Rattle.hx_record.specs.declared.Event.TheVariants.{Conn, Req, Close, Cli}
use Rattle.hx_refs.specs.References.{References}
use Rattle.hx_rules.specs.Failures.{RulesAskFor}
use Rattle.hx_rules.specs.Verdicts.{evaluation, Evaluation, start}
use Rattle.hx_sample.specs.Vars.{after_request, after_session}
use Rattle.hx_core.specs.Answers.{reply_text, verdict_text}
use Rattle.hx_core.specs.World.{refs_view, World}
use Rattle.hx_core.specs.declared.fault.StepFault.{StepFault}
use Rattle.hx_core.specs.declared.fault.StepFault.TheVariants.{UnknownConn, ConnOpen, TooLarge}

-- ---- events that may not stand where they stand

abbrev pub is_open : World → ℕ → Bool
is_open world id = map.contains_key world.connections id

-- a request or an end of a connection that isn't open, and the opening of one that is
abbrev pub refusal_of : World → Event → Option StepFault
refusal_of world (Conn id _ _ _ _) = if is_open world id then Some ConnOpen else None
refusal_of world (Req id bytes) = if is_open world id then None else Some UnknownConn
refusal_of world (Close id) = if is_open world id then None else Some UnknownConn
refusal_of world (Cli session text) = None

-- ---- requests

-- the number of a request, after so many; it stays at the greatest number of 64 bits
abbrev pub next_number : ℕ → ℕ
next_number requests = min (requests + 1) (2 ^ 64 - 1)

-- what the rules make of a request with this head, by this connection
abbrev pub request_evaluation : World → Connection → Parts → Evaluation References
request_evaluation world conn head =
    evaluation refs_view conn world.rules (start head world.vars world.refs)

abbrev pub after_number : World → World
after_number world = record world { requests = next_number world.requests }

-- The world after a request: the variables of the request end with it. The rules aren't asked where
-- its bytes begin with no head.
abbrev pub after_head : World → Connection → Head → World
after_head world conn (message head len) =
    let state = (request_evaluation world conn head).state in
    record (after_number world) { vars = after_request state.vars; refs = state.tables }
after_head world conn _ = after_number world

-- the lines that answer a request
abbrev pub head_answer : World → Connection → Head → List ℕ
head_answer world conn (message head len) =
    let made = request_evaluation world conn head in
    decimal (next_number world.requests) ++ verdict_text made.verdict head made.state.message
head_answer world conn _ = decimal (next_number world.requests) ++ codes " bad 400\n"

-- a rule asks for this expression where it is evaluated on a request with this head
abbrev pub HeadAsksFor : World → Connection → Head → ExpressionText → Type 0
HeadAsksFor world conn (message head len) text =
    RulesAskFor refs_view conn world.rules (start head world.vars world.refs) text
HeadAsksFor world conn many text = ⊥
HeadAsksFor world conn none text = ⊥

abbrev pub RequestAsksFor : World → Option Connection → List ℕ → ExpressionText → Type 0
RequestAsksFor world None bytes text = ⊥
RequestAsksFor world (Some conn) bytes text = HeadAsksFor world conn (head_of bytes) text

-- ---- events

abbrev pub world_after : World → Event → World
world_after world (Conn id src src_port dst dst_port) =
    let conn : Connection =
    record { id = id; src = src; src_port = src_port; dst = dst; dst_port = dst_port } in
    record world { connections = map.insert world.connections id conn }
world_after world (Req id bytes) =
    option_map_or (λ conn. after_head world conn (head_of bytes)) (map.get world.connections id)
    (after_number world)
world_after world (Close id) =
    let connections = map.remove world.connections id in
    record world { connections = connections; vars = after_session world.vars id }
world_after world (Cli session text) =
    let effect = line_effect session text world.payloads world.refs in
    record world { refs = effect.refs; payloads = effect.payloads }

-- the answer to an event: the lines of a request, and those of a reply; to any other nothing
abbrev pub answer_of : World → Event → List ℕ
answer_of world (Req id bytes) =
    option_map_or (λ conn. head_answer world conn (head_of bytes)) (map.get world.connections id) []
answer_of world (Cli session text) =
    option_map_or (reply_text session) (line_effect session text world.payloads world.refs).reply []
answer_of world _ = []

-- an event reads a key as this expression
abbrev pub EventAsksFor : World → Event → ExpressionText → Type 0
EventAsksFor world (Conn id src src_port dst dst_port) text = ⊥
EventAsksFor world (Req id bytes) text =
    RequestAsksFor world (map.get world.connections id) bytes text
EventAsksFor world (Close id) text = ⊥
EventAsksFor world (Cli session line) text =
    LineAsksFor session line world.payloads world.refs text

-- the event opens a connection, or closes one
abbrev pub OpensOrCloses : Event → Type 0
OpensOrCloses (Conn id src src_port dst dst_port) = ⊤
OpensOrCloses (Req id bytes) = ⊥
OpensOrCloses (Close id) = ⊤
OpensOrCloses (Cli session text) = ⊥

-- ---- faults

-- the fault tells that the event may not stand where it stands
abbrev pub IsRefusal : StepFault → Type 0
IsRefusal UnknownConn = ⊤
IsRefusal ConnOpen = ⊤
IsRefusal _ = ⊥

-- what a maker of regular expressions knows before and after a step that asks for such texts
abbrev pub StepCountsLarge : {T : Type 0} → Result T StepFault → (ExpressionText → Type 0)
    → MakerState → MakerState → Type 0
StepCountsLarge (Err TooLarge) Asked before now = CountsLarge true Asked before now
StepCountsLarge _ Asked before now = CountsLarge false Asked before now
