-- What a line of a session of the management socket is answered, and what stands after it: entries
-- that are given line by line are added at once, at the end of their payload (HAProxy management
-- guide 2.4, section 9.3, `add map` with `<<`).
use Rattle.std.specs.Prelude.{ℕ, Bool, List, [], ◌++◌, Option, None, Some, option_to_list, if◌then◌else◌}
use Rattle.std.specs.FinMap as finite
use Rattle.std.specs.List.{list_all}
use Rattle.std.specs.Option.{option_map_or}
use Rattle.std.specs.Ordering.{nat_cmp}
use Rattle.hx_base.specs.Bytes.{is_blank}
use Rattle.hx_outside.specs.Makers.{ExpressionText}
use Rattle.hx_refs.specs.Additions.{Pair}
use Rattle.hx_refs.specs.FileLines.{line_pair}
use Rattle.hx_refs.specs.References.{References}
use Rattle.hx_cli.specs.declared.command.Command.{Command}
use Rattle.hx_cli.specs.declared.command.Command.TheVariants.{AddMany}
use Rattle.hx_cli.specs.CommandLine.{words_of}
use Rattle.hx_cli.specs.Commands.{command_of}
use Rattle.hx_cli.specs.Effects.{addition_effect, command_effect, refused, AdditionCommandAsksFor, CommandAsksFor, Effect}
use Rattle.hx_cli.specs.Replies.{ReplyParts}

-- a payload that has begun: for which reference and which version, and the entries of its lines
pub record PayloadParts : Type 0 where
  pub is_map : Bool
  pub ver : Option ℕ
  pub name : List ℕ
  pub pairs : List Pair

-- the payloads that have begun, by their sessions
abbrev pub OpenPayloads : Type 0
OpenPayloads = finite.FinMap nat_cmp PayloadParts

-- what comes of a line: its reply, if there is one, and the payloads and the references after it
pub record LineEffect : Type 0 where
  pub reply : Option ReplyParts
  pub payloads : OpenPayloads
  pub refs : References

abbrev pub no_payloads : OpenPayloads
no_payloads = finite.empty

-- a payload without entries
abbrev pub new_payload : Bool → Option ℕ → List ℕ → PayloadParts
new_payload is_map ver name = record { is_map = is_map; ver = ver; name = name; pairs = [] }

-- ---- a line of a payload

-- a payload with a line more, which is read as a line of a file
abbrev pub with_line : List ℕ → PayloadParts → PayloadParts
with_line text payload =
    record payload { pairs = payload.pairs ++ option_to_list (line_pair payload.is_map text) }

-- ---- lines

-- nothing is told
abbrev pub untold : OpenPayloads → References → LineEffect
untold payloads refs = record { reply = None; payloads = payloads; refs = refs }

-- a command is answered
abbrev pub replied : OpenPayloads → Effect → LineEffect
replied payloads e = record { reply = Some e.reply; payloads = payloads; refs = e.refs }

-- a line of words outside a payload: the beginning of a payload, or another command; words that
-- are no command are refused with the code 20
abbrev pub command_line : ℕ → Option Command → OpenPayloads → References → LineEffect
command_line session None payloads refs = replied payloads (refused 20 refs)
command_line session (Some (AddMany is_map ver name)) payloads refs =
    untold (finite.insert payloads session (new_payload is_map ver name)) refs
command_line session (Some command) payloads refs = replied payloads (command_effect command refs)

-- a line outside a payload; one without words does nothing
abbrev pub outside_line : ℕ → List (List ℕ) → OpenPayloads → References → LineEffect
outside_line session [] payloads refs = untold payloads refs
outside_line session words payloads refs = command_line session (command_of words) payloads refs

-- a line of a payload; an empty one, or one of blanks alone, ends it, and all its entries are
-- added, or none
abbrev pub payload_line : ℕ → List ℕ → OpenPayloads → References → PayloadParts → LineEffect
payload_line session text payloads refs payload =
    if list_all is_blank text
    then replied (finite.remove payloads session)
    (addition_effect payload.is_map payload.ver payload.name payload.pairs refs)
    else untold (finite.insert payloads session (with_line text payload)) refs

-- what comes of a line of a session, by its payload
abbrev pub line_effect : ℕ → List ℕ → OpenPayloads → References → LineEffect
line_effect session text payloads refs =
    option_map_or (payload_line session text payloads refs) (finite.get payloads session)
    (outside_line session (words_of text) payloads refs)

-- ---- regular expressions that are too large

abbrev pub WordsAskFor : Option Command → References → ExpressionText → Type 0
WordsAskFor None refs asked = ⊥
WordsAskFor (Some command) refs asked = CommandAsksFor command refs asked

abbrev pub PayloadAsksFor : PayloadParts → References → ExpressionText → Type 0
PayloadAsksFor payload refs asked =
    AdditionCommandAsksFor payload.is_map payload.ver payload.name payload.pairs refs asked

abbrev pub SessionLineAsksFor : List ℕ → Option PayloadParts → References → ExpressionText → Type 0
SessionLineAsksFor text None refs asked = WordsAskFor (command_of (words_of text)) refs asked
SessionLineAsksFor text (Some payload) refs asked = PayloadAsksFor payload refs asked

-- a line of a session reads a key as this expression
abbrev pub LineAsksFor : ℕ → List ℕ → OpenPayloads → References → ExpressionText → Type 0
LineAsksFor session text payloads refs asked =
    SessionLineAsksFor text (finite.get payloads session) refs asked
