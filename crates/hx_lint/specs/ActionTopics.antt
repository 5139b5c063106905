-- The topics that an action shows, by its format and its arguments: each is what makes HAProxy do
-- something else, by a row of docs/manual/haproxy.md.
use Rattle.std.specs.Prelude.{ℕ, ◌==◌, ◌&&◌, ◌||◌, nat_lt, nat_le, Bool, true, false, not, List, [], ◌∷◌, length, codes, Option, None, Some}
use Rattle.std.specs.List.{list_any}
use Rattle.std.specs.Option.{option_map_or}
use Rattle.std.specs.Str.{str_eq_ignore_ascii_case}
use Rattle.httparse.specs.Grammar.{is_token_byte}
use Rattle.hx_base.specs.Bytes.{ascii, is_bad_value_byte}
use Rattle.hx_text.specs.declared.names.Scope.{Scope}
use Rattle.hx_text.specs.declared.names.Scope.TheVariants as scope
use Rattle.hx_ast.specs.declared.action.Action.{Action}
use Rattle.hx_ast.specs.declared.action.Action.TheVariants as action
use Rattle.hx_ast.specs.declared.action.Part.{Part}
use Rattle.hx_ast.specs.declared.action.Part.TheVariants.{Text, Value}
use Rattle.hx_ast.specs.declared.conv.Conv.{Conv}
use Rattle.hx_ast.specs.declared.fetch.Fetch.{Fetch}
use Rattle.hx_ast.specs.declared.fetch.Fetch.TheVariants as fetch
use Rattle.hx_lint.specs.declared.action_topics.ActionTopic.{ActionTopic}
use Rattle.hx_lint.specs.declared.action_topics.ActionTopic.TheVariants as topic
use Rattle.hx_lint.specs.declared.action_topics.ByteClass.{ByteClass}
use Rattle.hx_lint.specs.declared.action_topics.ByteClass.TheVariants as class
use Rattle.hx_lint.specs.declared.action_topics.TheConstants.{PAGE_STATUSES}

-- ---- formats

-- the format of an action; of `set-map` that of the key
abbrev pub action_format : Action → Option (List Part)
action_format (action.SetHeader name format) = Some format
action_format (action.AddHeader name format) = Some format
action_format (action.ReplaceHeader name expression format) = Some format
action_format (action.ReplaceValue name expression format) = Some format
action_format (action.SetMethod format) = Some format
action_format (action.SetUri format) = Some format
action_format (action.SetPath format) = Some format
action_format (action.SetQuery format) = Some format
action_format (action.AddAcl table key) = Some key
action_format (action.DelAcl table key) = Some key
action_format (action.DelMap table key) = Some key
action_format (action.SetMap table key value) = Some key
action_format (action.Redirect kind format status drop_query) = Some format
action_format _ = None

-- what the format of an action makes: the value of a header, a target or a part of one, or the key
-- of an entry
abbrev pub makes_header : Action → Bool
makes_header (action.SetHeader name format) = true
makes_header (action.AddHeader name format) = true
makes_header (action.ReplaceHeader name expression format) = true
makes_header (action.ReplaceValue name expression format) = true
makes_header _ = false

abbrev pub makes_target : Action → Bool
makes_target (action.SetUri format) = true
makes_target (action.SetPath format) = true
makes_target (action.SetQuery format) = true
makes_target _ = false

abbrev pub makes_key : Action → Bool
makes_key (action.AddAcl table key) = true
makes_key (action.DelAcl table key) = true
makes_key (action.DelMap table key) = true
makes_key (action.SetMap table key value) = true
makes_key _ = false

abbrev pub makes_location : Action → Bool
makes_location (action.Redirect kind format status drop_query) = true
makes_location _ = false

-- ---- bytes that a format has whatever the request is

abbrev pub constant_of : Fetch → List ℕ
constant_of (fetch.Str text) = text
constant_of (fetch.Bin bytes) = bytes
constant_of _ = []

-- the value of a constant without converters
abbrev pub constant_value : Fetch → List Conv → List ℕ
constant_value found [] = constant_of found
constant_value found (c ∷ cs) = []

abbrev pub constant_bytes : Part → List ℕ
constant_bytes (Text bytes) = bytes
constant_bytes (Value expr) = constant_value expr.fetch expr.convs

-- control bytes but CR, LF and NUL; CR, LF and NUL; those that no target may have; and those that
-- no method may have
abbrev pub is_in_class : ByteClass → ℕ → Bool
is_in_class class.Control b = (nat_lt b 32 || b == 127) && not (is_bad_value_byte b)
is_in_class class.LineEnd b = is_bad_value_byte b
is_in_class class.OutsideTarget b = nat_le b 32 || nat_le 127 b
is_in_class class.OutsideToken b = not (is_token_byte b)

-- one of the constant bytes of a format is of a class
abbrev pub has_byte : ByteClass → List Part → Bool
has_byte kind format = list_any (λ part. list_any (is_in_class kind) (constant_bytes part)) format

abbrev pub has_byte_in : ByteClass → Option (List Part) → Bool
has_byte_in kind format = option_map_or (has_byte kind) format false

-- ---- formats that may be empty

-- the fetches that find a value in every request
abbrev pub finds_always : Fetch → Bool
finds_always fetch.AlwaysTrue = true
finds_always fetch.AlwaysFalse = true
finds_always (fetch.Bool b) = true
finds_always (fetch.Int n) = true
finds_always (fetch.Ipv4 address) = true
finds_always (fetch.Ipv6 address) = true
finds_always fetch.Src = true
finds_always fetch.Dst = true
finds_always fetch.SrcPort = true
finds_always fetch.DstPort = true
finds_always fetch.Method = true
finds_always fetch.ReqVer = true
finds_always fetch.Url = true
finds_always (fetch.ReqHdrCnt name) = true
finds_always (fetch.ReqCookCnt name) = true
finds_always _ = false

abbrev pub always_gives : Fetch → List Conv → Bool
always_gives found [] = finds_always found
always_gives found (c ∷ cs) = false

-- a part of a format gives a byte or more for every request
abbrev pub gives_bytes : Part → Bool
gives_bytes (Text bytes) = not (length bytes == 0)
gives_bytes (Value expr) =
    not (length (constant_value expr.fetch expr.convs) == 0) || always_gives expr.fetch expr.convs

abbrev pub may_be_empty : List Part → Bool
may_be_empty format = not (list_any gives_bytes format)

abbrev pub may_be_empty_in : Option (List Part) → Bool
may_be_empty_in format = option_map_or may_be_empty format false

abbrev pub is_without_parts : Option (List Part) → Bool
is_without_parts format = option_map_or (λ parts. length parts == 0) format false

-- ---- single actions

-- `Host`, in either case
abbrev pub is_host : List ℕ → Bool
is_host name = str_eq_ignore_ascii_case name (codes "host")

abbrev pub changes_host : Action → Bool
changes_host (action.SetHeader name format) = is_host name
changes_host (action.AddHeader name format) = is_host name
changes_host (action.DelHeader name) = is_host name
changes_host (action.ReplaceHeader name expression format) = is_host name
changes_host (action.ReplaceValue name expression format) = is_host name
changes_host (action.SetUri format) = true
changes_host _ = false

abbrev pub replaces_value : Action → Bool
replaces_value (action.ReplaceValue name expression format) = true
replaces_value _ = false

abbrev pub sets_method : Action → Bool
sets_method (action.SetMethod format) = true
sets_method _ = false

abbrev pub sets_target : Action → Bool
sets_target (action.SetUri format) = true
sets_target _ = false

abbrev pub sets_path : Action → Bool
sets_path (action.SetPath format) = true
sets_path _ = false

-- a text begins otherwise than with `/`
abbrev pub begins_otherwise : List ℕ → Bool
begins_otherwise [] = false
begins_otherwise (b ∷ bytes) = not (b == ascii "/")

-- the first part of a format is a text that begins otherwise than with `/`
abbrev pub begins_without_slash : List Part → Bool
begins_without_slash [] = false
begins_without_slash (part ∷ parts) = begins_otherwise (constant_bytes part)

abbrev pub begins_without_slash_in : Option (List Part) → Bool
begins_without_slash_in format = option_map_or begins_without_slash format false

abbrev pub is_of_response : Scope → Bool
is_of_response scope.Res = true
is_of_response _ = false

abbrev pub sets_response_variable : Action → Bool
sets_response_variable (action.SetVar name expr) = is_of_response name.scope
sets_response_variable _ = false

-- the second format of an action has such a byte
abbrev pub value_has_byte : ByteClass → Action → Bool
value_has_byte kind (action.SetMap table key value) = has_byte kind value
value_has_byte kind _ = false

-- no error page goes with a status
abbrev pub has_no_page : Option ℕ → Bool
has_no_page None = false
has_no_page (Some status) = not (list_any (λ other. status == other) PAGE_STATUSES)

abbrev pub denies_without_page : Action → Bool
denies_without_page (action.Deny status) = has_no_page status
denies_without_page _ = false

-- ---- all

-- an action shows a topic
abbrev pub action_has : ActionTopic → Action → Bool
action_has topic.ControlByte a = makes_header a && has_byte_in class.Control (action_format a)
action_has topic.HeaderLineEnd a = makes_header a && has_byte_in class.LineEnd (action_format a)
action_has topic.LocationLineEnd a = makes_location a && has_byte_in class.LineEnd (action_format a)
action_has topic.HostOrTarget a = changes_host a
action_has topic.ReplacedValue a = replaces_value a
action_has topic.EmptyTarget a = sets_target a && may_be_empty_in (action_format a)
action_has topic.NoToken a = sets_method a && has_byte_in class.OutsideToken (action_format a)
action_has topic.PathWithoutSlash a = sets_path a && begins_without_slash_in (action_format a)
action_has topic.Path a = sets_path a
action_has topic.TargetByte a = makes_target a && has_byte_in class.OutsideTarget (action_format a)
action_has topic.EmptyKey a =
    makes_key a
    && (may_be_empty_in (action_format a) || has_byte_in class.LineEnd (action_format a))
    || value_has_byte class.LineEnd a
action_has topic.ResponseVariable a = sets_response_variable a
action_has topic.EmptyFormat a = is_without_parts (action_format a)
action_has topic.NoErrorPage a = denies_without_page a
