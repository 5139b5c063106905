-- What each fetch finds, as the list of its occurrences, each a value or none (HAProxy
-- configuration manual 2.4 sections 7.3.2 to 7.3.6).
use Rattle.std.specs.Prelude.{ℕ, ◌-◌, ◌^◌, min, pos, Bool, true, false, List, [], ◌∷◌, ◌++◌, map, length, slice_get, codes, Option, Some, is_none, is_some, option_map, unwrap_or, ◌&&◌, ◌==◌, if◌then◌else◌}
use Rattle.std.specs.Option.{option_or}
use Rattle.std.specs.Str.{bytes_eq}
use Rattle.hx_ast.specs.Types.{fetch_kind}
use Rattle.hx_ast.specs.declared.fetch.Fetch.{Fetch}
use Rattle.hx_ast.specs.declared.fetch.Fetch.TheVariants as fetch
use Rattle.hx_http.specs.Parts.{Parts}
use Rattle.hx_http.specs.Target.{path_of, query_of}
use Rattle.hx_sample.specs.declared.sample.Value.{Value}
use Rattle.hx_sample.specs.declared.sample.Value.TheVariants as value
use Rattle.hx_sample.specs.Cast.{cast_of}
use Rattle.hx_sample.specs.Vars.{var_of}
use Rattle.hx_text.specs.declared.kinds.Kind.{Kind}
use Rattle.hx_text.specs.declared.names.VarName.{VarName}
use Rattle.hx_lists.specs.NamedValues.{params}
use Rattle.hx_fetch.specs.Names.{values_by, header_lines, header_values, cookie_values}
use Rattle.hx_fetch.specs.Picks.{selection, end_of}
use Rattle.hx_fetch.specs.World.{Context}

-- the whole value of the first `Host` line, or nothing, and the path after it; none without a path
abbrev pub base_of : Parts → Option (List ℕ)
base_of message =
    let host = unwrap_or (slice_get (header_lines (Some (codes "Host")) message) 0) [] in
    option_map (λ path. host ++ path) (path_of message.target)

-- the occurrence of a count: how many there are, as an integer of 64 bits with a sign, which
-- saturates
abbrev pub count_of : {A : Type 0} → List A → Option Value
count_of xs = Some (value.Int (pos (min (length xs) (2 ^ 63 - 1))))

-- the value of a variable, or the text that is its default where it isn't set
abbrev pub value_or_default : VarName → Option (List ℕ) → Context → Option Value
value_or_default name default context =
    option_or (var_of context.vars context.conn.id name) (option_map value.Str default)

-- each text as a value of a kind, or none where it writes none
abbrev pub text_occurrences : Kind → List (List ℕ) → List (Option Value)
text_occurrences kind texts = map (λ text. cast_of (value.Str text) kind) texts

-- The texts that a fetch finds, where it is about lines, values, cookies or parameters. The case
-- of letters counts in the name of a parameter (`url_param`).
abbrev pub texts_of : Fetch → Parts → List (List ℕ)
texts_of (fetch.ReqHdr name at) message = selection at (header_values (Some name) message)
texts_of (fetch.ReqFhdr name at) message = selection at (header_lines (Some name) message)
texts_of (fetch.ReqHdrIp name at) message = selection at (header_values (Some name) message)
texts_of (fetch.ReqHdrVal name at) message = selection at (header_values (Some name) message)
texts_of (fetch.ReqCook name) message = cookie_values name message
texts_of (fetch.UrlParam name delim) message =
    values_by bytes_eq name (params message.target delim)
texts_of _ message = []

-- The occurrences of a fetch: of one that is about lines, values, cookies or parameters, its texts
-- as values of its type, and of any other, one occurrence. The version is its number, as the
-- request line has it after `HTTP/`.
abbrev pub occurrences_of : Fetch → Context → List (Option Value)
occurrences_of fetch.AlwaysTrue context = Some (value.Bool true) ∷ []
occurrences_of fetch.AlwaysFalse context = Some (value.Bool false) ∷ []
occurrences_of (fetch.Bool b) context = Some (value.Bool b) ∷ []
occurrences_of (fetch.Int n) context = Some (value.Int n) ∷ []
occurrences_of (fetch.Str text) context = Some (value.Str text) ∷ []
occurrences_of (fetch.Bin bytes) context = Some (value.Bin bytes) ∷ []
occurrences_of (fetch.Ipv4 ip) context = Some (value.Ip ip) ∷ []
occurrences_of (fetch.Ipv6 ip) context = Some (value.Ip ip) ∷ []
occurrences_of (fetch.Var name default) context = value_or_default name default context ∷ []
occurrences_of fetch.Src context = Some (value.Ip context.conn.src) ∷ []
occurrences_of fetch.Dst context = Some (value.Ip context.conn.dst) ∷ []
occurrences_of fetch.SrcPort context = Some (value.Int (pos context.conn.src_port)) ∷ []
occurrences_of fetch.DstPort context = Some (value.Int (pos context.conn.dst_port)) ∷ []
occurrences_of fetch.Method context = Some (value.Method context.message.method) ∷ []
occurrences_of fetch.ReqVer context =
    Some (value.Str (if context.message.minor == 0 then codes "1.0" else codes "1.1")) ∷ []
occurrences_of fetch.Path context = option_map value.Str (path_of context.message.target) ∷ []
occurrences_of fetch.Query context = option_map value.Str (query_of context.message.target) ∷ []
occurrences_of fetch.Url context = Some (value.Str context.message.target) ∷ []
occurrences_of fetch.Base context = option_map value.Str (base_of context.message) ∷ []
occurrences_of (fetch.ReqHdrCnt name) context = count_of (header_values name context.message) ∷ []
occurrences_of (fetch.ReqCookCnt name) context = count_of (cookie_values name context.message) ∷ []
occurrences_of fetch context = text_occurrences (fetch_kind fetch) (texts_of fetch context.message)

-- Whether a fetch has exactly one occurrence, whatever the request is: each has that isn't about
-- lines, values, cookies or parameters.
abbrev pub has_one_occurrence : Fetch → Bool
has_one_occurrence (fetch.ReqHdr name at) = false
has_one_occurrence (fetch.ReqFhdr name at) = false
has_one_occurrence (fetch.ReqHdrIp name at) = false
has_one_occurrence (fetch.ReqHdrVal name at) = false
has_one_occurrence (fetch.ReqCook name) = false
has_one_occurrence (fetch.UrlParam name delim) = false
has_one_occurrence _ = true

-- Whether the value is bytes that are copied, and not lent: those of an argument, of which the
-- default of a variable is one where the variable isn't set, and those that `base` puts together
-- where there is a path.
abbrev pub is_copied : Fetch → Context → Bool
is_copied (fetch.Str text) context = true
is_copied (fetch.Bin bytes) context = true
is_copied (fetch.Var name default) context =
    is_some default && is_none (var_of context.vars context.conn.id name)
is_copied fetch.Base context = is_some (path_of context.message.target)
is_copied _ context = false

-- Whether an expression takes the last occurrence of a fetch, and not the first: of the values and
-- lines of a header, and of the cookies of a name.
abbrev pub takes_last : Fetch → Bool
takes_last (fetch.ReqHdr name at) = true
takes_last (fetch.ReqFhdr name at) = true
takes_last (fetch.ReqHdrIp name at) = true
takes_last (fetch.ReqHdrVal name at) = true
takes_last (fetch.ReqCook (Some name)) = true
takes_last _ = false

-- the occurrence that an expression takes
abbrev pub chosen_of : Fetch → Context → Option Value
chosen_of fetch context = end_of (takes_last fetch) (occurrences_of fetch context)
