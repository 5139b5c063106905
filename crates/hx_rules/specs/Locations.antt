-- Where a redirect sends the client (HAProxy configuration manual 2.4, section 4.2, `redirect`).
use Rattle.std.specs.Prelude.{ℕ, Bool, List, [], ◌++◌, Option, codes, if◌then◌else◌}
use Rattle.std.specs.List.{find, list_any}
use Rattle.std.specs.Option.{option_map_or, unwrap_or}
use Rattle.std.specs.Str.{bytes_eq}
use Rattle.hx_ast.specs.declared.action.RedirectKind.{RedirectKind}
use Rattle.hx_ast.specs.declared.action.RedirectKind.TheVariants.{Location, Prefix, Scheme}
use Rattle.hx_base.specs.Bytes.{is_bad_value_byte}
use Rattle.hx_http.specs.Edits.{has_name}
use Rattle.hx_http.specs.Parts.{Parts}
use Rattle.hx_http.specs.Target.{path_of, query_of, query_text}
use Rattle.hx_rules.specs.declared.verdict.Verdict.{Verdict}
use Rattle.hx_rules.specs.declared.verdict.Verdict.TheVariants as verdict

-- the target from its path on, or its path alone; `/` where it has no path
abbrev pub target_rest : Bool → List ℕ → List ℕ
target_rest drop_query target =
    option_map_or (λ path. if drop_query then path else path ++ query_text (query_of target))
    (path_of target) (codes "/")

-- the value of the first header line `Host`, and nothing without one
abbrev pub host_of : Parts → List ℕ
host_of head = option_map_or (λ line. line.1) (find (has_name (codes "host")) head.headers) []

-- the location that a redirect makes of its text; a prefix that is `/` alone adds nothing
abbrev pub location_of : RedirectKind → List ℕ → Bool → Parts → List ℕ
location_of Location text drop_query head = text
location_of Prefix text drop_query head =
    (if bytes_eq text (codes "/") then [] else text) ++ target_rest drop_query head.target
location_of Scheme text drop_query head =
    text ++ codes "://" ++ host_of head ++ target_rest drop_query head.target

-- The verdict of a redirect whose format makes the text: an error where the location has CR, LF or
-- NUL. Without a status the client is sent there with 302.
abbrev pub redirect_verdict : RedirectKind → List ℕ → Option ℕ → Bool → Parts → Verdict
redirect_verdict kind text status drop_query head =
    let location = location_of kind text drop_query head in
    if list_any is_bad_value_byte location then verdict.Error
    else verdict.Redirect (unwrap_or status 302) location
