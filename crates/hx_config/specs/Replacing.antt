-- Rules that change a part of the target in ways of which hxeval has no action, in its own words
-- (HAProxy configuration manual 2.6, section 4.2: `http-request replace-path`, `replace-pathq`,
-- `replace-uri`, `set-pathq`).
use Rattle.std.specs.Prelude.{ℕ, nat_lt, ◌==◌, Bool, true, false, ◌&&◌, List, [], ◌∷◌, ◌++◌, codes, Option, None, Some, if◌then◌else◌}
use Rattle.std.specs.Str.{bytes_eq}
use Rattle.hx_base.specs.Bytes.{ascii}
use Rattle.hx_config.specs.Guards.{found_in, with_guard}
use Rattle.hx_config.specs.Quoted.{quoted}
use Rattle.hx_config.specs.Removing.{removal_said}
use Rattle.hx_config.specs.Setting.{setting_said}
use Rattle.hx_config.specs.declared.replacing.TheConstants.{AUTHORITY, PATH_AND_QUERY}

-- ---- what a replacement may have

-- these bytes begin with the number of a group, from 1 to 9
abbrev pub begins_with_group : List ℕ → Bool
begins_with_group [] = false
begins_with_group (b ∷ bytes) = nat_lt (ascii "0") b && nat_lt b (ascii ":")

-- a byte with these after it stands for itself, or is the backslash before the number of a group
abbrev pub is_plain_byte : ℕ → List ℕ → Bool
is_plain_byte b bytes =
    if b == ascii "%" then false
    else (if b == ascii "\\" then begins_with_group bytes else true)

-- The text has nothing but plain bytes and groups: no part of a format, and no other escape. `\0`
-- is none of the groups, since the expression that is written finds more than HAProxy's.
abbrev pub is_plain_text : List ℕ → Bool
is_plain_text [] = true
is_plain_text (b ∷ bytes) = is_plain_byte b bytes && is_plain_text bytes

-- ---- replacements

-- HAProxy replaces the whole of what it looks at where the expression finds something in it, so the
-- expression is written to find all of it, by its first occurrence.
abbrev pub whole_expression : List ℕ → List ℕ
whole_expression expression = codes "^.*?(?:" ++ expression ++ codes ").*$"

abbrev pub replaced : (fetch expression replacement : List ℕ) → List ℕ
replaced fetch expression replacement =
    codes "%[" ++ fetch ++ codes ",regsub(" ++ quoted (whole_expression expression) ++ codes ","
    ++ quoted replacement ++ codes ")]"

-- a rule with this action, whose format is the text `before` and then what is replaced
abbrev pub as_replacement : (action before fetch : List ℕ) → (condition : List (List ℕ))
    → (expression replacement : List ℕ) → Option (List (List ℕ))
as_replacement action before fetch condition expression replacement =
    if is_plain_text replacement
    then Some (codes "http-request" ∷ action ∷ (before ++ replaced fetch expression replacement)
    ∷ condition) else None

-- A request without a path has none to replace. A target has the same scheme and host as before,
-- whatever its path and query become.
abbrev pub path_replaced : List (List ℕ) → Option (List (List ℕ))
path_replaced (expression ∷ replacement ∷ condition) =
    as_replacement (codes "set-path") [] (codes "path") (with_guard (found_in (codes "path")) true condition)
    expression replacement
path_replaced _ = None

abbrev pub path_and_query_replaced : List (List ℕ) → Option (List (List ℕ))
path_and_query_replaced (expression ∷ replacement ∷ condition) =
    as_replacement (codes "set-uri") AUTHORITY.now PATH_AND_QUERY.now
    (with_guard (found_in (codes "path")) true condition) expression replacement
path_and_query_replaced _ = None

abbrev pub target_replaced : List (List ℕ) → Option (List (List ℕ))
target_replaced (expression ∷ replacement ∷ condition) =
    as_replacement (codes "set-uri") [] (codes "url") condition expression replacement
target_replaced _ = None

-- another path and query, after the scheme and the host
abbrev pub path_and_query_set : List (List ℕ) → Option (List (List ℕ))
path_and_query_set [] = None
path_and_query_set (format ∷ condition) =
    Some (codes "http-request" ∷ codes "set-uri" ∷ (AUTHORITY.now ++ format) ∷ condition)

-- what stands for an action with these words after its name, where it is one of these
abbrev pub target_said : (action : List ℕ) → List (List ℕ) → Option (List (List ℕ))
target_said action words =
    if bytes_eq action (codes "replace-path") then path_replaced words
    else (if bytes_eq action (codes "replace-pathq") then path_and_query_replaced words
    else (if bytes_eq action (codes "replace-uri") then target_replaced words
    else (if bytes_eq action (codes "set-pathq") then path_and_query_set words
    else (if bytes_eq action (codes "del-header") then removal_said words
    else setting_said action words))))
