-- Redirects with their options in the order that hxeval takes (HAProxy configuration manual 2.6,
-- section 4.2: `redirect`). `append-slash` is written into the location, and `ignore-empty` into
-- the condition.
use Rattle.std.specs.Prelude.{ℕ, Bool, true, false, ◌==◌, ◌-◌, ◌&&◌, not, List, [], ◌∷◌, ◌++◌, codes, length, map, take, Option, None, Some, is_some, option_and_then, option_map, Result, Ok, Err, slice_get, if◌then◌else◌}
use Rattle.std.specs.List.{list_any}
use Rattle.std.specs.Option.{option_map_or}
use Rattle.std.specs.Str.{bytes_eq}
use Rattle.hx_base.specs.Bytes.{ascii}
use Rattle.hx_words.specs.CallForm.{CallForm, CallList}
use Rattle.hx_words.specs.Calls.{calls_of}
use Rattle.hx_words.specs.declared.fault.ArgFault.{ArgFault}
use Rattle.hx_config.specs.Guards.{not_empty_in, with_guard}
use Rattle.hx_config.specs.Options.{after_options, value_of}
use Rattle.hx_config.specs.Titles.{Words}
use Rattle.hx_config.specs.declared.redirects.TheConstants.{HOST, ONCE_FOUND, REDIRECT_OPTIONS, SLASHED, SLASHED_PATH}

abbrev pub redirect_options : List (List ℕ × List ℕ)
redirect_options = map (λ row. (row.0.now, row.1.now)) REDIRECT_OPTIONS

abbrev pub redirect_value : List ℕ → Words → Option (List ℕ)
redirect_value name words = value_of redirect_options name words

-- ---- the location

-- the kind and the format, where one kind is given
abbrev pub kind_of : Option (List ℕ) → Option (List ℕ) → Option (List ℕ) → Option Words
kind_of (Some location) None None = Some (codes "location" ∷ location ∷ [])
kind_of None (Some prefix) None = Some (codes "prefix" ∷ prefix ∷ [])
kind_of None None (Some scheme) = Some (codes "scheme" ∷ scheme ∷ [])
kind_of _ _ _ = None

-- a prefix that is a slash alone is none
abbrev pub prefix_text : List ℕ → List ℕ
prefix_text format = if bytes_eq format (codes "/") then [] else format

-- The location that HAProxy makes by `append-slash`, where the target from its path on, with a
-- slash at its end, is this format: after the prefix, or after the scheme and the host. A location
-- that is given whole stays as it is.
abbrev pub slashed : (rest : List ℕ) → Words → Words
slashed rest (kind ∷ format ∷ []) =
    if bytes_eq kind (codes "prefix") then codes "location" ∷ (prefix_text format ++ rest) ∷ []
    else (if bytes_eq kind (codes "scheme")
    then codes "location" ∷ (format ++ HOST.now ++ rest) ∷ [] else kind ∷ format ∷ [])
slashed rest words = words

-- that format, where there is such an option
abbrev pub slashed_rest : Words → Option (List ℕ)
slashed_rest words =
    option_map (λ _. if is_some (redirect_value (codes "drop-query") words)
    then SLASHED_PATH.now else SLASHED.now) (redirect_value (codes "append-slash") words)

abbrev pub kind_said : Words → (kind : Words) → Words
kind_said words kind = option_map_or (λ rest. slashed rest kind) (slashed_rest words) kind

-- what hxeval takes after the kind and the format, in its order
abbrev pub redirect_end : Words → Words
redirect_end words =
    option_map_or (λ code. codes "code" ∷ code ∷ []) (redirect_value (codes "code") words) []
    ++ option_map_or (λ _. codes "drop-query" ∷ []) (redirect_value (codes "drop-query") words) []

-- ---- the condition

-- a format that begins with a byte of its own never makes an empty text
abbrev pub begins_with_text : List ℕ → Bool
begins_with_text [] = false
begins_with_text (b ∷ bytes) = not (b == ascii "%")

-- the first of these calls finds one value at most, which a test asks for as a format does
abbrev pub is_found_once : List CallForm → Bool
is_found_once calls =
    option_map_or (λ call. list_any (λ name. bytes_eq call.name name.now) ONCE_FOUND)
    (slice_get calls 0) false

abbrev pub whole_call : (inside : List ℕ) → Result CallList ArgFault → Option (List ℕ)
whole_call inside (Ok list) =
    if list.used == length inside && is_found_once list.calls
    then Some (take (list.used - 1) inside) else None
whole_call inside (Err fault) = None

-- the expression of a format that is `%[EXPR]`, where it finds one value at most
abbrev pub lone_expression : List ℕ → Option (List ℕ)
lone_expression (a ∷ b ∷ inside) =
    if a == ascii "%" && b == ascii "["
    then whole_call inside (calls_of (Some (ascii "]")) inside) else None
lone_expression _ = None

-- the condition under which the format makes some text where this one holds
abbrev pub where_not_empty : (format : List ℕ) → (condition : Words) → Option Words
where_not_empty format condition =
    if begins_with_text format then Some condition
    else option_map (λ expression. with_guard (not_empty_in expression) true condition)
    (lone_expression format)

-- The condition of a redirect. `ignore-empty` passes over a rule of `http-request` whose location
-- is empty; a statement fills in no format, and a prefix or a scheme makes no empty location.
abbrev pub condition_said : (is_rule : Bool) → (condition : Words) → Words → Option Words
condition_said is_rule condition words =
    if is_rule && is_some (redirect_value (codes "ignore-empty") words)
    then option_map_or (λ format. where_not_empty format condition)
    (redirect_value (codes "location") words) (Some condition)
    else Some condition

-- ---- redirects

-- the redirect of these words, before this condition
abbrev pub redirect_with : (condition : Words) → Words → Option Words
redirect_with condition words =
    option_map (λ kind. kind_said words kind ++ redirect_end words ++ condition)
    (kind_of (redirect_value (codes "location") words) (redirect_value (codes "prefix") words)
    (redirect_value (codes "scheme") words))

abbrev pub as_redirect : (is_rule : Bool) → Words → Option Words
as_redirect is_rule words =
    option_and_then (λ after. option_and_then (λ condition. redirect_with condition words)
    (condition_said is_rule after words)) (after_options redirect_options 0 words)
