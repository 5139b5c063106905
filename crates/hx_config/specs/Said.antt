-- The statements that are said otherwise, as functions from their words to other words. The tables
-- `DENIALS`, `DENIAL_OPTIONS` and `PLAIN_OPTIONS` are data of the program.
-- (HAProxy configuration manual 2.6, section 4.2: `http-request`, `redirect`.)
use Rattle.std.specs.Prelude.{ℕ, Bool, true, false, ◌&&◌, List, [], ◌∷◌, ◌++◌, codes, map, Option, None, Some, is_some, option_and_then, option_map, unwrap_or, if◌then◌else◌}
use Rattle.std.specs.Option.{option_map_or}
use Rattle.std.specs.Str.{bytes_eq}
use Rattle.hx_base.specs.Pairs.{entry_at}
use Rattle.hx_config.specs.Formats.{Known}
use Rattle.hx_config.specs.Monitoring.{monitor_said}
use Rattle.hx_config.specs.Options.{after_options, value_of}
use Rattle.hx_config.specs.Redirects.{as_redirect}
use Rattle.hx_config.specs.Replacing.{target_said}
pub use Rattle.hx_config.specs.Titles.{Words}
use Rattle.hx_config.specs.declared.said_tables.TheConstants.{DENIALS, DENIAL_OPTIONS, PLAIN_OPTIONS}

-- ---- tables

abbrev pub denials : List (List ℕ × List ℕ)
denials = map (λ row. (row.0.now, row.1.now)) DENIALS

abbrev pub plain_options : List (List ℕ × List ℕ)
plain_options = map (λ row. (row.0.now, row.1.now)) PLAIN_OPTIONS

abbrev pub denial_options : List (List ℕ × List ℕ)
denial_options = map (λ row. (row.0.now, row.1.now)) DENIAL_OPTIONS

-- ---- denials

-- the status that the options give, or this one
abbrev pub denial_status : List ℕ → Words → List ℕ
denial_status without words =
    unwrap_or (value_of denial_options (codes "status") words)
    (unwrap_or (value_of denial_options (codes "deny_status") words) without)

-- an action that ends the request: a denial with its status, under its condition
abbrev pub as_denial : List ℕ → Words → Option Words
as_denial without words =
    option_map (λ condition. codes "http-request" ∷ codes "deny" ∷ codes "status"
    ∷ denial_status without words ∷ condition) (after_options denial_options 0 words)

-- `deny` with a status alone is taken as it is
abbrev pub is_plain : List ℕ → Words → Bool
is_plain action words =
    bytes_eq action (codes "deny") && is_some (after_options plain_options 0 words)

-- what stands for an action of `http-request` with these words after its name
abbrev pub action_said : List ℕ → Words → Option Words
action_said action words =
    if is_plain action words then None
    else option_map_or (λ status. as_denial status words) (entry_at denials action)
    (target_said action words)

-- ---- statements

-- what stands for the words of a rule after `http-request`
unfoldable pub rule_said : Words → Option Words
rule_said [] = None
rule_said (word ∷ words) =
    if bytes_eq word (codes "redirect")
    then option_map (λ redirect. codes "http-request" ∷ codes "redirect" ∷ redirect)
    (as_redirect true words)
    else action_said word words

-- what stands for a statement with this keyword, wherever it stands
unfoldable pub statement_said : (keyword : List ℕ) → Words → Option Words
statement_said keyword words =
    if bytes_eq keyword (codes "http-request") then rule_said words
    else (if bytes_eq keyword (codes "redirect")
    then option_map (λ redirect. codes "redirect" ∷ redirect) (as_redirect false words) else None)

-- what stands for the words of a line; none where no row speaks of them
unfoldable pub said : Known → Words → Option Words
said known [] = None
said known (keyword ∷ words) =
    if bytes_eq keyword (codes "monitor-uri") then monitor_said known words
    else statement_said keyword words
