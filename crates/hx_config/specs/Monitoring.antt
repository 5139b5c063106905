-- `monitor-uri URI` as a rule of `http-request`: HAProxy answers a request for URI itself, before
-- these rules (HAProxy configuration manual 2.6, section 4.2). A URI that begins with a slash is
-- compared with the target's path and query, any other with the whole target.
use Rattle.std.specs.Prelude.{ℕ, Bool, false, ◌==◌, List, [], ◌∷◌, ◌++◌, codes, map, Option, None, Some, if◌then◌else◌}
use Rattle.hx_base.specs.Bytes.{ascii}
use Rattle.hx_config.specs.Formats.{Known}
use Rattle.hx_config.specs.declared.monitoring.TheConstants.{ANSWER, EXACTLY}
use Rattle.hx_config.specs.declared.replacing.TheConstants.{PATH_AND_QUERY}

abbrev pub begins_with_slash : List ℕ → Bool
begins_with_slash [] = false
begins_with_slash (b ∷ bytes) = b == ascii "/"

-- what is compared with such a URI
abbrev pub compared_with : (uri : List ℕ) → List ℕ
compared_with uri = if begins_with_slash uri then PATH_AND_QUERY.now else codes "url"

-- the words of a test that a request is for this URI, with the end of the test
abbrev pub comparison : (uri : List ℕ) → List (List ℕ)
comparison uri = compared_with uri ∷ map (λ text. text.now) EXACTLY ++ uri ∷ codes "}" ∷ []

-- the rule that answers such requests:
-- `http-request deny status 200 if { TARGET -m str -- URI }`
abbrev pub monitor_rule : (uri : List ℕ) → List (List ℕ)
monitor_rule uri = map (λ text. text.now) ANSWER ++ comparison uri

-- what stands for `monitor-uri` with these words after it, where no rule stands above it and no
-- other status may be answered
unfoldable pub monitor_said : Known → List (List ℕ) → Option (List (List ℕ))
monitor_said known (uri ∷ []) =
    if known.answers_monitor then Some (monitor_rule uri) else None
monitor_said known _ = None
