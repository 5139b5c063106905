-- The lines that answer an event: a request, or a line of the management socket.
use Rattle.std.specs.Prelude.{ℕ, List, [], ◌++◌, ◌&&◌, ◌==◌, Bool, true, false, ◌∷◌, codes, unwrap_or, if◌then◌else◌}
use Rattle.std.specs.Fmt.{decimal}
use Rattle.std.specs.List.{flat_map}
use Rattle.std.specs.Str.{bytes_eq}
use Rattle.hx_http.specs.Parts.{Parts}
use Rattle.hx_rules.specs.declared.Verdict.{Verdict}
use Rattle.hx_rules.specs.declared.Verdict.TheVariants.{Deny, Error, Pass, Redirect}
use Rattle.hx_cli.specs.Replies.{ReplyParts}

-- ---- heads

abbrev pub are_same_lines : List (List ℕ × List ℕ) → List (List ℕ × List ℕ) → Bool
are_same_lines [] [] = true
are_same_lines (line ∷ lines) (other ∷ others) =
    bytes_eq line.0 other.0 && bytes_eq line.1 other.1 && are_same_lines lines others
are_same_lines _ _ = false

-- two heads have the same method, target and version, and the same header lines
abbrev pub is_same_head : Parts → Parts → Bool
is_same_head head other =
    bytes_eq head.method other.method && bytes_eq head.target other.target
    && (head.minor == other.minor) && are_same_lines head.headers other.headers

abbrev pub header_text : List ℕ × List ℕ → List ℕ
header_text line = codes "| " ++ (line.0 ++ (codes ": " ++ (line.1 ++ codes "\n")))

-- the lines of a head: `| METHOD TARGET HTTP/1.MINOR`, and `| NAME: VALUE` for each header line
abbrev pub head_text : Parts → List ℕ
head_text head =
    codes "| " ++ (head.method ++ (codes " " ++ (head.target ++ (codes " HTTP/1."
    ++ (decimal head.minor ++ (codes "\n" ++ flat_map header_text head.headers))))))

-- the lines of the head that the rules made, where it isn't the one that was read
abbrev pub changed_text : Parts → Parts → List ℕ
changed_text read made = if is_same_head read made then [] else head_text made

-- ---- verdicts

-- what follows the number of a request: its verdict; after one that passes, the head, where it was
-- changed; after one that is sent elsewhere, the location
abbrev pub verdict_text : Verdict → Parts → Parts → List ℕ
verdict_text (Pass backend) read made =
    codes " pass " ++ (unwrap_or backend (codes "-") ++ (codes "\n" ++ changed_text read made))
verdict_text (Deny code) read made = codes " deny " ++ (decimal code ++ codes "\n")
verdict_text (Redirect code location) read made =
    codes " redirect " ++ (decimal code ++ (codes "\n| location: " ++ (location ++ codes "\n")))
verdict_text Error read made = codes " error 500\n"

-- ---- lines of the management socket

-- the name of a refusal
abbrev pub refusal_name : ℕ → List ℕ
refusal_name code =
    if code == 1 then codes "UnknownRef"
    else if code == 2 then codes "BadVersion"
    else if code == 3 then codes "KeyNotFound"
    else if code == 4 then codes "BadPattern"
    else if code == 5 then codes "BadValue"
    else if code == 6 then codes "NeedsMap"
    else if code == 7 then codes "UsedAsMap"
    else if code == 8 then codes "VersionFull"
    else if code == 9 then codes "VersionWorn"
    else if code == 10 then codes "NoMoreVersions"
    else codes "BadCommand"

-- a line that is told to a session: `@SESSION LINE`
abbrev pub told_line : ℕ → List ℕ → List ℕ
told_line session line = codes "@" ++ (decimal session ++ (codes " " ++ (line ++ codes "\n")))

-- what ends a reply: `ok`, or `error CODE NAME`
abbrev pub reply_end : ℕ → List ℕ
reply_end code =
    if code == 0 then codes "ok"
    else codes "error " ++ (decimal code ++ (codes " " ++ refusal_name code))

-- the lines of a reply
abbrev pub reply_text : ℕ → ReplyParts → List ℕ
reply_text session reply =
    flat_map (told_line session) reply.lines ++ told_line session (reply_end reply.code)
