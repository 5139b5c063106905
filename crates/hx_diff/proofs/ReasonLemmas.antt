-- The answer to a request ends with a line feed, and what tells why it has its verdict is one line.
use Rattle.std.proofs.Common.{◌≡◌, ℕ, Bool, true, false, List, [], ◌∷◌, ◌++◌, codes, Option, None, Some, unwrap_or, refl, sym, ◌∙◌, ap, append_assoc, append-nil, inl, inr, if◌then◌else◌}
use Rattle.std.specs.Fmt.{decimal}
use Rattle.std.specs.FinMap as map
use Rattle.std.specs.List.{flat_map}
use Rattle.std.specs.Option.{option_map_or}
use Rattle.hx_diff.specs.AnswerView.{AreLines, HasLastLine, LacksLineFeed}
use Rattle.hx_cli.specs.Replies.{number_text}
use Rattle.hx_core.specs.Answers.{changed_text, head_text, header_text, is_same_head, verdict_text}
use Rattle.hx_core.specs.Steps.{answer_of, head_answer, next_number, request_evaluation}
use Rattle.hx_core.specs.Telling.{told_answer, told_of_head}
use Rattle.hx_core.specs.World.{World, refs_view}
use Rattle.hx_fetch.specs.declared.Conn.{Conn as Connection}
use Rattle.hx_http.specs.Head.{Head, head_of, many, message, none}
use Rattle.hx_http.specs.Parts.{Parts}
use Rattle.hx_record.specs.declared.Event.TheVariants.{Req}
use Rattle.hx_rules.specs.Verdicts.{start}
use Rattle.hx_rules.specs.declared.Verdict.{Verdict}
use Rattle.hx_rules.specs.declared.Verdict.TheVariants.{Deny, Error, Pass, Redirect}
use Rattle.hx_trace.specs.Why.{cause_of, explained, head_numbers, reason_text, told_why, why_text}
use Rattle.hx_trace.specs.declared.why.Reason.{Reason}
use Rattle.hx_trace.specs.declared.why.Reason.TheVariants.{Hit, Not, True}
use Rattle.hx_trace.specs.declared.why.Why.{Why}
use Rattle.hx_diff.proofs.LineLemmas.{decimal_lacks, lacks_both, number_lacks}

-- ---- lines

-- the last byte is a line feed
abbrev EndsLine : List ℕ → Type 0
EndsLine text = (others : List ℕ) × (text ≡ others ++ 10 ∷ [])

after : (start text : List ℕ) → EndsLine text → EndsLine (start ++ text)
after start text (others, are) = (
  start ++ others,
  ap (λ (rest : List ℕ). start ++ rest) are ∙ sym (append_assoc start others (10 ∷ [])),
)

joined : (first second : List ℕ) → EndsLine first → AreLines second → EndsLine (first ++ second)
joined first second ends (inl empty) = rw (empty, append-nil first) ends
joined first second ends (inr some) = after first second some

-- ---- answers

header_ends : (line : List ℕ × List ℕ) → EndsLine (header_text line)
header_ends line =
    after (codes "| ") _ (after line.0 _ (after (codes ": ") _ (after line.1 (codes "\n") ([], refl))))

headers_are_lines : (headers : List (List ℕ × List ℕ)) → AreLines (flat_map header_text headers)
headers_are_lines [] = inl refl
headers_are_lines (line ∷ headers) =
    inr (joined (header_text line) (flat_map header_text headers) (header_ends line) (headers_are_lines headers))

head_ends : (head : Parts) → EndsLine (head_text head)
head_ends head =
    after (codes "| ") _ (after head.method _ (after (codes " ") _ (after head.target _ (after (codes " HTTP/1.") _
    (after (decimal head.minor) _ (joined (codes "\n") (flat_map header_text head.headers) ([], refl)
    (headers_are_lines head.headers)))))))

lines_if : (test : Bool) (text : List ℕ) → EndsLine text → AreLines (if test then [] else text)
lines_if true text ends = inl refl
lines_if false text ends = inr ends

changed_are_lines : (read made : Parts) → AreLines (changed_text read made)
changed_are_lines read made = lines_if (is_same_head read made) (head_text made) (head_ends made)

verdict_ends : (verdict : Verdict) (read made : Parts) → EndsLine (verdict_text verdict read made)
verdict_ends (Pass backend) read made =
    after (codes " pass ") _ (after (unwrap_or backend (codes "-")) _
    (joined (codes "\n") (changed_text read made) ([], refl) (changed_are_lines read made)))
verdict_ends (Deny code) read made = after (codes " deny ") _ (after (decimal code) (codes "\n") ([], refl))
verdict_ends (Redirect code location) read made =
    after (codes " redirect ") _ (after (decimal code) _ (after (codes "\n| location: ") _
    (after location (codes "\n") ([], refl))))
verdict_ends Error read made = (codes " error 500", refl)

answer_ends : (world : World) (conn : Connection) (head : Head) → EndsLine (head_answer world conn head)
answer_ends world conn (message head len) =
    let made = request_evaluation world conn head in
    after (decimal (next_number world.requests)) _ (verdict_ends made.verdict head made.state.message)
answer_ends world conn many = after (decimal (next_number world.requests)) (codes " bad 400\n") (codes " bad 400", refl)
answer_ends world conn none = after (decimal (next_number world.requests)) (codes " bad 400\n") (codes " bad 400", refl)

-- ---- reasons

-- one line, with its line feed
record IsLine (text : List ℕ) : Type 0 where
  pub line : List ℕ
  pub lacks : LacksLineFeed line
  pub whole : text ≡ line ++ 10 ∷ []

more : (start text : List ℕ) → LacksLineFeed start → IsLine text → IsLine (start ++ text)
more start text lacks is = record {
  line = start ++ is.line;
  lacks = lacks_both start is.line lacks is.lacks;
  whole = ap (λ (rest : List ℕ). start ++ rest) is.whole ∙ sym (append_assoc start is.line (10 ∷ []));
}

reason_lacks : (reason : Reason) → LacksLineFeed (reason_text reason)
reason_lacks Not = refl
reason_lacks True = refl
reason_lacks (Hit id number) =
    lacks_both (decimal id) (codes "/" ++ number_text number) (decimal_lacks id) (number_lacks number)

reasons_lack : (reasons : List Reason) → LacksLineFeed (flat_map reason_text reasons)
reasons_lack [] = refl
reasons_lack (reason ∷ reasons) =
    lacks_both (reason_text reason) (flat_map reason_text reasons) (reason_lacks reason) (reasons_lack reasons)

why_is_line : (why : Why) → IsLine (why_text why)
why_is_line why =
    more (codes "> ") _ refl (more (decimal why.line) _ (decimal_lacks why.line) (more (codes " ") _ refl
    (more (decimal why.conj) _ (decimal_lacks why.conj) (more (flat_map reason_text why.reasons) (codes "\n")
    (reasons_lack why.reasons) (record { line = []; lacks = refl; whole = refl })))))

told_is_line : (world : World) (conn : Connection) (head : Head) → IsLine (told_of_head explained world conn head)
told_is_line world conn (message head len) =
    why_is_line (told_why (head_numbers (request_evaluation world conn head).state.tables)
    (cause_of refs_view conn world.rules (start head world.vars world.refs)))
told_is_line world conn many = record { line = codes "> 0 0"; lacks = refl; whole = refl }
told_is_line world conn none = record { line = codes "> 0 0"; lacks = refl; whole = refl }

-- ---- both

has_last : (lines text : List ℕ) → EndsLine lines → IsLine text → HasLastLine lines (lines ++ text)
has_last lines text ends is = record {
  are_lines = inr ends;
  last = is.line;
  lacks = is.lacks;
  whole = ap (λ (rest : List ℕ). lines ++ rest) is.whole;
}

-- what is shown of a request, by the connection that is found
abbrev shown_of : World → Head → Option Connection → List ℕ
shown_of world head found =
    option_map_or (λ conn. head_answer world conn head ++ told_of_head explained world conn head) found []

of_found : (world : World) (head : Head) (found : Option Connection) (result : List ℕ)
    → ((lines : List ℕ) → HasLastLine lines (shown_of world head found) → result ≡ lines) → (shown_of world head found ≡ [] → result ≡ [])
    → result ≡ option_map_or (λ conn. head_answer world conn head) found []
of_found world head None result lines empty = empty refl
of_found world head (Some conn) result lines empty =
    lines (head_answer world conn head)
    (has_last (head_answer world conn head) (told_of_head explained world conn head) (answer_ends world conn head) (told_is_line world conn head))

-- the lines of a request that is shown with its reason but the last one
pub without_reason_is : (world : World) (id : ℕ) (bytes shown result : List ℕ) → ((lines : List ℕ) → HasLastLine lines shown → result ≡ lines)
    → (shown ≡ [] → result ≡ []) → shown ≡ told_answer explained world (Req id bytes) → result ≡ answer_of world (Req id bytes)
without_reason_is world id bytes shown result lines empty is =
    of_found world (head_of bytes) (map.get world.connections id) result (rw is at lines) (rw is at empty)
