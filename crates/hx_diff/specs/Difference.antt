-- What is written of an event that two configurations answer differently.
use Rattle.std.specs.Prelude.{ℕ, Bool, true, ◌==◌, List, [], ◌∷◌, ◌++◌, codes, Option, None, Some, if◌then◌else◌}
use Rattle.std.specs.Fmt.{decimal}
use Rattle.std.specs.Str.{bytes_eq}
use Rattle.hx_base.specs.Bytes.{ascii}
use Rattle.hx_http.specs.Edits.{has_name}
use Rattle.hx_http.specs.Head.{Head, head_of, many, message, none}
use Rattle.hx_record.specs.declared.Event.{Event}
use Rattle.hx_record.specs.declared.Event.TheVariants.{Conn, Req, Close, Cli}
use Rattle.hx_diff.specs.AnswerParts.{AnswerParts}

-- ---- lines

-- a text with a mark before each of its lines: before its first byte, where a line begins there,
-- and before each byte that follows a line feed
abbrev pub marked_from : (mark : List ℕ) → (begins : Bool) → List ℕ → List ℕ
marked_from mark begins [] = []
marked_from mark begins (b ∷ text) =
    (if begins then mark else []) ++ (b ∷ marked_from mark (b == ascii "\n") text)

abbrev pub marked : (mark text : List ℕ) → List ℕ
marked mark text = marked_from mark true text

-- the lines of the old answer, each after `- `, and then those of the new one, each after `+ `
abbrev pub both_answers : (old new : List ℕ) → List ℕ
both_answers old new = marked (codes "- ") old ++ marked (codes "+ ") new

-- ---- what stands above them

-- the value of the first header line named Host, whatever its case; `-` where there is none
abbrev pub host_in : List (List ℕ × List ℕ) → List ℕ
host_in [] = codes "-"
host_in (line ∷ lines) = if has_name (codes "host") line then line.1 else host_in lines

-- the value of a line where it is named so
abbrev pub host_of_line : List ℕ × List ℕ → Option (List ℕ)
host_of_line line = if has_name (codes "host") line then Some line.1 else None

-- method, target and host of a request, as they came; `-` for each where its bytes begin with no
-- head
abbrev pub request_words : Head → List ℕ
request_words (message head len) =
    head.method ++ (codes " " ++ (head.target ++ (codes " " ++ host_in head.headers)))
request_words many = codes "- - -"
request_words none = codes "- - -"

-- `@@ N METHOD TARGET HOST` above the two answers to a request
abbrev pub request_difference : ℕ → (bytes old new : List ℕ) → List ℕ
request_difference number bytes old new =
    codes "@@ " ++ (decimal number ++ (codes " " ++ (request_words (head_of bytes)
    ++ (codes "\n" ++ both_answers old new))))

-- `@@ cli SESSION TEXT` above the two replies to a line of the management socket
abbrev pub command_difference : ℕ → (text old new : List ℕ) → List ℕ
command_difference session text old new =
    codes "@@ cli " ++ (decimal session ++ (codes " " ++ (text
    ++ (codes "\n" ++ both_answers old new))))

-- what is written of an event whose two answers differ, where it is the request with this number
-- or none; of connections nothing, since neither opening nor closing one is answered
abbrev pub told_difference : ℕ → Event → (old new : List ℕ) → List ℕ
told_difference number (Conn id src src_port dst dst_port) old new = []
told_difference number (Req id bytes) old new = request_difference number bytes old new
told_difference number (Close id) old new = []
told_difference number (Cli session text) old new = command_difference session text old new

-- what is written of an event with these two answers: nothing where they are the same, whatever is
-- shown of them
abbrev pub event_difference : ℕ → Event → (old new : AnswerParts) → List ℕ
event_difference number event old new =
    if bytes_eq old.answer new.answer then []
    else told_difference number event old.shown new.shown
