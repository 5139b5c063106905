-- Formats and expressions in words that hxeval takes: log variables and fetches that a request
-- decides, by the fetches that hxeval has (HAProxy configuration manual 2.6, sections 7.3 and
-- 8.2.4). The tables are data of the program.
use Rattle.std.specs.Prelude.{ℕ, ◌+◌, ◌-◌, nat_lt, ◌==◌, Bool, List, [], ◌∷◌, ◌++◌, codes, length, map, take, Option, None, Some, unwrap_or, Result, Ok, Err, if◌then◌else◌}
use Rattle.std.specs.Char.{is_ascii_alphanumeric}
use Rattle.std.specs.List.{prefix_len}
use Rattle.std.specs.Option.{option_or}
use Rattle.std.specs.Str.{bytes_eq}
use Rattle.hx_base.specs.Bytes.{ascii}
use Rattle.hx_base.specs.Pairs.{entry_at}
use Rattle.hx_text.specs.Cut.{cut_of}
use Rattle.hx_words.specs.CallForm.{CallList}
use Rattle.hx_words.specs.Calls.{calls_of}
use Rattle.hx_words.specs.declared.fault.ArgFault.{ArgFault}
use Rattle.hx_config.specs.LeftOut.{action_name}
use Rattle.hx_config.specs.Lines.{Line}
use Rattle.hx_config.specs.declared.formats.TheConstants.{ARGUMENTS, CAPTURES, FETCHES, LOG_VARIABLES, REQUEST_VARIABLES}

-- What is known where a line stands: the port at which TLS comes in, as digits, if it is given;
-- whether the request line is the one that came; whether `monitor-uri` may be answered there; and
-- all lines of the file.
pub record Known : Type 0 where
  pub tls : Option (List ℕ)
  pub as_it_came : Bool
  pub answers_monitor : Bool
  pub lines : List Line

-- ---- tables

abbrev pub fetches : List (List ℕ × List ℕ)
fetches = map (λ row. (row.0.now, row.1.now)) FETCHES

abbrev pub captures : List (List ℕ × List ℕ)
captures = map (λ row. (row.0.now, row.1.now)) CAPTURES

abbrev pub log_variables : List (List ℕ × List ℕ)
log_variables = map (λ row. (row.0.now, row.1.now)) LOG_VARIABLES

abbrev pub request_variables : List (List ℕ × List ℕ)
request_variables = map (λ row. (row.0.now, row.1.now)) REQUEST_VARIABLES

abbrev pub arguments : List (List ℕ × List ℕ)
arguments = map (λ row. (row.0.now, row.1.now)) ARGUMENTS

-- what stands for a name: a row of the second table serves only where the request line is the one
-- that came
abbrev pub entry_in : Known → (always captured : List (List ℕ × List ℕ)) → List ℕ → Option (List ℕ)
entry_in known always captured name =
    option_or (entry_at always name)
    (if known.as_it_came then entry_at captured name else None)

-- ---- expressions

-- `ssl_fc` with a port P is `dst_port,xor(P),not`: true exactly where the port is P
abbrev pub ssl_said : Option (List ℕ) → List ℕ
ssl_said None = codes "ssl_fc"
ssl_said (Some port) = codes "dst_port,xor(" ++ port ++ codes "),not"

abbrev pub fetch_said : Known → List ℕ → List ℕ
fetch_said known fetch =
    if bytes_eq fetch (codes "ssl_fc") then ssl_said known.tls
    else unwrap_or (entry_in known fetches captures fetch) fetch

-- an expression with its fetch said: what stands before the first comma, if it has no argument
abbrev pub expression_by : Known → List ℕ → Option (List ℕ × List ℕ) → List ℕ
expression_by known text None = fetch_said known text
expression_by known text (Some cut) = fetch_said known cut.0 ++ codes "," ++ cut.1

abbrev pub expression_said : Known → List ℕ → List ℕ
expression_said known text = expression_by known text (cut_of (ascii ",") text)

-- ---- formats

-- what stands for a log variable at the beginning of what follows a `%`, and how many bytes it has
abbrev pub variable_by : List ℕ → Option (List ℕ) → List ℕ × ℕ
variable_by name None = (codes "%", 0)
variable_by name (Some text) = (text, length name)

abbrev pub variable_name : List ℕ → List ℕ
variable_name after = take (prefix_len is_ascii_alphanumeric after) after

abbrev pub variable_said : Known → List ℕ → List ℕ × ℕ
variable_said known after =
    variable_by (variable_name after)
    (entry_in known log_variables request_variables (variable_name after))

-- what stands for `%[EXPR]`, where these bytes follow the bracket
abbrev pub call_said : Known → List ℕ → Result CallList ArgFault → List ℕ × ℕ
call_said known inside (Ok list) =
    (codes "%[" ++ expression_said known (take (list.used - 1) inside) ++ codes "]", list.used + 1)
call_said known inside (Err fault) = (codes "%", 0)

-- what stands for a `%` and the first of these bytes, and how many of them those are
abbrev pub escape_said : Known → List ℕ → List ℕ × ℕ
escape_said known [] = (codes "%", 0)
escape_said known (b ∷ bytes) =
    if b == ascii "%" then (codes "%%", 1)
    else (if b == ascii "[" then call_said known bytes (calls_of (Some (ascii "]")) bytes)
    else variable_said known (b ∷ bytes))

-- the format, of which the first `skip` bytes are said already
abbrev pub format_from : Known → (skip : ℕ) → List ℕ → List ℕ
format_from known skip [] = []
format_from known skip (b ∷ bytes) =
    if nat_lt 0 skip then format_from known (skip - 1) bytes
    else (if b == ascii "%"
    then (escape_said known bytes).0 ++ format_from known (escape_said known bytes).1 bytes
    else b ∷ format_from known 0 bytes)

unfoldable pub format_said : Known → List ℕ → List ℕ
format_said known text = format_from known 0 text

-- ---- rules

-- an argument: by its letter a format, an expression, or any other text, which stays
abbrev pub argument_said : Known → (letter : ℕ) → List ℕ → List ℕ
argument_said known letter word =
    if letter == ascii "f" then format_said known word
    else (if letter == ascii "e" then expression_said known word else word)

-- words of which the first are arguments with these letters
abbrev pub arguments_said : Known → List ℕ → List (List ℕ) → List (List ℕ)
arguments_said known [] words = words
arguments_said known (letter ∷ letters) [] = []
arguments_said known (letter ∷ letters) (word ∷ words) =
    argument_said known letter word ∷ arguments_said known letters words

-- the letters of the arguments of an action, none of one that has no row
abbrev pub letters_of : (action : List ℕ) → List ℕ
letters_of action = unwrap_or (entry_at arguments (action_name action)) []

abbrev pub rule_formats : Known → List (List ℕ) → List (List ℕ)
rule_formats known [] = []
rule_formats known (action ∷ words) = action ∷ arguments_said known (letters_of action) words

-- The words after a keyword. The format of the statement `redirect` is none in HAProxy, which
-- doesn't fill it in.
abbrev pub statement_formats : Known → (keyword : List ℕ) → List (List ℕ) → List (List ℕ)
statement_formats known keyword words =
    if bytes_eq keyword (codes "http-request") then rule_formats known words
    else (if bytes_eq keyword (codes "use_backend") then arguments_said known (codes "f") words
    else words)

-- the words of a line with its formats and expressions said
abbrev pub formats_said : Known → List (List ℕ) → List (List ℕ)
formats_said known [] = []
formats_said known (keyword ∷ words) = keyword ∷ statement_formats known keyword words
