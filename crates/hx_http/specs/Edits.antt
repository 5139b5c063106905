-- Edits of the head of a request: what each makes of its parts, and which fault refuses it (HAProxy
-- configuration manual 2.4, section 4.2, `http-request add-header`, `del-header`, `set-header`,
-- `replace-value`, `set-method`, `set-path`, `set-query`, `set-uri`).
use Rattle.std.specs.Prelude.{◌≡◌, ℕ, ◌-◌, nat_lt, Bool, ◌&&◌, ◌||◌, not, List, [], ◌∷◌, ◌++◌, length, take, filter, slice_get, slice_set, Option, None, Some, is_some, if◌then◌else◌, nat_eq, codes, ⊤}
use Rattle.std.specs.Char.{is_ascii_graphic}
use Rattle.std.specs.List.{list_all, list_any, starts_with}
use Rattle.std.specs.Option.{option_map_or}
use Rattle.std.specs.Str.{bytes_eq, str_eq_ignore_ascii_case}
use Rattle.httparse.specs.Grammar.{is_token}
use Rattle.hx_base.specs.Bytes.{ascii, is_bad_value_byte}
use Rattle.hx_http.specs.declared.fault.EditFault.{EditFault}
use Rattle.hx_http.specs.declared.fault.EditFault.TheVariants.{BadBytes, TooMany, NoPath, NoMemory}
use Rattle.hx_http.specs.Head.{header_limit}
use Rattle.hx_http.specs.Parts.{Parts}
use Rattle.hx_http.specs.Target.{before_query, path_of, query_of, query_text}

-- ---- header lines

-- the line has the name, whose case doesn't count (RFC 9110, section 5.1)
abbrev pub has_name : List ℕ → List ℕ × List ℕ → Bool
has_name name line = str_eq_ignore_ascii_case line.0 name

-- `add-header`: the head with one header line more, after all others
abbrev pub with_header : List ℕ → List ℕ → Parts → Parts
with_header name value head = record head { headers = head.headers ++ (name, value) ∷ [] }

-- `del-header`: the head without the header lines that have the name
abbrev pub without_header : List ℕ → Parts → Parts
without_header name head =
    record head { headers = filter (λ line. not (has_name name line)) head.headers }

-- `set-header`: the head without the header lines that have the name, and then with one, which
-- comes after all others
abbrev pub with_only_header : List ℕ → List ℕ → Parts → Parts
with_only_header name value head = with_header name value (without_header name head)

-- `replace-value`: the head with another value in the header line at a position
abbrev pub with_value : ℕ → List ℕ → Parts → Parts
with_value i value head = record head {
  headers = option_map_or (λ line. slice_set head.headers i (line.0, value))
      (slice_get head.headers i) head.headers;
}

-- why a value is refused
abbrev pub value_fault : List ℕ → Option EditFault
value_fault value = if list_any is_bad_value_byte value then Some BadBytes else None

-- why a header line is refused: for its value, or else for the number of header lines after it
abbrev pub line_fault : List ℕ → Parts → Option EditFault
line_fault value after =
    if list_any is_bad_value_byte value then Some BadBytes
    else if nat_lt header_limit (length after.headers) then Some TooMany else None

-- why `add-header` is refused
abbrev pub add_header_fault : List ℕ → List ℕ → Parts → Option EditFault
add_header_fault name value head = line_fault value (with_header name value head)

-- why `set-header` is refused
abbrev pub set_header_fault : List ℕ → List ℕ → Parts → Option EditFault
set_header_fault name value head = line_fault value (with_only_header name value head)

-- ---- the method

-- `set-method`: the head with another method
abbrev pub with_method : List ℕ → Parts → Parts
with_method method head = record head { method = method }

-- why a method is refused: it is no token (RFC 9110, section 9.1)
abbrev pub method_fault : List ℕ → Option EditFault
method_fault method = if is_token method then None else Some BadBytes

-- ---- the target

-- `set-uri`: the head with another target
abbrev pub with_target : List ℕ → Parts → Parts
with_target target head = record head { target = target }

-- why a target is refused: it is empty, or has a byte outside 0x21 to 0x7E
abbrev pub target_fault : List ℕ → Option EditFault
target_fault target =
    if nat_lt 0 (length target) && list_all is_ascii_graphic target then None else Some BadBytes

-- what stands before the path of a target, which is the end of what stands before its query
abbrev pub before_path : List ℕ → List ℕ → List ℕ
before_path target path = take (length (before_query target) - length path) (before_query target)

-- The target with another path. What stands before the path, and after it, stays. The target `*` is
-- replaced whole.
abbrev pub target_with_path : List ℕ → List ℕ → List ℕ
target_with_path path target =
    if bytes_eq target (codes "*") then path
    else option_map_or (λ old. before_path target old ++ path ++ query_text (query_of target))
    (path_of target) target

-- `set-path`: the head with another path in its target
abbrev pub with_path : List ℕ → Parts → Parts
with_path path head = with_target (target_with_path path head.target) head

-- why a path is refused in a target: it doesn't begin with `/` or has a byte outside 0x21 to 0x7E,
-- or else the target isn't `*` and has no path
abbrev pub path_fault : List ℕ → List ℕ → Option EditFault
path_fault path target =
    if starts_with nat_eq path (codes "/") && list_all is_ascii_graphic path
    then (if bytes_eq target (codes "*") || is_some (path_of target) then None else Some NoPath)
    else Some BadBytes

-- The target with another query after its first `?`. Where it has none, one is added to its end and
-- then the query, but nothing where the query is empty. A `?` is never taken away.
abbrev pub target_with_query : List ℕ → List ℕ → List ℕ
target_with_query query target =
    if is_some (query_of target) || nat_lt 0 (length query)
    then before_query target ++ ascii "?" ∷ query else target

-- `set-query`: the head with another query in its target
abbrev pub with_query : List ℕ → Parts → Parts
with_query query head = with_target (target_with_query query head.target) head

-- why a query is refused: it has a byte outside 0x21 to 0x7E
abbrev pub query_fault : List ℕ → Option EditFault
query_fault query = if list_all is_ascii_graphic query then None else Some BadBytes

-- ---- what an edit answers

-- Whether a fault may come where the edit has this fault of its own, or none: its own; or that
-- memory runs out, which says nothing of the edit.
abbrev pub MayFail : Option EditFault → EditFault → Type 0
MayFail own NoMemory = ⊤
MayFail own fault = own ≡ Some fault
