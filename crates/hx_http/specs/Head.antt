-- The head that a text begins with: as a relation to the grammar, and as the function that it is.
use Rattle.std.specs.Prelude.{◌≡◌, ℕ, ◌<◌, ◌≤◌, Bool, ◌&&◌, List, length, take, drop, nat_lt, nat_le, if◌then◌else◌}
use Rattle.std.specs.List.{list_all}
use Rattle.std.specs.Str.{bytes_eq, is_utf8}
use Rattle.httparse.specs.Grammar.{RequestHead, ReadsRequest, HasNoRequest, print_request, is_token, is_uri_byte, is_value_byte}
use Rattle.hx_http.specs.Parts.{Parts, parts}
use Rattle.hx_http.specs.Lines.{possible_head}

-- The most header lines that a message may have, the request line not counted. HAProxy's default
-- for `tune.http.maxhdr` is the same number (configuration manual 2.4, section 3.2).
abbrev pub header_limit : ℕ
header_limit = 101

-- What a text begins with: a head within the limit, which has these parts and this length; a head
-- with more header lines; or no head.
pub data Head : Type 0 where
  message : Parts → ℕ → Head
  many none : Head

-- The relation. A head is one of the grammar of `httparse`: a request line and header lines as RFC
-- 9112 writes them in sections 3 and 5, ended by an empty line, where each line may end in LF
-- alone and empty lines may stand before the request line (section 2.2), the version is `HTTP/1.0`
-- or `HTTP/1.1`, and the target is text in UTF-8. The bytes that follow the head are free.
abbrev pub IsHead : List ℕ → Head → Type 0
IsHead bytes (message m n) =
    (h : RequestHead) × ReadsRequest bytes h (drop n bytes) × (n ≡ length (print_request h))
    × (length h.fields ≤ header_limit) × (m ≡ parts h)
IsHead bytes many =
    (h : RequestHead) × (rest : List ℕ) × ReadsRequest bytes h rest
    × (header_limit < length h.fields)
IsHead bytes none = HasNoRequest bytes

-- The text begins with a head, whatever the number of its header lines.
abbrev pub HasHead : List ℕ → Type 0
HasHead bytes = (h : RequestHead) × (rest : List ℕ) × ReadsRequest bytes h rest

-- Whether each part is of its kind: the method a token, the target text without blanks and control
-- bytes, the version known, and of each header line the name a token and the value without control
-- bytes but the tab (RFC 9112, section 5).
abbrev pub is_request_head : RequestHead → Bool
is_request_head h =
    is_token h.method
    && (nat_lt 0 (length h.target) && list_all is_uri_byte h.target && is_utf8 h.target)
    && nat_le h.minor 1 && list_all (λ f. is_token f.name && list_all is_value_byte f.raw) h.fields

-- The function: what the bytes begin with. Only one head could begin them, which they do where its
-- parts are of their kinds, and they begin as it is printed. `IsHead bytes (head_of bytes)` holds,
-- and `IsHead bytes head` holds for no other head.
unfoldable pub head_of : List ℕ → Head
head_of bytes =
    let h = possible_head bytes in
    let text = print_request h in
    if is_request_head h && bytes_eq (take (length text) bytes) text
    then (if nat_le (length h.fields) header_limit then message (parts h) (length text) else many)
    else none

-- The two laws by which a function gives the answers of the relation: what it gives is a head of
-- the bytes, and nothing else is.
abbrev pub GivesHeads : (List ℕ → Head) → Type 0
GivesHeads f = (bytes : List ℕ) → IsHead bytes (f bytes)

abbrev pub GivesOnlyHeads : (List ℕ → Head) → Type 0
GivesOnlyHeads f = (bytes : List ℕ) (head : Head) → IsHead bytes head → f bytes ≡ head
