-- What one line of a record says. A line is here without its LF and without the CR before it.
use Rattle.std.specs.Prelude.{ℕ, ◌-◌, ◌^◌, List, [], ◌∷◌, Result, Ok, Err, ◌==◌, if◌then◌else◌, codes}
use Rattle.std.specs.Option.{ok_or}
use Rattle.std.specs.List.{slice_split, join_with_byte}
use Rattle.std.specs.Str.{bytes_eq}
use Rattle.memchr.specs.Find.{is_byte}
use Rattle.hx_base.specs.Bytes.{ascii}
use Rattle.hx_base.specs.Results.{◌>>=◌}
use Rattle.hx_text.specs.Number.{number_up_to}
use Rattle.hx_text.specs.Address.{ip_of}
use Rattle.hx_record.specs.declared.events.Event.{Event}
use Rattle.hx_record.specs.declared.events.Event.TheVariants.{Conn, Close, Cli}
use Rattle.hx_record.specs.declared.refusal.RecordRefusal.{RecordRefusal}
use Rattle.hx_record.specs.declared.refusal.RecordRefusal.TheVariants.{BadLine, BadNumber}

-- what a line says: nothing, an event, or that the `len` bytes after it are a request
pub data LineMeaning : Type 0 where
  Nothing : LineMeaning
  Says : (event : Event) → LineMeaning
  Announces : (id len : ℕ) → LineMeaning

-- a number of at most so much, in one or more decimal digits
abbrev pub number_of_word : ℕ → List ℕ → Result ℕ RecordRefusal
number_of_word most word = ok_or (number_up_to most word) BadNumber

-- the words after `conn`: a number of 32 bits, an address with its port of 16 bits, and another
unfoldable pub conn_meaning : List (List ℕ) → Result LineMeaning RecordRefusal
conn_meaning (id ∷ src ∷ src_port ∷ dst ∷ dst_port ∷ []) = do
  i ← number_of_word (2 ^ 32 - 1) id
  s ← ok_or (ip_of src) BadLine
  p ← number_of_word (2 ^ 16 - 1) src_port
  d ← ok_or (ip_of dst) BadLine
  q ← number_of_word (2 ^ 16 - 1) dst_port
  Ok (Says (Conn i s p d q))
conn_meaning _ = Err BadLine

-- the words after `req`: a number of 32 bits, and how many bytes the request has, at most 2^20
unfoldable pub req_meaning : List (List ℕ) → Result LineMeaning RecordRefusal
req_meaning (id ∷ len ∷ []) = do
  i ← number_of_word (2 ^ 32 - 1) id
  n ← number_of_word (2 ^ 20) len
  Ok (Announces i n)
req_meaning _ = Err BadLine

-- the word after `close`: a number of 32 bits
unfoldable pub close_meaning : List (List ℕ) → Result LineMeaning RecordRefusal
close_meaning (id ∷ []) = number_of_word (2 ^ 32 - 1) id >>= (λ i. Ok (Says (Close i)))
close_meaning _ = Err BadLine

-- the words after `cli`: a number of 32 bits, and then a text, which is the rest of the line with
-- all its spaces; it may be missing
unfoldable pub cli_meaning : List (List ℕ) → Result LineMeaning RecordRefusal
cli_meaning (id ∷ text) =
    number_of_word (2 ^ 32 - 1) id >>= (λ s. Ok (Says (Cli s (join_with_byte (ascii " ") text))))
cli_meaning _ = Err BadLine

-- the words of a line, the first of which says what the others are
unfoldable pub words_meaning : List (List ℕ) → Result LineMeaning RecordRefusal
words_meaning [] = Err BadLine
words_meaning (name ∷ rest) =
    if bytes_eq name (codes "conn") then conn_meaning rest
    else if bytes_eq name (codes "req") then req_meaning rest
    else if bytes_eq name (codes "close") then close_meaning rest
    else if bytes_eq name (codes "cli") then cli_meaning rest else Err BadLine

-- A line: nothing where it is empty or begins with `#`. Its words are what its spaces cut it into;
-- two spaces in a row have an empty word between them.
unfoldable pub line_meaning : List ℕ → Result LineMeaning RecordRefusal
line_meaning [] = Ok Nothing
line_meaning (b ∷ bs) =
    if b == ascii "#" then Ok Nothing
    else words_meaning (slice_split (is_byte (ascii " ")) (b ∷ bs))
