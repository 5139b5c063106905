-- What the code finds in the pending bytes, in the words of the definitions.
use Rattle.std.specs.Prelude.{◌≡◌, ℕ, ◌+◌, ◌<◌, ◌≤◌, List, [], ◌∷◌, length, take, Result, Ok, ⊤}
use Rattle.std.specs.List.{position_or_len}
use Rattle.std.specs.Io.BufRead.{strip_last}
use Rattle.memchr.specs.Find.{is_byte}
use Rattle.hx_base.specs.Bytes.{ascii}
use Rattle.hx_record.specs.Beginning.{Continuation, Beginning, line_beginning}
use Rattle.hx_record.specs.Beginning as beginnings
use Rattle.hx_record.specs.Line.{LineMeaning, Announces, line_meaning}
use Rattle.hx_record.specs.declared.refusal.RecordRefusal.{RecordRefusal}
use Rattle.hx_record.specs.declared.piece.Wait.{Wait}
use Rattle.hx_record.specs.declared.piece.Wait.TheVariants as waits
use Rattle.hx_record.specs.declared.piece.Tail.{Tail}
use Rattle.hx_record.specs.declared.piece.Tail.TheVariants as tails
use Rattle.hx_record.specs.declared.events.Event.TheVariants.{Req}
use Rattle.hx_record.specs.declared.piece.Piece.{Piece}
use Rattle.hx_record.specs.declared.piece.Piece.TheVariants as pieces
use Rattle.hx_record.specs.declared.piece.FoundRequest.{FoundRequest}

abbrev pub continuation : Tail → Continuation
continuation tails.Ends = beginnings.Ends
continuation tails.Beyond = beginnings.Beyond
continuation tails.Open = beginnings.Open

abbrev pub piece_beginning : Piece → Beginning
piece_beginning (pieces.Undecided wait) = beginnings.Undecided
piece_beginning pieces.TooLong = beginnings.TooLong
piece_beginning pieces.Finish = beginnings.Finish
piece_beginning (pieces.Fault skip refusal) = beginnings.Fault skip refusal
piece_beginning (pieces.Skip used) = beginnings.Skip used
piece_beginning (pieces.Found used event) = beginnings.Found used event

-- how many bytes stand before the first LF, or in all where there is none
abbrev pub line_length : List ℕ → ℕ
line_length bytes = position_or_len (is_byte (ascii "\n")) bytes

-- what a line means, whose CR at the end is dropped
abbrev pub meaning_without_cr : List ℕ → Result LineMeaning RecordRefusal
meaning_without_cr line = line_meaning (strip_last (ascii "\r") line)

-- what the last line is, which no LF ends, and none where it has no byte
abbrev pub last_line_beginning : List ℕ → Beginning
last_line_beginning [] = beginnings.Finish
last_line_beginning (b ∷ bs) =
    line_beginning beginnings.Ends (meaning_without_cr (b ∷ bs)) (length (b ∷ bs)) []

-- the first line, of `used` bytes with its LF, announces a request
pub record AnnouncesRequest (seen : List ℕ) (id len used : ℕ) : Type 0 where
  pub line : used ≡ line_length seen + 1
  pub short : line_length seen ≤ 65536
  pub whole : line_length seen < length seen
  pub meaning : meaning_without_cr (take (line_length seen) seen) ≡ Ok (Announces id len)

-- What is known of bytes that decide nothing: no LF is among the first `scanned` of them, or they
-- begin with a line that announces a request.
abbrev pub IsWait : List ℕ → Wait → Type 0
IsWait seen (waits.Line scanned) = scanned ≤ line_length seen
IsWait seen (waits.Request id len used) = AnnouncesRequest seen id len used

-- where the bytes decide nothing, that is known of them
abbrev pub KnowsWait : List ℕ → Piece → Type 0
KnowsWait seen (pieces.Undecided wait) = IsWait seen wait
KnowsWait seen _ = ⊤

-- where a line of `used` bytes leaves it undecided, the line announces a request
abbrev pub WantsRequest : Piece → Result LineMeaning RecordRefusal → ℕ → Type 0
WantsRequest (pieces.Undecided wait) (Ok (Announces id len)) used = wait ≡ waits.Request id len used
WantsRequest (pieces.Undecided wait) _ used = ⊥
WantsRequest _ meaning used = ⊤

-- bytes that begin so begin with this request
abbrev pub BeginsWith : Beginning → FoundRequest → Type 0
BeginsWith beginning request =
    beginning ≡ beginnings.Found request.used (Req request.id request.bytes)
