-- What the bytes of a record begin with: a line that says nothing, an event, the record's end, or
-- what is refused.
use Rattle.std.specs.Prelude.{ℕ, ◌+◌, List, [], length, take, drop, slice_index, Result, Ok, Err, ◌==◌, nat_lt, if◌then◌else◌}
use Rattle.std.specs.List.{position_or_len}
use Rattle.std.specs.Io.BufRead.{strip_last}
use Rattle.memchr.specs.Find.{is_byte}
use Rattle.hx_base.specs.Bytes.{ascii}
use Rattle.hx_record.specs.Line.{LineMeaning, Nothing, Says, Announces, line_meaning}
use Rattle.hx_record.specs.declared.events.Event.{Event}
use Rattle.hx_record.specs.declared.events.Event.TheVariants.{Req}
use Rattle.hx_record.specs.declared.refusal.RecordRefusal.{RecordRefusal}
use Rattle.hx_record.specs.declared.refusal.RecordRefusal.TheVariants as refusals

-- What follows the bytes of a record that are given: the record's end, the byte at the limit, or
-- nothing that is known.
pub data Continuation : Type 0 where
  Ends Beyond Open : Continuation

-- What they begin with: more bytes decide it; the byte at the limit is needed, and is there; the
-- record's end; what is refused, `skip` bytes on; a line of `used` bytes that says nothing; an
-- event of `used` bytes.
pub data Beginning : Type 0 where
  Undecided TooLong Finish : Beginning
  Fault : (skip : ℕ) (refusal : RecordRefusal) → Beginning
  Skip : (used : ℕ) → Beginning
  Found : (used : ℕ) (event : Event) → Beginning

-- What bytes begin with that need what follows them: this one, if the record ends there.
abbrev pub beginning_at : Continuation → Beginning → Beginning
beginning_at Ends at_end = at_end
beginning_at Beyond at_end = TooLong
beginning_at Open at_end = Undecided

-- a request of `len` bytes, the first of `rest`, after a line of `used` bytes: the record's end or
-- an LF follows it
unfoldable pub request_beginning : Continuation → ℕ → ℕ → ℕ → List ℕ → Beginning
request_beginning next id len used rest =
    let request = Req id (take len rest) in
    if nat_lt (length rest) len then beginning_at next (Fault 0 refusals.CutRequest)
    else if length rest == len then beginning_at next (Found (used + len) request)
    else if slice_index rest len == ascii "\n" then Found (used + len + 1) request
    else Fault (used + len) refusals.BadLine

-- a line of `used` bytes with its ending, by what it means, where `rest` follows it
abbrev pub line_beginning : Continuation → Result LineMeaning RecordRefusal → ℕ → List ℕ → Beginning
line_beginning next (Err refusal) used rest = Fault 0 refusal
line_beginning next (Ok Nothing) used rest = Skip used
line_beginning next (Ok (Says event)) used rest = Found used event
line_beginning next (Ok (Announces id len)) used rest = request_beginning next id len used rest

-- What the bytes begin with. A line has at most 65,536 bytes before its LF, with the CR that may
-- end it and says nothing. Lines that say nothing count too. The last line may have no LF; where it
-- has no byte either, it is none.
unfoldable pub beginning_of : Continuation → List ℕ → Beginning
beginning_of next bytes =
    let len = position_or_len (is_byte (ascii "\n")) bytes in
    let line = line_meaning (strip_last (ascii "\r") (take len bytes)) in
    if nat_lt 65536 len then Fault 0 refusals.LineTooLong
    else if nat_lt len (length bytes) then line_beginning next line (len + 1) (drop (len + 1) bytes)
    else beginning_at next (if len == 0 then Finish else line_beginning Ends line len [])
