-- What is known of bytes that decide nothing.
use Rattle.std.proofs.Common.{◌≡◌, ℕ, ◌+◌, ◌-◌, ◌<◌, ◌≤◌, List, ◌++◌, length, take, drop, Result, Ok, Err, refl, sym, ap, subst, ◌∙◌, arith, inl, inr, length-append}
use Rattle.std.specs.Prelude.{IfOk}
use Rattle.std.specs.Io.BufRead.{strip_last}
use Rattle.std.proofs.lemmas.Bool.{cases_lt}
use Rattle.std.proofs.Math.Seq.{take-append-add}
use Rattle.std.proofs.lemmas.List.{take-append-le}
use Rattle.hx_text.specs.declared.fault.NoMemory.{NoMemory}
use Rattle.hx_record.specs.declared.refusal.RecordRefusal.{RecordRefusal}
use Rattle.hx_record.specs.declared.piece.Piece.{Piece}
use Rattle.hx_record.specs.declared.piece.Piece.TheVariants as pieces
use Rattle.hx_record.specs.declared.piece.Wait.{Wait}
use Rattle.hx_record.specs.declared.piece.Wait.TheVariants as waits
use Rattle.hx_record.specs.Beginning.{Continuation, Open, Undecided, request_beginning, line_beginning, beginning_of}
use Rattle.hx_record.specs.Line.{LineMeaning, Nothing, Says, Announces, line_meaning}
use Rattle.hx_record.specs.LineView.{SaysEvent}
use Rattle.hx_record.specs.PieceView.{AnnouncesRequest, line_length, meaning_without_cr, piece_beginning, IsWait, KnowsWait, WantsRequest}
use Rattle.hx_record.specs.Parts.{IsFound}
use Rattle.hx_record.proofs.WindowLemmas.{take_all}
use Rattle.hx_record.proofs.PieceLemmas.{Takes, takes, line_first, piece_whole, line_length-append, line_length-grows}

-- a line that says an event begins with it
pub says_found : (next : Continuation) (meaning : Result LineMeaning RecordRefusal) (used : ℕ) (rest : List ℕ) → SaysEvent meaning → IsFound (line_beginning next meaning used rest)
says_found next (Ok (Says event)) used rest says = says
says_found next (Ok Nothing) used rest says = absurd says
says_found next (Ok (Announces id len)) used rest says = absurd says
says_found next (Err refusal) used rest says = absurd says

-- after a line that announces a request, the request is read
pub request_first : (next : Continuation) (seen : List ℕ) (id len used : ℕ) (rest : List ℕ) → AnnouncesRequest seen id len used → rest ≡ drop used seen → request_beginning next id len used rest ≡ beginning_of next seen
request_first next seen id len used rest a after_it =
    rw (piece_whole next seen a.short a.whole, a.meaning, after_it, a.line) refl

-- the same where the line was cut off
pub announced_first : (next : Continuation) (bytes : List ℕ) (len : ℕ) (line short_line rest : List ℕ) (id size : ℕ) → len ≡ line_length bytes → len ≤ 65536 → len < length bytes → line ≡ take len bytes → short_line ≡ strip_last 13 line → rest ≡ drop 1 (drop len bytes)
    → Ok (Announces id size) ≡ line_meaning short_line → request_beginning next id size (len + 1) rest ≡ beginning_of next bytes
announced_first next bytes len line short_line rest id size first short inside cut without after_it says =
    ap (λ meaning. line_beginning next meaning (len + 1) rest) (says ∙ ap line_meaning without)
    ∙ line_first next bytes len line rest first short inside cut after_it

-- what a first line leaves undecided
pub line_waits : (bytes : List ℕ) (meaning : Result LineMeaning RecordRefusal) (p : Piece) → line_length bytes ≤ 65536 → line_length bytes < length bytes → meaning_without_cr (take (line_length bytes) bytes) ≡ meaning
    → WantsRequest p meaning (line_length bytes + 1) → KnowsWait bytes p
line_waits bytes (Ok (Announces id len)) (pieces.Undecided wait) short inside says wants =
    rw wants (record { line = refl; short = short; whole = inside; meaning = says })
line_waits bytes (Ok Nothing) (pieces.Undecided wait) short inside says wants = absurd wants
line_waits bytes (Ok (Says event)) (pieces.Undecided wait) short inside says wants = absurd wants
line_waits bytes (Err refusal) (pieces.Undecided wait) short inside says wants = absurd wants
line_waits bytes meaning pieces.TooLong short inside says wants = tt
line_waits bytes meaning pieces.Finish short inside says wants = tt
line_waits bytes meaning (pieces.Fault skip refusal) short inside says wants = tt
line_waits bytes meaning (pieces.Skip used) short inside says wants = tt
line_waits bytes meaning (pieces.Found used event) short inside says wants = tt

pub first_waits : (bytes : List ℕ) (len : ℕ) (result : Result Piece NoMemory) → len ≡ line_length bytes → len ≤ 65536 → len < length bytes
    → IfOk result (λ p. WantsRequest p (meaning_without_cr (take len bytes)) (len + 1)) → IfOk result (KnowsWait bytes)
first_waits bytes len (Ok p) first short inside wants =
    line_waits bytes _ p (omega arith) (omega arith) refl (rw first at wants)
first_waits bytes len (Err fault) first short inside wants = wants

-- what is known of bytes stays so where more follow
wait_longer : (seen more : List ℕ) (wait : Wait) → IsWait seen wait → IsWait (seen ++ more) wait
wait_longer seen more (waits.Line scanned) known = omega (arith, line_length-grows seen more, known)
wait_longer seen more (waits.Request id len used) known =
    let same = line_length-append seen more known.whole in
    record {
      line = rw same known.line;
      short = rw same known.short;
      whole = omega (arith, same, length-append seen more, known.whole);
      meaning = rw (same, take-append-le (line_length seen) seen more (omega (arith, known.whole))) known.meaning;
    }

-- under the limit too
pub wait_more : (room : ℕ) (pending got : List ℕ) (wait : Wait) → IsWait (take room pending) wait → IsWait (take room (pending ++ got)) wait
wait_more room pending got wait known = elim (cases_lt room (length pending)) [
  | inl beyond ↦ rw (take-append-le room pending got (omega arith)) known
  | inr all ↦
      let split : length pending + (room - length pending) ≡ room = omega arith in
      let longer : take room (pending ++ got) ≡ pending ++ take (room - length pending) got =
      ap (λ n. take n (pending ++ got)) (sym split) ∙ take-append-add pending got (room - length pending) in
      rw longer (wait_longer pending (take (room - length pending) got) wait (rw (take_all room pending all) at known))
]

-- what is known where a piece is undecided
pub wait_of : (next : Continuation) (seen : List ℕ) (p : Piece) (wait : Wait) → p ≡ pieces.Undecided wait → (next ≡ Open → KnowsWait seen p) → piece_beginning p ≡ beginning_of next seen → IsWait seen wait
wait_of next seen p wait is known begins =
    let undecided : beginning_of next seen ≡ Undecided = sym begins ∙ ap piece_beginning is in
    let is_open : next ≡ Open = subst (Takes next (length seen)) undecided (takes next seen) in
    rw is at (known is_open)
