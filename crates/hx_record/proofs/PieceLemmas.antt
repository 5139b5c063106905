-- What the bytes of a record begin with: what it takes of them, and that what is decided stays so.
use Rattle.std.proofs.Common.{◌≡◌, ◌≢◌, ℕ, ◌+◌, ◌<◌, ◌≤◌, ◌==◌, if◌then◌else◌, not, List, [], ◌∷◌, ◌++◌, length, get_or, take, drop, drop-drop, Result, Ok, Err, refl, sym, ap, ◌∙◌, arith, lt-ltb, inl, inr, length-drop, length-append}
use Rattle.std.specs.List.{prefix_len}
use Rattle.std.specs.Io.BufRead.{strip_last}
use Rattle.std.proofs.lemmas.Bool.{cases_lt, cond-false, le-ltb, cases_eq, eq-eqb, ne_eqb}
use Rattle.std.proofs.lemmas.List.{take_all, take-append-le, drop-append-le, get_or_append_left}
use Rattle.std.proofs.lemmas.List.Sums.{prefix_len-le-length}
use Rattle.std.proofs.lemmas.List.Folds.{prefix_len-append}
use Rattle.memchr.specs.Find.{is_byte}
use Rattle.hx_record.specs.declared.events.Event.TheVariants.{Req}
use Rattle.hx_record.specs.declared.refusal.RecordRefusal.{RecordRefusal}
use Rattle.hx_record.specs.declared.refusal.RecordRefusal.TheVariants as refusals
use Rattle.hx_record.specs.Beginning.{Continuation, Ends, Beyond, Open, Beginning, Undecided, TooLong, Finish, Fault, Skip, Found, beginning_at, request_beginning, line_beginning, beginning_of}
use Rattle.hx_record.specs.Line.{LineMeaning, Nothing, Says, Announces, line_meaning}
use Rattle.hx_record.specs.PieceView.{line_length, meaning_without_cr, last_line_beginning}

-- ---- the three ways in which the definition computes

pub piece_long : (tail : Continuation) (bytes : List ℕ) → 65536 < line_length bytes → beginning_of tail bytes ≡ Fault 0 refusals.LineTooLong
unfolding beginning_of
piece_long tail bytes long = rw (lt-ltb 65536 (line_length bytes) long) refl

pub piece_whole : (tail : Continuation) (bytes : List ℕ) → line_length bytes ≤ 65536 → line_length bytes < length bytes → beginning_of tail bytes ≡ line_beginning tail (line_meaning (strip_last 13 (take (line_length bytes) bytes))) (line_length bytes + 1) (drop (line_length bytes + 1) bytes)
unfolding beginning_of
piece_whole tail bytes short inside = rw (le-ltb 65536 (line_length bytes) short, lt-ltb (line_length bytes) (length bytes) inside) refl

pub line_length-le-length : (bytes : List ℕ) → line_length bytes ≤ length bytes
line_length-le-length bytes = prefix_len-le-length (λ x. not (is_byte 10 x)) bytes

last_is : (bytes : List ℕ) (len : ℕ) → len ≡ length bytes
    → (if len == 0 then Finish else line_beginning Ends (meaning_without_cr (take len bytes)) len []) ≡ last_line_beginning bytes
last_is [] len is = rw is refl
last_is (b ∷ bs) len is =
    cond-false (len == 0) _ _ (ne_eqb len 0 (λ e. omega (arith, e, is)))
    ∙ ap (λ n. line_beginning Ends (meaning_without_cr (take n (b ∷ bs))) n []) is
    ∙ ap (λ line. line_beginning Ends (meaning_without_cr line) (length (b ∷ bs)) []) (take_all (length (b ∷ bs)) (b ∷ bs) (omega arith))

pub piece_last : (tail : Continuation) (bytes : List ℕ) → line_length bytes ≤ 65536 → length bytes ≤ line_length bytes → beginning_of tail bytes ≡ beginning_at tail (last_line_beginning bytes)
unfolding beginning_of
piece_last tail bytes short all =
    rw (le-ltb 65536 (line_length bytes) short, le-ltb (line_length bytes) (length bytes) all)
    (ap (beginning_at tail) (last_is bytes (line_length bytes) (omega (arith, line_length-le-length bytes))))

-- the first line, cut off as the code does
pub line_first : (tail : Continuation) (bytes : List ℕ) (len : ℕ) (line rest : List ℕ) → len ≡ line_length bytes → len ≤ 65536 → len < length bytes → line ≡ take len bytes → rest ≡ drop 1 (drop len bytes) → line_beginning tail (meaning_without_cr line) (len + 1) rest ≡ beginning_of tail bytes
line_first tail bytes len line rest first short inside cut after_it =
    rw (piece_whole tail bytes (omega arith) (omega arith), cut, after_it, drop-drop, first) refl

-- ---- what a piece takes of so many bytes, and which piece needs which tail

abbrev pub Takes : Continuation → ℕ → Beginning → Type 0
Takes tail n Undecided = tail ≡ Open
Takes tail n TooLong = tail ≡ Beyond
Takes tail n Finish = tail ≡ Ends
Takes tail n (Fault skip refusal) = skip ≤ n
Takes tail n (Skip used) = (0 < used) × (used ≤ n)
Takes tail n (Found used event) = (0 < used) × (used ≤ n)

at_takes : (tail : Continuation) (n : ℕ) (p : Beginning) → Takes Ends n p → Takes tail n (beginning_at tail p)
at_takes Ends n p h = h
at_takes Beyond n p h = refl
at_takes Open n p h = refl

request_takes : (tail : Continuation) (id len used : ℕ) (rest : List ℕ) (n : ℕ) → 0 < used → used + length rest ≤ n → Takes tail n (request_beginning tail id len used rest)
unfolding request_beginning
request_takes tail id len used rest n some fits = elim (cases_lt (length rest) len) [
  | inl cut ↦ rw (lt-ltb (length rest) len cut) (at_takes tail n (Fault 0 refusals.CutRequest) (omega arith))
  | inr there ↦ rw (le-ltb (length rest) len there) (elim (cases_eq (length rest) len) [
    | inl whole ↦ rw (eq-eqb (length rest) len whole) (at_takes tail n (Found (used + len) (Req id (take len rest))) (omega arith, omega arith))
    | inr more ↦ rw (ne_eqb (length rest) len more) (elim (cases_eq (get_or rest len 0) 10) [
      | inl lf ↦ rw (eq-eqb (get_or rest len 0) 10 lf) (omega arith, omega arith)
      | inr other ↦ rw (ne_eqb (get_or rest len 0) 10 other) (omega arith)
    ])
  ])
]

line_takes : (tail : Continuation) (line : Result LineMeaning RecordRefusal) (used : ℕ) (rest : List ℕ) (n : ℕ) → 0 < used → used + length rest ≤ n → Takes tail n (line_beginning tail line used rest)
line_takes tail (Err refusal) used rest n some fits = omega arith
line_takes tail (Ok Nothing) used rest n some fits = (some, omega arith)
line_takes tail (Ok (Says event)) used rest n some fits = (some, omega arith)
line_takes tail (Ok (Announces id len)) used rest n some fits = request_takes tail id len used rest n some fits

last_takes : (bytes : List ℕ) → Takes Ends (length bytes) (last_line_beginning bytes)
last_takes [] = refl
last_takes (b ∷ bs) = line_takes Ends _ (length (b ∷ bs)) [] (length (b ∷ bs)) (omega arith) (omega arith)

pub takes : (tail : Continuation) (bytes : List ℕ) → Takes tail (length bytes) (beginning_of tail bytes)
takes tail bytes = elim (cases_lt 65536 (line_length bytes)) [
  | inl long ↦ rw (piece_long tail bytes long) (omega arith)
  | inr short ↦ elim (cases_lt (line_length bytes) (length bytes)) [
    | inl inside ↦ rw (piece_whole tail bytes short inside) (line_takes tail _ (line_length bytes + 1) (drop (line_length bytes + 1) bytes) (length bytes) (omega arith) (omega (arith, length-drop (line_length bytes + 1) bytes)))
    | inr all ↦ rw (piece_last tail bytes short all) (at_takes tail (length bytes) _ (last_takes bytes))
  ]
]

-- ---- what bytes decide is so whatever follows them

-- an LF that is there stays the first
pub line_length-append : (seen more : List ℕ) → line_length seen < length seen → line_length (seen ++ more) ≡ line_length seen
line_length-append seen more inside =
    prefix_len-append (λ x. not (is_byte 10 x)) seen more ∙ rw (ne_eqb (line_length seen) (length seen) (λ e. omega arith)) refl

-- and where none is there, the line only grows
pub line_length-grows : (seen more : List ℕ) → line_length seen ≤ line_length (seen ++ more)
line_length-grows seen more = elim (cases_lt (line_length seen) (length seen)) [
  | inl inside ↦ let e = line_length-append seen more inside in omega arith
  | inr all ↦
      let same : line_length seen ≡ length seen = omega (arith, line_length-le-length seen) in
      let e : line_length (seen ++ more) ≡ length seen + prefix_len (λ x. not (is_byte 10 x)) more =
      prefix_len-append (λ x. not (is_byte 10 x)) seen more ∙ rw (eq-eqb (line_length seen) (length seen) same) refl in
      omega arith
]

request_decided : (tail : Continuation) (id len used : ℕ) (rest more : List ℕ) → request_beginning Open id len used rest ≢ Undecided → request_beginning tail id len used (rest ++ more) ≡ request_beginning Open id len used rest
unfolding request_beginning
request_decided tail id len used rest more known = elim (cases_lt (length rest) len) [
  | inl cut ↦ absurd (known (rw (lt-ltb (length rest) len cut) refl))
  | inr there ↦ elim (cases_eq (length rest) len) [
    | inl whole ↦ absurd (known (rw (le-ltb (length rest) len there, eq-eqb (length rest) len whole) refl))
    | inr inside ↦
        let longer = length-append rest more in
        let further : ¬ (length (rest ++ more) ≡ len) = λ e. inside (omega arith) in
        rw (
          le-ltb (length rest) len there,
          ne_eqb (length rest) len inside,
          le-ltb (length (rest ++ more)) len (omega arith),
          ne_eqb (length (rest ++ more)) len further,
          get_or_append_left rest more 0 len (omega arith),
          take-append-le len rest more (omega arith),
        ) refl
  ]
]

line_decided : (tail : Continuation) (line : Result LineMeaning RecordRefusal) (used : ℕ) (rest more : List ℕ) → line_beginning Open line used rest ≢ Undecided → line_beginning tail line used (rest ++ more) ≡ line_beginning Open line used rest
line_decided tail (Err refusal) used rest more known = refl
line_decided tail (Ok Nothing) used rest more known = refl
line_decided tail (Ok (Says event)) used rest more known = refl
line_decided tail (Ok (Announces id len)) used rest more known = request_decided tail id len used rest more known

pub piece_decided : (tail : Continuation) (seen more : List ℕ) → beginning_of Open seen ≢ Undecided → beginning_of tail (seen ++ more) ≡ beginning_of Open seen
piece_decided tail seen more known = elim (cases_lt 65536 (line_length seen)) [
  | inl long ↦ piece_long tail (seen ++ more) (omega (arith, line_length-grows seen more)) ∙ sym (piece_long Open seen long)
  | inr short ↦ elim (cases_lt (line_length seen) (length seen)) [
    | inl inside ↦
        let same = line_length-append seen more inside in
        let further : line_length (seen ++ more) < length (seen ++ more) = omega (arith, length-append seen more) in
        let here = piece_whole Open seen short inside in
        let there : beginning_of tail (seen ++ more) ≡ line_beginning tail (line_meaning (strip_last 13 (take (line_length seen) seen))) (line_length seen + 1) (drop (line_length seen + 1) seen ++ more) =
        piece_whole tail (seen ++ more) (omega arith) further ∙ rw (same, take-append-le (line_length seen) seen more (omega arith), drop-append-le (line_length seen + 1) seen more (omega arith)) refl in
        there ∙ line_decided tail _ _ _ more (λ e. known (here ∙ e)) ∙ sym here
    | inr all ↦ absurd (known (piece_last Open seen short all))
  ]
]
