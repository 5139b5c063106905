-- A text that is read as a format writes it.
use Rattle.std.proofs.Common.{◌≡◌, ℕ, zero, suc, ◌≤◌, ◌==◌, List, [], ◌∷◌, ◌++◌, length, Some, Ok, Err, sym, ap, subst, arith, length-append, inl, inr}
use Rattle.std.specs.Prelude.{◌≢◌, Result}
use Rattle.std.proofs.lemmas.Bool.{cases_Bool, eqb-true, eqb-false}
use Rattle.hx_words.specs.Calls.{steps_of}
use Rattle.hx_ast.specs.declared.Part.{Part}
use Rattle.hx_calls.specs.declared.fault.SpellFault.{SpellFault}
use Rattle.hx_base.specs.Results.{◌>>=◌}
use Rattle.hx_calls.specs.Codes.{bad_format}
use Rattle.hx_calls.specs.Criteria.{expr_of}
use Rattle.hx_calls.specs.FormatRelation.{WritesFormat}
use Rattle.hx_calls.specs.FormatRelation.WritesFormat.{Nothing, PlainByte, PercentSign, ValueInBrackets}
use Rattle.hx_base.specs.Bytes.{ascii}
use Rattle.hx_calls.specs.Formats.{FormatReader, after_percent, format_of, format_within, rest_after, value_part, with_byte, with_value}
use Rattle.hx_calls.specs.Known.{Known, Reading}
use Rattle.hx_calls.proofs.ExpressionLemmas.{expr_writes}
use Rattle.hx_calls.proofs.ResultLemmas.{and_then_ok}

-- what a reader reads of texts of at most so many bytes is written
abbrev WritesWithin : ℕ → ℕ → FormatReader → Type 0
WritesWithin n line next =
    (text : List ℕ) (before : Known) (read : Reading (List Part)) → length text ≤ n
    → next text before ≡ Ok read → WritesFormat line before text read

abbrev nothing : Known → Reading (List Part)
nothing before = record { value = []; known = before }

abbrev reads : Reading (List Part) → Result (Reading (List Part)) SpellFault
reads format = Ok format

nothing_writes : (line : ℕ) (before : Known) (read : Reading (List Part))
    → reads (nothing before) ≡ reads read → WritesFormat line before [] read
nothing_writes line before read is =
    let same : nothing before ≡ read = cc in
    subst (λ (r : Reading (List Part)). WritesFormat line before [] r) same (Nothing before)

byte_writes : (n line : ℕ) (next : FormatReader) → WritesWithin n line next → (b : ℕ)
    (text : List ℕ) (before : Known) (read : Reading (List Part)) → b ≢ ascii "%"
    → length text ≤ n → (next text before >>= (λ rest. Ok (with_byte b rest))) ≡ Ok read
    → WritesFormat line before (b ∷ text) read
byte_writes n line next within b text before read other most is =
    let (others, others_are, whole) =
    and_then_ok (next text before) (λ rest. Ok (with_byte b rest)) read is in
    let same : with_byte b others ≡ read = cc in
    subst (λ (r : Reading (List Part)). WritesFormat line before (b ∷ text) r) same
    (PlainByte before b text others other (within text before others most others_are))

sign_writes : (n line : ℕ) (next : FormatReader) → WritesWithin n line next
    → (text : List ℕ) (before : Known) (read : Reading (List Part)) → length text ≤ n
    → (next text before >>= (λ rest. Ok (with_byte (ascii "%") rest))) ≡ Ok read
    → WritesFormat line before (ascii "%" ∷ ascii "%" ∷ text) read
sign_writes n line next within text before read most is =
    let (others, others_are, whole) =
    and_then_ok (next text before) (λ rest. Ok (with_byte (ascii "%") rest)) read is in
    let same : with_byte (ascii "%") others ≡ read = cc in
    subst
    (λ (r : Reading (List Part)). WritesFormat line before (ascii "%" ∷ ascii "%" ∷ text) r)
    same (PercentSign before text others (within text before others most others_are))

value_writes : (n line : ℕ) (next : FormatReader) → WritesWithin n line next
    → (text : List ℕ) (before : Known) (read : Reading (List Part)) → length text ≤ n
    → value_part next line text before ≡ Ok read
    → WritesFormat line before (ascii "%" ∷ ascii "[" ∷ text) read
value_writes n line next within text before read most is =
    let rest = rest_after (steps_of (Some (ascii "]")) text) in
    let (expr, expr_is, after) =
    and_then_ok (expr_of (Some (ascii "]")) line text before)
    (λ found. next rest found.known >>= (λ others. Ok (with_value found.value others))) read is in
    let (others, others_are, whole) =
    and_then_ok (next rest expr.known) (λ others. Ok (with_value expr.value others)) read after in
    let w = expr_writes (Some (ascii "]")) line text before expr expr_is in
    let shorter : length rest ≤ n =
    omega (arith, ap length w.whole, length-append w.inside rest) in
    let same : with_value expr.value others ≡ read = cc in
    let writes : WritesFormat line before (ascii "%" ∷ ascii "[" ∷ (w.inside ++ rest))
    (with_value expr.value others) =
    ValueInBrackets before w.inside rest expr others w.written
    (within rest expr.known others shorter others_are) in
    subst (λ (t : List ℕ). WritesFormat line before (ascii "%" ∷ ascii "[" ∷ t) read)
    (sym w.whole)
    (subst (λ (r : Reading (List Part)).
    WritesFormat line before (ascii "%" ∷ ascii "[" ∷ (w.inside ++ rest)) r) same writes)

percent_writes : (n line : ℕ) (next : FormatReader) → WritesWithin n line next
    → (text : List ℕ) (before : Known) (read : Reading (List Part)) → length text ≤ n
    → after_percent next line text before ≡ Ok read
    → WritesFormat line before (ascii "%" ∷ text) read
percent_writes n line next within [] before read most is =
    absurd (let bad : Err bad_format ≡ Ok read = is in cc)
percent_writes n line next within (b ∷ text) before read most is =
    elim (cases_Bool (b == ascii "%")) [
      | inl sign ↦
          let same : b ≡ ascii "%" = eqb-true b (ascii "%") sign in
          subst (λ (c : ℕ). WritesFormat line before (ascii "%" ∷ c ∷ text) read) (sym same)
          (sign_writes n line next within text before read (omega arith) (rw sign at is))
      | inr other ↦ elim (cases_Bool (b == ascii "[")) [
        | inl bracket ↦
            let same : b ≡ ascii "[" = eqb-true b (ascii "[") bracket in
            subst (λ (c : ℕ). WritesFormat line before (ascii "%" ∷ c ∷ text) read) (sym same)
            (value_writes n line next within text before read (omega arith)
            (rw (other, bracket) at is))
        | inr neither ↦
            absurd (let bad : Err bad_format ≡ Ok read = rw (other, neither) at is in cc)
      ]
    ]

within_writes : (n line : ℕ) → WritesWithin n line (format_within n line)
within_writes zero line [] before read most is = nothing_writes line before read is
within_writes zero line (b ∷ text) before read most is =
    absurd (let no : ⊥ = omega arith in no)
within_writes (suc n) line [] before read most is = nothing_writes line before read is
within_writes (suc n) line (b ∷ text) before read most is =
    elim (cases_Bool (b == ascii "%")) [
      | inl sign ↦
          let same : b ≡ ascii "%" = eqb-true b (ascii "%") sign in
          subst (λ (c : ℕ). WritesFormat line before (c ∷ text) read) (sym same)
          (percent_writes n line (format_within n line) (within_writes n line) text before read
          (omega arith) (rw sign at is))
      | inr other ↦
          byte_writes n line (format_within n line) (within_writes n line) b text before read
          (eqb-false b (ascii "%") other) (omega arith) (rw other at is)
    ]

pub format_writes : (line : ℕ) (before : Known) (text : List ℕ) (read : Reading (List Part))
    → format_of line text before ≡ Ok read → WritesFormat line before text read
unfolding format_of
format_writes line before text read is =
    within_writes (length text) line text before read (omega arith) is
