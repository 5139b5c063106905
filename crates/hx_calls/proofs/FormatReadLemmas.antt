-- A text that writes a format is read as it.
use Rattle.std.proofs.Common.{◌≡◌, ℕ, zero, suc, ◌≤◌, Bool, List, ◌∷◌, ◌++◌, length, Some, Ok, refl, ◌∙◌, ap, arith, length-append}
use Rattle.std.specs.Prelude.{◌≢◌, if◌then◌else◌}
use Rattle.std.proofs.lemmas.Bool.{ne_eqb}
use Rattle.hx_words.specs.Calls.{steps_of}
use Rattle.hx_ast.specs.declared.Expr.{Expr}
use Rattle.hx_ast.specs.declared.Part.{Part}
use Rattle.hx_base.specs.Results.{◌>>=◌}
use Rattle.hx_calls.specs.Criteria.{expr_of}
use Rattle.hx_calls.specs.ExpressionRelation.{WritesExpr}
use Rattle.hx_calls.specs.FormatRelation.{WritesFormat}
use Rattle.hx_calls.specs.FormatRelation.WritesFormat.{Nothing, PlainByte, PercentSign, ValueInBrackets}
use Rattle.hx_base.specs.Bytes.{ascii}
use Rattle.hx_calls.specs.Formats.{after_percent, format_of, format_within, rest_after, value_part, with_byte, with_value}
use Rattle.hx_calls.specs.Known.{Known, Reading}
use Rattle.hx_calls.proofs.ExpressionLemmas.{expr_read}
use Rattle.hx_calls.proofs.ResultLemmas.{then_ok}

byte_read : (n line : ℕ) (before : Known) (b : ℕ) (text : List ℕ) (others : Reading (List Part))
    → b ≢ ascii "%" → format_within n line text before ≡ Ok others
    → format_within (suc n) line (b ∷ text) before ≡ Ok (with_byte b others)
byte_read n line before b text others other is =
    ap (λ (c : Bool). if c then after_percent (format_within n line) line text before
    else format_within n line text before >>= (λ rest. Ok (with_byte b rest)))
    (ne_eqb b (ascii "%") other)
    ∙ then_ok (format_within n line text before) (λ rest. Ok (with_byte b rest)) others
    (with_byte b others) is refl

value_read : (n line : ℕ) (before : Known) (inside text : List ℕ) (expr : Reading Expr)
    (others : Reading (List Part)) → WritesExpr (Some (ascii "]")) line before inside expr
    → format_within n line text expr.known ≡ Ok others
    → value_part (format_within n line) line (inside ++ text) before
    ≡ Ok (with_value expr.value others)
value_read n line before inside text expr others writes is =
    let (read, left) =
    expr_read (Some (ascii "]")) line before inside expr writes text
    (λ none. absurd (let no : ⊥ = cc in no)) in
    then_ok (expr_of (Some (ascii "]")) line (inside ++ text) before)
    (λ found. format_within n line (rest_after (steps_of (Some (ascii "]")) (inside ++ text)))
    found.known >>= (λ rest. Ok (with_value found.value rest))) expr (with_value expr.value others)
    read
    (ap (λ rest. format_within n line rest expr.known
    >>= (λ rest. Ok (with_value expr.value rest))) left
    ∙ then_ok (format_within n line text expr.known) (λ rest. Ok (with_value expr.value rest))
    others (with_value expr.value others) is refl)

-- a format is read within any number of bytes that is large enough
format_reads : (line : ℕ) (before : Known) (text : List ℕ) (read : Reading (List Part))
    → WritesFormat line before text read → (n : ℕ) → length text ≤ n
    → format_within n line text before ≡ Ok read
format_reads line _ _ _ (Nothing before) zero most = refl
format_reads line _ _ _ (Nothing before) (suc n) most = refl
format_reads line _ _ _ (PlainByte before b text others other writes) zero most =
    absurd (let no : ⊥ = omega arith in no)
format_reads line _ _ _ (PlainByte before b text others other writes) (suc n) most =
    byte_read n line before b text others other
    (format_reads line before text others writes n (omega arith))
format_reads line _ _ _ (PercentSign before text others writes) zero most =
    absurd (let no : ⊥ = omega arith in no)
format_reads line _ _ _ (PercentSign before text others writes) (suc n) most =
    then_ok (format_within n line text before) (λ rest. Ok (with_byte (ascii "%") rest)) others
    (with_byte (ascii "%") others) (format_reads line before text others writes n (omega arith))
    refl
format_reads line _ _ _ (ValueInBrackets before inside text expr others written writes) zero most =
    absurd (let no : ⊥ = omega arith in no)
format_reads line _ _ _ (ValueInBrackets before inside text expr others written writes) (suc n) most =
    value_read n line before inside text expr others written
    (format_reads line expr.known text others writes n (omega (arith, length-append inside text)))

pub format_read : (line : ℕ) (before : Known) (text : List ℕ) (read : Reading (List Part))
    → WritesFormat line before text read → format_of line text before ≡ Ok read
unfolding format_of
format_read line before text read writes =
    format_reads line before text read writes (length text) (omega arith)
