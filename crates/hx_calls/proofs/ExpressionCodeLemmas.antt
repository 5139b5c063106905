-- What is no expression, and what is no format, is refused by a code.
use Rattle.std.proofs.Common.{◌≢◌, ℕ, zero, suc, ◌==◌, List, [], ◌∷◌, length, Option, Some, Err, ap}
use Rattle.hx_base.specs.Bytes.{ascii}
use Rattle.hx_words.specs.CallForm.{CallForm}
use Rattle.hx_words.specs.Calls.{Step, steps_of, calls_of_steps}
use Rattle.hx_words.specs.Calls.Step.{Last, More, Faulty}
use Rattle.hx_words.specs.declared.ArgFault.TheVariants as arg
use Rattle.hx_ast.specs.declared.Expr.{Expr}
use Rattle.hx_calls.specs.Criteria.{convs_after, expr_of, expr_of_steps}
use Rattle.hx_calls.specs.Expressions.{fetch_call}
use Rattle.hx_calls.specs.Formats.{FormatReader, after_percent, format_of, format_within, rest_after, value_part}
use Rattle.hx_calls.specs.Known.{Known, Reading}
use Rattle.hx_calls.specs.Tables.{entry_at, fetch_names}
use Rattle.hx_calls.proofs.CallTextLemmas.{IsReading, is_reading, steps_never_lack}
use Rattle.hx_calls.proofs.CriterionFormLemmas.{call_fault_gives, last_coded, later_coded}
use Rattle.hx_calls.proofs.ResultLemmas.{IsCoded, tested_coded, then_coded}
use Rattle.hx_calls.proofs.TableFormLemmas.{fetch_name_coded}

-- ---- expressions

with_convs_coded : (line : ℕ) (steps : List Step) (known : Known) (call : CallForm)
    → IsCoded (convs_after line steps known)
    → IsCoded (expr_of_steps line (Last call [] ∷ steps) known)
with_convs_coded line steps known call later =
    then_coded (fetch_call call) _
    (fetch_name_coded (entry_at fetch_names call.name) call.args)
    (λ fetch. then_coded (convs_after line steps known) _ later (λ convs. tt))

steps_coded : (line : ℕ) (steps : List Step) (known : Known) → IsReading steps
    → calls_of_steps steps ≢ Err arg.NoMemory → IsCoded (expr_of_steps line steps known)
steps_coded line [] known reading never = tt
steps_coded line (Last call rest ∷ steps) known reading never =
    with_convs_coded line steps known call (last_coded line call rest steps known reading)
steps_coded line (More call rest ∷ steps) known reading never =
    with_convs_coded line steps known call (later_coded line call rest steps known reading never)
steps_coded line (Faulty name fault ∷ steps) known reading never =
    call_fault_gives (λ (read : Reading Expr). Unit {0}) (entry_at fetch_names name) fault
    (λ is. never (ap (λ f. Err f) is))

pub expr_coded : (stop : Option ℕ) (line : ℕ) (text : List ℕ) (known : Known)
    → IsCoded (expr_of stop line text known)
unfolding expr_of
expr_coded stop line text known =
    steps_coded line (steps_of stop text) known (is_reading stop text) (steps_never_lack stop text)

-- ---- formats

-- a reader that refuses by codes
abbrev RefusesByCodes : FormatReader → Type 0
RefusesByCodes next = (text : List ℕ) (known : Known) → IsCoded (next text known)

value_coded : (next : FormatReader) → RefusesByCodes next → (line : ℕ) (text : List ℕ)
    (known : Known) → IsCoded (value_part next line text known)
value_coded next coded line text known =
    let rest = rest_after (steps_of (Some (ascii "]")) text) in
    then_coded (expr_of (Some (ascii "]")) line text known) _
    (expr_coded (Some (ascii "]")) line text known)
    (λ expr. then_coded (next rest expr.known) _ (coded rest expr.known) (λ others. tt))

percent_coded : (next : FormatReader) → RefusesByCodes next → (line : ℕ) (text : List ℕ)
    (known : Known) → IsCoded (after_percent next line text known)
percent_coded next coded line [] known = tt
percent_coded next coded line (b ∷ text) known =
    tested_coded (b == ascii "%") _ _
    (then_coded (next text known) _ (coded text known) (λ others. tt))
    (tested_coded (b == ascii "[") _ _ (value_coded next coded line text known) tt)

within_coded : (n line : ℕ) → RefusesByCodes (format_within n line)
within_coded zero line text known = tt
within_coded (suc n) line [] known = tt
within_coded (suc n) line (b ∷ text) known =
    tested_coded (b == ascii "%") _ _
    (percent_coded (format_within n line) (within_coded n line) line text known)
    (then_coded (format_within n line text known) _ (within_coded n line text known)
    (λ others. tt))

pub format_coded : (line : ℕ) (text : List ℕ) (known : Known) → IsCoded (format_of line text known)
unfolding format_of
format_coded line text known = within_coded (length text) line text known
