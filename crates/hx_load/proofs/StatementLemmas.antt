-- What the parts of a statement, and those of a line, say of the whole.
use Rattle.std.proofs.Common.{◌≡◌, ◌≢◌, ◌↔◌, ◌&&◌, ℕ, Bool, true, false, inl, inr, List, Result, Ok, Err, refl, sym, ap, ◌∙◌, Contains, IsErrOf, OnOk}
use Rattle.hx_ast.specs.declared.Statement.{Statement}
use Rattle.hx_expr.specs.Faults.{CompileCountsLarge}
use Rattle.hx_expr.specs.declared.PlanFault.{PlanFault}
use Rattle.hx_expr.specs.declared.PlanFault.TheVariants as plan
use Rattle.hx_outside.specs.Makers.{MakerState}
use Rattle.hx_rules.specs.Building.{is_statement_typed, statement_has_expressions, statement_texts, with_statement}
use Rattle.hx_rules.specs.Programs.{Rules}
use Rattle.hx_calls.specs.Known.{Known, Reading}
use Rattle.hx_spell.specs.Lines.{line_of}
use Rattle.hx_calls.specs.declared.SpellFault.{SpellFault}
use Rattle.hx_calls.specs.declared.SpellFault.TheVariants as spell
use Rattle.hx_words.specs.Variable.{Env}
use Rattle.hx_words.specs.Words.{words_of}
use Rattle.hx_words.specs.declared.WordFault.{WordFault}
use Rattle.hx_words.specs.declared.WordFault.TheVariants as words
use Rattle.hx_load.specs.Configuration.{SpellsStatement, fault_code, is_statement_readable, judged_or_code, line_statement, spell_code, statement_has_patterns, statement_of_words}
use Rattle.hx_load.specs.Judging.{FaultOf, JudgedAs, StaysSmall}
use Rattle.hx_load.specs.LineReading.{AddsStatement, FaultOfLine, LineReadAs, ReadsOnLine}
use Rattle.hx_load.specs.Loading.{fault_of_plan, fault_of_spelling, fault_of_words}
use Rattle.hx_load.specs.Loads.{IsStatementPattern, StatementReads}
use Rattle.hx_load.specs.declared.line_fault.LineFault.{LineFault}
use Rattle.hx_load.specs.declared.line_fault.LineFault.TheVariants as fault_of
use Rattle.hx_load.proofs.JudgedLemmas.{judged_as, plan_fault, some_as, stays}
use Rattle.hx_load.proofs.LoadingLemmas.{by_judged}

-- ---- statements

no_expressions : (said : Statement) → statement_has_expressions said ≡ false
    → is_statement_readable said ≡ false
no_expressions said is = ap (λ (b : Bool). b && statement_has_patterns said) is

-- an expression of a statement has a fault
pub push_fault : {T : Type 0} (said : Statement) (fault : PlanFault) (before now : MakerState)
    → ((IsErrOf {T = T} (Err fault) plan.BadType) ↔ (is_statement_typed said ≡ false))
    → (IsErrOf {T = T} (Err fault) plan.BadPattern → statement_has_expressions said ≡ false)
    → CompileCountsLarge {T = T} (Err fault) (Contains (statement_texts said)) before now
    → FaultOf (is_statement_typed said) (is_statement_readable said) (StatementReads said) before now
    (fault_of_plan fault)
push_fault said fault before now types bad counts =
    plan_fault (is_statement_typed said) (statement_has_expressions said)
    (is_statement_readable said) (statement_texts said) (StatementReads said) fault before now types
    bad counts (no_expressions said) (λ text is. inl is)

-- the expressions of a statement have none, and its inline patterns are judged after them
pub patterns_judged : {T : Type 0} (said : Statement) (before mid now : MakerState)
    (r : Result T LineFault) → is_statement_typed said ≡ true
    → statement_has_expressions said ≡ true → StaysSmall before mid
    → JudgedAs true (statement_has_patterns said) (IsStatementPattern said) mid now r
    → JudgedAs (is_statement_typed said) (is_statement_readable said) (StatementReads said) before
    now r
patterns_judged said before mid now r fits some small is =
    judged_as true (statement_has_patterns said) (is_statement_typed said)
    (is_statement_readable said) (IsStatementPattern said) (StatementReads said) before mid now r
    (sym fits) (sym (ap (λ (b : Bool). b && statement_has_patterns said) some))
    (λ text reads. inr reads) small is

-- ---- lines

cut_wrong : (env : Env) (number : ℕ) (line : List ℕ) (before : Known) (fault : WordFault)
    → words_of env line ≡ Err fault
    → line_statement env number line before ≡ Err (fault_code fault)
unfolding line_statement
cut_wrong env number line before fault is =
    ap (λ (w : Result (List (List ℕ)) WordFault). statement_of_words number w before) is

-- the words of a line have a fault
pub word_fault : (env : Env) (number : ℕ) (line : List ℕ) (before : Known) (state : MakerState)
    (fault : WordFault) → (fault ≢ words.NoMemory → words_of env line ≡ Err fault)
    → FaultOfLine env number line before state state (fault_of_words fault)
word_fault env number line before state words.OpenQuote is =
    (cut_wrong env number line before words.OpenQuote (is (λ same. cc same)), stays state)
word_fault env number line before state words.BadEscape is =
    (cut_wrong env number line before words.BadEscape (is (λ same. cc same)), stays state)
word_fault env number line before state words.BadVariable is =
    (cut_wrong env number line before words.BadVariable (is (λ same. cc same)), stays state)
word_fault env number line before state words.TooManyWords is =
    (cut_wrong env number line before words.TooManyWords (is (λ same. cc same)), stays state)
word_fault env number line before state words.NoMemory is = stays state

spelled_wrong : (env : Env) (number : ℕ) (line : List ℕ) (before : Known) (cut : List (List ℕ))
    (fault : SpellFault) → words_of env line ≡ Ok cut → line_of number cut before ≡ Err fault
    → line_statement env number line before ≡ Err (spell_code fault)
unfolding line_statement
spelled_wrong env number line before cut fault is wrong =
    ap (λ (w : Result (List (List ℕ)) WordFault). statement_of_words number w before) is
    ∙ ap judged_or_code wrong

-- the words of a line spell no statement
pub spell_fault : (env : Env) (number : ℕ) (line : List ℕ) (before : Known) (state : MakerState)
    (cut : List (List ℕ)) (fault : SpellFault) → words_of env line ≡ Ok cut
    → (fault ≢ spell.NoMemory → line_of number cut before ≡ Err fault)
    → FaultOfLine env number line before state state (fault_of_spelling fault)
spell_fault env number line before state cut (spell.Code code) is wrong =
    (spelled_wrong env number line before cut (spell.Code code) is (wrong (λ same. cc same)), stays state)
spell_fault env number line before state cut spell.NoMemory is wrong = stays state

-- the words of a line spell a statement, which is judged
pub statement_read : {T : Type 0} (env : Env) (number : ℕ) (line : List ℕ) (before : Known)
    (read : Reading Statement) (mid now : MakerState) (r : Result T LineFault)
    → SpellsStatement env number line before read
    → JudgedAs (is_statement_typed read.value) (is_statement_readable read.value)
    (StatementReads read.value) mid now r
    → LineReadAs env number line before mid now r
statement_read env number line before read mid now (Ok x) spelled (fits, readable, small) = small
statement_read env number line before read mid now (Err (fault_of.Refused code)) spelled (inl (wrong, is), small) =
    (by_judged env number line before read false (is_statement_readable read.value) spelled wrong refl ∙ ap Err (sym is), small)
statement_read env number line before read mid now (Err (fault_of.Refused code)) spelled (inr (fits, wrong, is), small) =
    (by_judged env number line before read true false spelled fits wrong ∙ ap Err (sym is), small)
statement_read env number line before read mid now (Err fault_of.TooLarge) spelled (fits, rose, last) = (
  rose,
  some_as (StatementReads read.value) (ReadsOnLine env number line before) now.large
      (λ text reads. record { read = read; spelled = spelled; typed = fits; reads = reads }) last,
)
statement_read env number line before read mid now (Err fault_of.NoMemory) spelled small = small

-- the same statement is taken in
pub statement_added : {T : Type 0} (env : Env) (number : ℕ) (line : List ℕ) (before : Known)
    (read : Reading Statement) (mid now : MakerState) (program new_program : Rules)
    (r : Result T LineFault) → SpellsStatement env number line before read
    → JudgedAs (is_statement_typed read.value) (is_statement_readable read.value)
    (StatementReads read.value) mid now r
    → OnOk r (new_program ≡ with_statement read.value program)
    → OnOk r (AddsStatement env number line before read.known program new_program)
statement_added env number line before read mid now program new_program (Ok x) spelled (fits, readable, small) is = record {
  statement = read.value;
  says = by_judged env number line before read true true spelled fits readable;
  is = is;
}
statement_added env number line before read mid now program new_program (Err fault) spelled judged is = tt
