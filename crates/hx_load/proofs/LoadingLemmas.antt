-- The function that reads the lines of a configuration is the relation between lines and the
-- statements that they give.
use Rattle.std.proofs.Common.{◌≡◌, ℕ, ◌+◌, Bool, true, false, inl, inr, List, [], ◌∷◌, ◌++◌, length, Result, Ok, Err, refl, sym, ap, ◌∙◌, subst, arith, if◌then◌else◌}
use Rattle.hx_ast.specs.declared.Statement.{Statement}
use Rattle.hx_rules.specs.Building.{is_statement_typed}
use Rattle.hx_calls.specs.Known.{Known, Reading}
use Rattle.hx_spell.specs.Lines.{line_of}
use Rattle.hx_calls.specs.declared.SpellFault.{SpellFault}
use Rattle.hx_spell.proofs.LineLemmas.{line_law}
use Rattle.hx_words.specs.Variable.{Env}
use Rattle.hx_words.specs.Words.{words_of}
use Rattle.hx_words.specs.declared.WordFault.{WordFault}
use Rattle.hx_filling.specs.Refusals.{Refusal, bad_pattern}
use Rattle.hx_load.specs.Configuration.{GiveStatements, GivesStatement, IsFirstRefused, IsRefused, LinesGive, SpellsStatement, bad_type, before_statements, is_statement_readable, judged_or_code, line_statement, statement_judged, statement_of_words, statements_from, then_statements}

-- ---- what a line says, from the function to the relation

abbrev LineSays : Env → ℕ → List ℕ → Known → Result (Reading Statement) ℕ → Type 0
LineSays env number line before (Ok read) = GivesStatement env number line before read
LineSays env number line before (Err code) = IsRefused env number line before code

-- a statement whose types fit or not, and whose texts are read or not
abbrev judged : Reading Statement → (typed readable : Bool) → Result (Reading Statement) ℕ
judged read true true = Ok read
judged read true false = Err bad_pattern
judged read false readable = Err bad_type

judged_by : (read : Reading Statement) (typed readable : Bool)
    → (if typed then (if readable then Ok read else Err bad_pattern) else Err bad_type)
    ≡ judged read typed readable
judged_by read true true = refl
judged_by read true false = refl
judged_by read false readable = refl

judged_is : (read : Reading Statement) → statement_judged read
    ≡ judged read (is_statement_typed read.value) (is_statement_readable read.value)
judged_is read = judged_by read (is_statement_typed read.value) (is_statement_readable read.value)

says_judged : (env : Env) (number : ℕ) (line : List ℕ) (before : Known) (read : Reading Statement)
    (typed readable : Bool) → SpellsStatement env number line before read
    → is_statement_typed read.value ≡ typed → is_statement_readable read.value ≡ readable
    → LineSays env number line before (judged read typed readable)
says_judged env number line before read true true spelled fits reads =
    (spelled.words, spelled.cut, spelled.spelled, fits, reads)
says_judged env number line before read true false spelled fits reads =
    inr (inr (inr (record { read = read; spelled = spelled; typed = fits; unreadable = reads; coded = refl })))
says_judged env number line before read false readable spelled fits reads =
    inr (inr (inl (record { read = read; spelled = spelled; untyped = fits; coded = refl })))

says_read : (env : Env) (number : ℕ) (line : List ℕ) (before : Known) (words : List (List ℕ))
    (found : Result (Reading Statement) SpellFault) → words_of env line ≡ Ok words
    → line_of number words before ≡ found → LineSays env number line before (judged_or_code found)
says_read env number line before words (Ok read) cut is =
    let spelled : SpellsStatement env number line before read = record {
      words = words;
      cut = cut;
      spelled = (line_law number words before read).0 is;
    } in
    subst (λ (r : Result (Reading Statement) ℕ). LineSays env number line before r)
    (sym (judged_is read))
    (says_judged env number line before read (is_statement_typed read.value)
    (is_statement_readable read.value) spelled refl refl)
says_read env number line before words (Err fault) cut is =
    inr (inl (record { words = words; cut = cut; fault = fault; unspelled = is; coded = refl }))

says_words : (env : Env) (number : ℕ) (line : List ℕ) (before : Known)
    (words : Result (List (List ℕ)) WordFault) → words_of env line ≡ words
    → LineSays env number line before (statement_of_words number words before)
says_words env number line before (Ok words) cut =
    says_read env number line before words (line_of number words before) cut refl
says_words env number line before (Err fault) cut =
    inl (record { fault = fault; cut = cut; coded = refl })

line_says : (env : Env) (number : ℕ) (line : List ℕ) (before : Known)
    → LineSays env number line before (line_statement env number line before)
unfolding line_statement
line_says env number line before = says_words env number line before (words_of env line) refl

-- what a line gives, by what the function says of it
pub line_is : (env : Env) (number : ℕ) (line : List ℕ) (before : Known) (read : Reading Statement)
    → line_statement env number line before ≡ Ok read
    → GivesStatement env number line before read
line_is env number line before read is =
    subst (λ (r : Result (Reading Statement) ℕ). LineSays env number line before r) is
    (line_says env number line before)

-- ---- what a line says, from the relation to the function

by_spelled : (env : Env) (number : ℕ) (line : List ℕ) (before : Known) (read : Reading Statement)
    → SpellsStatement env number line before read
    → line_statement env number line before ≡ statement_judged read
unfolding line_statement
by_spelled env number line before read s =
    ap (λ (w : Result (List (List ℕ)) WordFault). statement_of_words number w before) s.cut
    ∙ ap judged_or_code ((line_law number s.words before read).1 s.spelled)

-- what a line says, by the statement that its words spell
pub by_judged : (env : Env) (number : ℕ) (line : List ℕ) (before : Known)
    (read : Reading Statement) (typed readable : Bool)
    → SpellsStatement env number line before read
    → is_statement_typed read.value ≡ typed → is_statement_readable read.value ≡ readable
    → line_statement env number line before ≡ judged read typed readable
by_judged env number line before read typed readable s fits reads =
    by_spelled env number line before read s ∙ judged_is read
    ∙ ap (λ (t : Bool). judged read t (is_statement_readable read.value)) fits
    ∙ ap (judged read typed) reads

given_is : (env : Env) (number : ℕ) (line : List ℕ) (before : Known) (read : Reading Statement)
    → GivesStatement env number line before read
    → line_statement env number line before ≡ Ok read
given_is env number line before read (words, cut, spelled, fits, reads) =
    by_judged env number line before read true true
    (record { words = words; cut = cut; spelled = spelled }) fits reads

refused_is : (env : Env) (number : ℕ) (line : List ℕ) (before : Known) (code : ℕ)
    → IsRefused env number line before code
    → line_statement env number line before ≡ Err code
unfolding line_statement
refused_is env number line before code (inl f) =
    ap (λ (w : Result (List (List ℕ)) WordFault). statement_of_words number w before) f.cut
    ∙ ap Err (sym f.coded)
refused_is env number line before code (inr (inl f)) =
    ap (λ (w : Result (List (List ℕ)) WordFault). statement_of_words number w before) f.cut
    ∙ ap judged_or_code f.unspelled ∙ ap Err (sym f.coded)
refused_is env number line before code (inr (inr (inl f))) =
    by_judged env number line before f.read false (is_statement_readable f.read.value) f.spelled f.untyped refl
    ∙ ap Err (sym f.coded)
refused_is env number line before code (inr (inr (inr f))) =
    by_judged env number line before f.read true false f.spelled f.typed f.unreadable
    ∙ ap Err (sym f.coded)

-- ---- the lines

rest_step : (env : Env) (first : ℕ) (line : List ℕ) (lines : List (List ℕ)) (before : Known)
    (read : Reading Statement) (rest : Result (Reading (List Statement)) Refusal)
    → GivesStatement env first line before read → LinesGive env (first + 1) lines read.known rest
    → LinesGive env first (line ∷ lines) before (before_statements read.value rest)
rest_step env first line lines before read (Ok others) is gives =
    (read, others, refl, is, gives)
rest_step env first line lines before read (Err refusal) is found = record {
  lines_before = line ∷ found.lines_before;
  line = found.line;
  lines_after = found.lines_after;
  lines_are = ap (λ (l : List (List ℕ)). line ∷ l) found.lines_are;
  read = record { value = read.value ∷ found.read.value; known = found.read.known };
  accepted = (read, found.read, refl, is, found.accepted);
  number = let e = found.number in omega (arith, e);
  refused = found.refused;
}

gives_step : (env : Env) (first : ℕ) (line : List ℕ) (lines : List (List ℕ)) (before : Known)
    (said : Result (Reading Statement) ℕ) → LineSays env first line before said
    → ((known : Known) → LinesGive env (first + 1) lines known (statements_from env (first + 1) lines known))
    → LinesGive env first (line ∷ lines) before
    (then_statements said first (λ known. statements_from env (first + 1) lines known))
gives_step env first line lines before (Err code) is rest = record {
  lines_before = [];
  line = line;
  lines_after = lines;
  lines_are = refl;
  read = record { value = []; known = before };
  accepted = refl;
  number = omega arith;
  refused = is;
}
gives_step env first line lines before (Ok read) is rest =
    rest_step env first line lines before read (statements_from env (first + 1) lines read.known) is
    (rest read.known)

-- lines give what the function says
pub lines_give : (env : Env) (first : ℕ) (lines : List (List ℕ)) (before : Known)
    → LinesGive env first lines before (statements_from env first lines before)
lines_give env first [] before = refl
lines_give env first (line ∷ lines) before =
    gives_step env first line lines before (line_statement env first line before)
    (line_says env first line before) (λ known. lines_give env (first + 1) lines known)

-- ---- the first lines

-- statements, and then those of the lines after them
abbrev pub after_statements : List Statement → Result (Reading (List Statement)) Refusal
    → Result (Reading (List Statement)) Refusal
after_statements first (Ok others) =
    Ok (record { value = first ++ others.value; known = others.known })
after_statements first (Err refusal) = Err refusal

after_none : (found : Result (Reading (List Statement)) Refusal) → after_statements [] found ≡ found
after_none (Ok others) = refl
after_none (Err refusal) = refl

after_one : (first : Statement) (more : List Statement)
    (found : Result (Reading (List Statement)) Refusal)
    → before_statements first (after_statements more found) ≡ after_statements (first ∷ more) found
after_one first more (Ok others) = refl
after_one first more (Err refusal) = refl

-- lines that give statements are behind, and what the others say follows
pub after_lines : (env : Env) (first : ℕ) (lines left : List (List ℕ)) (before : Known)
    (read : Reading (List Statement)) → GiveStatements env first lines before read
    → statements_from env first (lines ++ left) before
    ≡ after_statements read.value (statements_from env (first + length lines) left read.known)
after_lines env first [] left before read is =
    let number : first ≡ first + 0 = omega arith in
    sym (after_none (statements_from env first left before))
    ∙ ap (λ (n : ℕ). after_statements [] (statements_from env n left before)) number
    ∙ sym (ap (λ (r : Reading (List Statement)). after_statements r.value (statements_from env (first + 0) left r.known)) is)
after_lines env first (line ∷ lines) left before read (one, others, is, given, gives) =
    let more : statements_from env (first + 1) (lines ++ left) one.known
    ≡ after_statements others.value (statements_from env (first + 1 + length lines) left others.known) =
    after_lines env (first + 1) lines left one.known others gives in
    let number : first + 1 + length lines ≡ first + length (line ∷ lines) = omega arith in
    ap (λ (r : Result (Reading Statement) ℕ). then_statements r first (λ known. statements_from env (first + 1) (lines ++ left) known))
    (given_is env first line before one given)
    ∙ ap (before_statements one.value) more
    ∙ after_one one.value others.value (statements_from env (first + 1 + length lines) left others.known)
    ∙ ap (λ (n : ℕ). after_statements (one.value ∷ others.value) (statements_from env n left others.known)) number
    ∙ sym (ap (λ (r : Reading (List Statement)). after_statements r.value (statements_from env (first + length (line ∷ lines)) left r.known)) is)

-- lines that give statements are read as these
pub given_are : (env : Env) (first : ℕ) (lines : List (List ℕ)) (before : Known)
    (read : Reading (List Statement)) → GiveStatements env first lines before read
    → statements_from env first lines before ≡ Ok read
given_are env first [] before read is = ap Ok (sym is)
given_are env first (line ∷ lines) before read (one, others, is, given, gives) =
    ap (λ (r : Result (Reading Statement) ℕ). then_statements r first (λ known. statements_from env (first + 1) lines known))
    (given_is env first line before one given)
    ∙ ap (before_statements one.value) (given_are env (first + 1) lines one.known others gives)
    ∙ ap Ok (sym is)

-- lines are refused at the first that is refused
pub first_refused_is : (env : Env) (first : ℕ) (lines : List (List ℕ)) (before : Known)
    (refusal : Refusal) → IsFirstRefused env first lines before refusal
    → statements_from env first lines before ≡ Err refusal
first_refused_is env first lines before refusal f =
    let left : List (List ℕ) = f.line ∷ f.lines_after in
    let here : statements_from env refusal.line left f.read.known ≡ Err refusal =
    ap (λ (r : Result (Reading Statement) ℕ). then_statements r refusal.line (λ known. statements_from env (refusal.line + 1) f.lines_after known))
    (refused_is env refusal.line f.line f.read.known refusal.code f.refused) in
    ap (λ (ls : List (List ℕ)). statements_from env first ls before) f.lines_are
    ∙ after_lines env first f.lines_before left before f.read f.accepted
    ∙ ap (λ (n : ℕ). after_statements f.read.value (statements_from env n left f.read.known)) (sym f.number)
    ∙ ap (after_statements f.read.value) here
