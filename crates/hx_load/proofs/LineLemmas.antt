-- What a loop over the lines of a configuration has read, and what the next line adds.
use Rattle.std.proofs.Common.{◌≡◌, ℕ, ◌+◌, List, [], ◌∷◌, ◌++◌, length, Option, None, Some, Result, Ok, Err, refl, sym, ap, ◌∙◌, subst, arith, append_assoc, append-nil, length-append, IsSomeAnd}
use Rattle.hx_ast.specs.declared.Statement.{Statement}
use Rattle.hx_outside.specs.Makers.{ExpressionText}
use Rattle.hx_rules.specs.Building.{with_statement}
use Rattle.hx_rules.specs.Programs.{Rules, no_rules}
use Rattle.hx_calls.specs.Known.{Known, Reading, nothing_known}
use Rattle.hx_words.specs.Variable.{Env}
use Rattle.hx_filling.specs.Refusals.{Refusal}
use Rattle.hx_load.specs.Configuration.{GiveStatements, GivesStatement, SpellsStatement, line_statement, lines_of, statements_from, then_statements}
use Rattle.hx_load.specs.Loads.{LineReads, with_statements}
use Rattle.hx_load.specs.LineReading.{AddsStatement, HasRead, IsReadAs, ReadsOnLine}
use Rattle.hx_load.proofs.LoadingLemmas.{after_lines, after_statements, line_is}

-- before the first line
pub read_none : (env : Env) (config : List ℕ)
    → HasRead env config 0 nothing_known no_rules (lines_of config)
read_none env config = record {
  statements = [];
  gave = record { lines_before = []; lines_are = refl; number = refl; given = refl };
  is = refl;
}

abbrev read_as : List Statement → Known → Reading (List Statement)
read_as statements known = record { value = statements; known = known }

give_one : (env : Env) (first number : ℕ) (lines : List (List ℕ)) (line : List ℕ) (before : Known)
    (read : Reading (List Statement)) (next : Reading Statement)
    → GiveStatements env first lines before read → number ≡ first + length lines
    → GivesStatement env number line read.known next
    → GiveStatements env first (lines ++ line ∷ []) before
    (read_as (read.value ++ next.value ∷ []) next.known)
give_one env first number [] line before read next none is given =
    let here : number ≡ first = omega (arith, is) in
    let known : read.known ≡ before = ap (λ (r : Reading (List Statement)). r.known) none in
    let value : read.value ≡ [] = ap (λ (r : Reading (List Statement)). r.value) none in (
      next,
      read_as [] next.known,
      ap (λ (v : List Statement). read_as (v ++ next.value ∷ []) next.known) value,
      subst (λ (k : Known). GivesStatement env first line k next) known
          (subst (λ (n : ℕ). GivesStatement env n line read.known next) here given),
      refl,
    )
give_one env first number (one ∷ lines) line before read next (head, others, are, gives, more) is given =
    let known : read.known ≡ others.known = ap (λ (r : Reading (List Statement)). r.known) are in
    let value : read.value ≡ head.value ∷ others.value = ap (λ (r : Reading (List Statement)). r.value) are in (
      head,
      read_as (others.value ++ next.value ∷ []) next.known,
      ap (λ (v : List Statement). read_as (v ++ next.value ∷ []) next.known) value,
      gives,
      give_one env (first + 1) number lines line head.known others next more (omega (arith, is))
          (subst (λ (k : Known). GivesStatement env number line k next) known given),
    )

-- the lines, one further
one_more : (all before : List (List ℕ)) (line : List ℕ) (left after : List (List ℕ))
    → all ≡ before ++ left → left ≡ line ∷ after → all ≡ (before ++ line ∷ []) ++ after
one_more all before line left after are is =
    are ∙ ap (λ (l : List (List ℕ)). before ++ l) is ∙ sym (append_assoc before (line ∷ []) after)

-- a statement after others
with_last : (statements : List Statement) (last : Statement) (program : Rules)
    → with_statements (statements ++ last ∷ []) program
    ≡ with_statement last (with_statements statements program)
with_last [] last program = refl
with_last (first ∷ statements) last program =
    with_last statements last (with_statement first program)

-- after a line that adds a statement
pub read_more : (env : Env) (config : List ℕ) (count : ℕ) (before after : Known)
    (program new_program : Rules) (left : List (List ℕ))
    (line : List ℕ) (rest : List (List ℕ)) → HasRead env config count before program left
    → left ≡ line ∷ rest
    → AddsStatement env (count + 1) line before after program new_program
    → HasRead env config (count + 1) after new_program rest
read_more env config count before after program new_program left line rest has is adds = record {
  statements = has.statements ++ adds.statement ∷ [];
  gave = record {
    lines_before = has.gave.lines_before ++ line ∷ [];
    lines_are = one_more (lines_of config) has.gave.lines_before line left rest has.gave.lines_are is;
    number = let size = length-append has.gave.lines_before (line ∷ []) in omega (arith, size, has.gave.number);
    given = give_one env 1 (count + 1) has.gave.lines_before line nothing_known
        (record { value = has.statements; known = before })
        (record { value = adds.statement; known = after }) has.gave.given
        (omega (arith, has.gave.number))
        (line_is env (count + 1) line before (record { value = adds.statement; known = after }) adds.says);
  };
  is = adds.is ∙ ap (with_statement adds.statement) has.is
      ∙ sym (with_last has.statements adds.statement no_rules);
}

-- what the function says of all lines, by those that are left
all_lines : (env : Env) (config : List ℕ) (count : ℕ) (before : Known)
    (program : Rules) (left : List (List ℕ))
    (has : HasRead env config count before program left)
    → statements_from env 1 (lines_of config) nothing_known
    ≡ after_statements has.statements (statements_from env (count + 1) left before)
all_lines env config count before program left has =
    let number : 1 + length has.gave.lines_before ≡ count + 1 = omega (arith, has.gave.number) in
    ap (λ (l : List (List ℕ)). statements_from env 1 l nothing_known) has.gave.lines_are
    ∙ after_lines env 1 has.gave.lines_before left nothing_known (record { value = has.statements; known = before }) has.gave.given
    ∙ ap (λ (n : ℕ). after_statements has.statements (statements_from env n left before)) number

abbrev all_read : List Statement → Known → Result (Reading (List Statement)) Refusal
all_read statements known = Ok (record { value = statements; known = known })

-- after the last line
pub read_all : (env : Env) (config : List ℕ) (count : ℕ) (known : Known)
    (program : Rules) (left : List (List ℕ))
    → HasRead env config count known program left → left ≡ []
    → IsReadAs env config known program
read_all env config count known program left has none = record {
  statements = has.statements;
  given = all_lines env config count known program left has
      ∙ ap (λ (l : List (List ℕ)). after_statements has.statements (statements_from env (count + 1) l known)) none
      ∙ ap (λ (v : List Statement). all_read v known) (append-nil has.statements);
  is = has.is;
}

-- a line that is refused
pub read_refused : (env : Env) (config : List ℕ) (count : ℕ) (known : Known)
    (program : Rules) (left : List (List ℕ)) (line : List ℕ)
    (rest : List (List ℕ)) (code : ℕ) → HasRead env config count known program left
    → left ≡ line ∷ rest → line_statement env (count + 1) line known ≡ Err code
    → statements_from env 1 (lines_of config) nothing_known
    ≡ Err (record { line = count + 1; code = code })
read_refused env config count known program left line rest code has is refused =
    all_lines env config count known program left has
    ∙ ap (λ (l : List (List ℕ)). after_statements has.statements (statements_from env (count + 1) l known)) is
    ∙ ap (λ (r : Result (Reading Statement) ℕ). after_statements has.statements (then_statements r (count + 1) (λ after. statements_from env (count + 1 + 1) rest after))) refused

-- a text of the next line is one of the configuration
line_reads : (env : Env) (config : List ℕ) (count : ℕ) (known : Known)
    (program : Rules) (left : List (List ℕ)) (line : List ℕ)
    (rest : List (List ℕ)) (text : ExpressionText) → HasRead env config count known program left
    → left ≡ line ∷ rest → ReadsOnLine env (count + 1) line known text
    → LineReads env config text
line_reads env config count known program left line rest text has is reads = record {
  lines_before = has.gave.lines_before;
  line = line;
  lines_after = rest;
  lines_are = has.gave.lines_are ∙ ap (λ (l : List (List ℕ)). has.gave.lines_before ++ l) is;
  given = record { value = has.statements; known = known };
  accepted = has.gave.given;
  read = reads.read;
  spelled = let number : count + 1 ≡ 1 + length has.gave.lines_before = omega (arith, has.gave.number) in
      subst (λ (n : ℕ). SpellsStatement env n line known reads.read) number reads.spelled;
  typed = reads.typed;
  reads = reads.reads;
}

pub large_on_line : (env : Env) (config : List ℕ) (count : ℕ) (known : Known)
    (program : Rules) (left : List (List ℕ)) (line : List ℕ)
    (rest : List (List ℕ)) (large : Option ExpressionText)
    → HasRead env config count known program left → left ≡ line ∷ rest
    → IsSomeAnd large (ReadsOnLine env (count + 1) line known)
    → IsSomeAnd large (LineReads env config)
large_on_line env config count known program left line rest None has is reads = reads
large_on_line env config count known program left line rest (Some text) has is reads =
    line_reads env config count known program left line rest text has is reads
