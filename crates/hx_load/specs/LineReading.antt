-- What reading the lines of a configuration answers. Views of the code, for private contracts.
use Rattle.std.specs.Prelude.{◌≡◌, ℕ, true, List, ◌++◌, length, map, IsSomeAnd, Result, Ok, Err}
use Rattle.hx_ast.specs.declared.Statement.{Statement}
use Rattle.hx_outside.specs.Count.{Rose}
use Rattle.hx_outside.specs.Makers.{ExpressionText, MakerState}
use Rattle.hx_rules.specs.Building.{is_statement_typed, with_statement}
use Rattle.hx_rules.specs.Programs.{Rules, no_rules}
use Rattle.hx_rules.specs.Tables.{HasHeads, HasLists}
use Rattle.hx_calls.specs.Known.{Known, Reading, nothing_known, reading}
use Rattle.hx_calls.specs.declared.HeadSpec.{HeadSpec}
use Rattle.hx_words.specs.Variable.{Env}
use Rattle.hx_filling.specs.References.{table_head}
use Rattle.hx_load.specs.Configuration.{GiveStatements, SpellsStatement, line_statement, lines_of, statements_from}
use Rattle.hx_load.specs.Judging.{StaysSmall}
use Rattle.hx_load.specs.Loads.{StatementReads, with_statements}
use Rattle.hx_load.specs.declared.line_fault.LineFault.{LineFault}
use Rattle.hx_load.specs.declared.line_fault.LineFault.TheVariants as fault_of

-- ---- lines

-- the line with this number spells a statement whose types fit, which reads the text
pub record ReadsOnLine (env : Env) (number : ℕ) (line : List ℕ) (before : Known)
    (text : ExpressionText) : Type 0 where
  pub read : Reading Statement
  pub spelled : SpellsStatement env number line before read
  pub typed : is_statement_typed read.value ≡ true
  pub reads : StatementReads read.value text

-- a line is read with a fault: the code with which it is refused; that a text which it reads is too
-- large; out of memory
abbrev pub FaultOfLine : Env → ℕ → List ℕ → Known → MakerState → MakerState → LineFault → Type 0
FaultOfLine env number line known before now (fault_of.Refused code) =
    (line_statement env number line known ≡ Err code) × StaysSmall before now
FaultOfLine env number line known before now fault_of.TooLarge =
    Rose before.too_large now.too_large × IsSomeAnd now.large (ReadsOnLine env number line known)
FaultOfLine env number line known before now fault_of.NoMemory = StaysSmall before now

-- a line is read: it gives a statement, or has one of these faults
abbrev pub LineReadAs : {T : Type 0} → Env → ℕ → List ℕ → Known → MakerState → MakerState
    → Result T LineFault → Type 0
LineReadAs env number line known before now (Ok _) = StaysSmall before now
LineReadAs env number line known before now (Err fault) =
    FaultOfLine env number line known before now fault

-- a line gives a statement, which is added to the program
pub record AddsStatement (env : Env) (number : ℕ) (line : List ℕ) (before after : Known)
    (program new_program : Rules) : Type 0 where
  pub statement : Statement
  pub says : line_statement env number line before
      ≡ Ok (reading statement after)
  pub is : new_program ≡ with_statement statement program

-- each head that a program names is one of these, with the method by which it is searched, and each
-- list that it changes is one of so many
pub record NamesOnly (heads : List HeadSpec) (count : ℕ) (program : Rules) : Type 0 where
  pub of_heads : HasHeads (map table_head heads) program
  pub of_lists : HasLists count program

-- a line keeps that: where the program before it names heads and lists that are known, so does that
-- after it
abbrev pub KeepsNames : Known → Known → Rules → Rules → Type 0
KeepsNames before after program new_program =
    NamesOnly before.heads (length before.references) program
    → NamesOnly after.heads (length after.references) new_program

-- the lines of a configuration give the statements of this program, and after them this is known
pub record IsReadAs (env : Env) (config : List ℕ) (known : Known) (program : Rules)
    : Type 0 where
  pub statements : List Statement
  pub given : statements_from env 1 (lines_of config) nothing_known
      ≡ Ok (reading statements known)
  pub is : program ≡ with_statements statements no_rules

-- ---- a loop over lines

-- the first lines, so many, give these statements, and these lines are left
pub record GaveStatements (env : Env) (config : List ℕ) (before : Known) (count : ℕ)
    (read : Reading (List Statement)) (left : List (List ℕ)) : Type 0 where
  pub lines_before : List (List ℕ)
  pub lines_are : lines_of config ≡ lines_before ++ left
  pub number : count ≡ length lines_before
  pub given : GiveStatements env 1 lines_before before read

-- the same of the first lines, so many
pub record HasRead (env : Env) (config : List ℕ) (count : ℕ) (known : Known) (program : Rules)
    (left : List (List ℕ)) : Type 0 where
  pub statements : List Statement
  pub gave : GaveStatements env config nothing_known count
      (reading statements known) left
  pub is : program ≡ with_statements statements no_rules
