-- What a configuration loads as: a program, the refusal of its first fault, or nothing where a file
-- is missing. First all lines are judged, then the numbers that they give, then the files that
-- their rules change, and then files and inline patterns in the order of their first appearance.
use Rattle.std.specs.Prelude.{◌≡◌, fold, ℕ, ◌+◌, ◌⊎◌, true, List, [], ◌∷◌, ◌++◌, length, Contains, Option, None, Some, Result, Ok, Err}
use Rattle.std.specs.List.{list_all}
use Rattle.hx_ast.specs.declared.AclUse.{AclUse}
use Rattle.hx_ast.specs.declared.AclUse.TheVariants.{Named, Own}
use Rattle.hx_ast.specs.declared.Decl.{Decl}
use Rattle.hx_ast.specs.declared.Statement.{Statement}
use Rattle.hx_ast.specs.declared.Statement.TheVariants as statement
use Rattle.hx_ast.specs.declared.Term.{Term}
use Rattle.hx_base.specs.Pairs.{NamedBytes}
use Rattle.hx_outside.specs.Makers.{ExpressionText}
use Rattle.hx_refs.specs.References.{References}
use Rattle.hx_refs.specs.declared.Limits.{Limits}
use Rattle.hx_rules.specs.Building.{is_statement_typed, statement_texts, with_statement}
use Rattle.hx_rules.specs.Programs.{Rules, no_rules}
use Rattle.hx_calls.specs.Known.{Known, Reading, nothing_known}
use Rattle.hx_calls.specs.TableSpecs.{table_specs}
use Rattle.hx_text.specs.declared.By.TheVariants as method
use Rattle.hx_words.specs.Variable.{Env}
use Rattle.hx_filling.specs.Refusals.{Refusal}
use Rattle.hx_filling.specs.References.{Filled, Whole, Refused as FillRefused, Missing as FillMissing, AreFilled, FillingAsksFor, FillingReads, HaveDistinctNumbers, IsFirstMissing, IsFirstRepeated, IsFirstUnfilled, IsFirstUnknown, declared_references, filled_from, first_unknown, id_taken, is_known, repeated_after, unknown_table}
use Rattle.hx_load.specs.Configuration.{GiveStatements, IsFirstRefused, SpellsStatement, lines_of, statements_from}

-- ---- programs

-- a program, with what statements add to it, in their order
abbrev pub with_statements : List Statement → Rules → Rules
with_statements statements rules = fold (λ now next. with_statement next now) rules statements

-- ---- loading

pub data Loading : Type 0 where
  Accepted : (program : Rules) → (references : References) → Loading
  Refused : (refusal : Refusal) → Loading
  Missing : (name : List ℕ) → Loading

abbrev pub declared : Limits → Known → References
declared limits known = declared_references limits (table_specs known) known.heads

-- statements of lines that have no fault, and the references that they bring
abbrev pub loading_filled : List Statement → Filled → Loading
loading_filled statements (Whole references) =
    Accepted (with_statements statements no_rules) references
loading_filled statements (FillRefused refusal) = Refused refusal
loading_filled statements (FillMissing name) = Missing name

abbrev pub loading_named : Limits → NamedBytes → Reading (List Statement) → Option ℕ → Loading
loading_named limits files read (Some line) =
    Refused (record { line = line; code = unknown_table })
loading_named limits files read None =
    loading_filled read.value
    (filled_from files 0 (table_specs read.known) (declared limits read.known))

abbrev pub loading_numbered : Limits → NamedBytes → Reading (List Statement) → Option ℕ → Loading
loading_numbered limits files read (Some line) = Refused (record { line = line; code = id_taken })
loading_numbered limits files read None =
    loading_named limits files read (first_unknown (table_specs read.known))

abbrev pub loading_of : Limits → NamedBytes → Result (Reading (List Statement)) Refusal → Loading
loading_of limits files (Err refusal) = Refused refusal
loading_of limits files (Ok read) =
    loading_numbered limits files read (repeated_after [] (table_specs read.known))

-- what a configuration loads as under an environment, limits of its references, and files
unfoldable pub loaded : Env → Limits → NamedBytes → List ℕ → Loading
loaded env limits files config =
    loading_of limits files (statements_from env 1 (lines_of config) nothing_known)

-- ---- the relation

-- all lines give statements, no number is given twice, and each file that a rule changes is named
-- by a `-f` or a map
pub record GivesReferences (env : Env) (config : List ℕ) (read : Reading (List Statement))
    : Type 0 where
  pub given : GiveStatements env 1 (lines_of config) nothing_known read
  pub once : HaveDistinctNumbers (table_specs read.known)
  pub named : list_all is_known (table_specs read.known) ≡ true

-- a number is given twice, for the first time on this line
pub record GivesTwice (env : Env) (config : List ℕ) (refusal : Refusal) : Type 0 where
  pub read : Reading (List Statement)
  pub given : GiveStatements env 1 (lines_of config) nothing_known read
  pub twice : IsFirstRepeated (table_specs read.known) refusal.line
  pub code : refusal.code ≡ id_taken

-- no number is given twice, and a rule changes a file that is named nowhere else, for the first
-- time on this line
pub record ChangesUnknown (env : Env) (config : List ℕ) (refusal : Refusal) : Type 0 where
  pub read : Reading (List Statement)
  pub given : GiveStatements env 1 (lines_of config) nothing_known read
  pub once : HaveDistinctNumbers (table_specs read.known)
  pub unknown : IsFirstUnknown (table_specs read.known) refusal.line
  pub code : refusal.code ≡ unknown_table

-- a configuration is refused by its lines alone, whatever its files hold
abbrev pub IsRefusedByLines : Env → List ℕ → Refusal → Type 0
IsRefusedByLines env config refusal =
    IsFirstRefused env 1 (lines_of config) nothing_known refusal
    ⊎ (GivesTwice env config refusal ⊎ ChangesUnknown env config refusal)

-- an entry is refused
pub record HasEntryFault (env : Env) (limits : Limits) (files : NamedBytes) (config : List ℕ)
    (refusal : Refusal) : Type 0 where
  pub read : Reading (List Statement)
  pub lines : GivesReferences env config read
  pub refused : IsFirstUnfilled files 0 (table_specs read.known) (declared limits read.known)
      refusal

-- a file is missing
pub record LacksFile (env : Env) (limits : Limits) (files : NamedBytes) (config : List ℕ)
    (name : List ℕ) : Type 0 where
  pub read : Reading (List Statement)
  pub lines : GivesReferences env config read
  pub missing : IsFirstMissing files 0 (table_specs read.known) (declared limits read.known) name

-- A configuration is accepted: its lines give statements, which make the program, and the
-- references that these bring have all their entries.
abbrev pub GivesProgram : Env → Limits → NamedBytes → List ℕ → Rules → References → Type 0
GivesProgram env limits files config program references =
    (read : Reading (List Statement)) × GivesReferences env config read
    × AreFilled files 0 (table_specs read.known) (declared limits read.known) references
    × (program ≡ with_statements read.value no_rules)

-- What the lines of a configuration bring, whatever its files hold: they give statements, which
-- make the program, and these are the references that they bring, before they have entries.
abbrev pub LinesBring : Env → Limits → List ℕ → Rules → References → Type 0
LinesBring env limits config program references =
    (read : Reading (List Statement)) × GivesReferences env config read
    × (program ≡ with_statements read.value no_rules)
    × (references ≡ declared limits read.known)

-- What a configuration loads as. It is refused at the first line with a fault; else where a number
-- is given twice; else where a rule changes a file that is named nowhere else; else at the first
-- entry with a fault, or says nothing where a file is missing before that.
abbrev pub Loads : Env → Limits → NamedBytes → List ℕ → Loading → Type 0
Loads env limits files config (Accepted program references) =
    GivesProgram env limits files config program references
Loads env limits files config (Refused refusal) =
    IsRefusedByLines env config refusal ⊎ HasEntryFault env limits files config refusal
Loads env limits files config (Missing name) = LacksFile env limits files config name

-- ---- texts that are read as regular expressions

-- the inline patterns that an ACL reads so
abbrev pub IsPatternText : Decl → ExpressionText → Type 0
IsPatternText decl text =
    (decl.by ≡ method.Reg) × Contains decl.words text.text × (text.ci ≡ decl.ci)

-- the ACL of a term does, where it stands in the condition itself
abbrev pub IsUsePattern : AclUse → ExpressionText → Type 0
IsUsePattern (Named name) text = ⊥
IsUsePattern (Own decl) text = IsPatternText decl text

abbrev pub IsConjPattern : List Term → ExpressionText → Type 0
IsConjPattern conj text = (term : Term) × Contains conj term × IsUsePattern term.acl text

abbrev pub IsCondPattern : List (List Term) → ExpressionText → Type 0
IsCondPattern cond text = (conj : List Term) × Contains cond conj × IsConjPattern conj text

abbrev pub IsWhenPattern : Option (List (List Term)) → ExpressionText → Type 0
IsWhenPattern None text = ⊥
IsWhenPattern (Some cond) text = IsCondPattern cond text

-- the inline patterns that a statement reads so
abbrev pub IsStatementPattern : Statement → ExpressionText → Type 0
IsStatementPattern statement.Plain text = ⊥
IsStatementPattern (statement.Acl line name decl) text = IsPatternText decl text
IsStatementPattern (statement.Rule rule) text = IsWhenPattern rule.cond text
IsStatementPattern (statement.Redirect rule) text = IsWhenPattern rule.cond text
IsStatementPattern (statement.Backend line format unless cond) text = IsWhenPattern cond text
IsStatementPattern (statement.Fallback line name) text = ⊥

abbrev pub StatementReads : Statement → ExpressionText → Type 0
StatementReads statement text =
    Contains (statement_texts statement) text ⊎ IsStatementPattern statement text

-- the line after lines that give statements spells one whose types fit, which reads the text
pub record LineReads (env : Env) (config : List ℕ) (text : ExpressionText) : Type 0 where
  pub lines_before : List (List ℕ)
  pub line : List ℕ
  pub lines_after : List (List ℕ)
  pub lines_are : lines_of config ≡ lines_before ++ line ∷ lines_after
  pub given : Reading (List Statement)
  pub accepted : GiveStatements env 1 lines_before nothing_known given
  pub read : Reading Statement
  pub spelled : SpellsStatement env (1 + length lines_before) line given.known read
  pub typed : is_statement_typed read.value ≡ true
  pub reads : StatementReads read.value text

-- all lines give statements, and an entry is read so
pub record EntryReads (env : Env) (limits : Limits) (files : NamedBytes) (config : List ℕ)
    (text : ExpressionText) : Type 0 where
  pub read : Reading (List Statement)
  pub lines : GivesReferences env config read
  pub asked : FillingAsksFor files 0 (table_specs read.known) (declared limits read.known) text

-- a file is one to which a configuration comes when it is loaded, with no fault before it
pub record ReadsFile (env : Env) (limits : Limits) (files : NamedBytes) (config : List ℕ)
    (name : List ℕ) : Type 0 where
  pub read : Reading (List Statement)
  pub lines : GivesReferences env config read
  pub reads : FillingReads files 0 (table_specs read.known) (declared limits read.known) name

-- a text is read as a regular expression when a configuration is loaded, before its first fault
abbrev pub Judges : Env → Limits → NamedBytes → List ℕ → ExpressionText → Type 0
Judges env limits files config text =
    LineReads env config text ⊎ EntryReads env limits files config text
