-- What lint tells of a configuration: of each line that is refused its code, the name of that and
-- the word; of each other line the topics that it shows, and the variables that it reads and no
-- line sets.
use Rattle.std.specs.Prelude.{ℕ, ◌||◌, Bool, false, List, [], ◌∷◌, ◌++◌, codes, flat_map, map, if◌then◌else◌}
use Rattle.std.specs.Fmt.{decimal}
use Rattle.std.specs.List.{list_any}
use Rattle.hx_ast.specs.declared.statement.Statement.{Statement}
use Rattle.hx_program.specs.Tables.{meaning_of}
use Rattle.hx_program.specs.declared.codes.TheConstants.{CONFIG_CODES}
use Rattle.hx_words.specs.Variable.{Env}
use Rattle.hx_calls.specs.declared.table_specs.HeadSpec.{HeadSpec}
use Rattle.hx_lint.specs.Judging.{all_judged}
use Rattle.hx_lint.specs.Topics.{Context, line_sets_method, shows}
use Rattle.hx_lint.specs.Variables.{place_text, unset_told}
use Rattle.hx_lint.specs.declared.judging.JudgedLine.{JudgedLine}
use Rattle.hx_lint.specs.declared.judging.Judgement.{Judgement}
use Rattle.hx_lint.specs.declared.judging.Judgement.TheVariants.{Taken, Refused}
use Rattle.hx_lint.specs.declared.topics.Topic.{Topic}
use Rattle.hx_lint.specs.declared.topics.TheConstants.{TOPICS}

-- ---- a line that is refused

-- the name of a code that is written so
abbrev pub name_of : List ℕ → List ℕ
name_of code =
    (meaning_of (map (λ row. (row.0.now, row.1.now, row.2.now)) CONFIG_CODES) code).0

abbrev pub refused_told : (number code : ℕ) → List ℕ → List ℕ
refused_told number code word =
    place_text number ++ codes "refused " ++ decimal code ++ codes " " ++ name_of (decimal code)
    ++ codes " " ++ word ++ codes "\n"

-- ---- a line that is taken

abbrev pub differs_line : ℕ → List ℕ → List ℕ
differs_line number name = place_text number ++ codes "differs " ++ name ++ codes "\n"

-- of a row of topics, where the statement shows it
abbrev pub topic_told : Context → ℕ → List (List ℕ) → Statement → Topic × List ℕ → List ℕ
topic_told here number words st row =
    if shows row.0 here words st then differs_line number row.1 else []

-- of several rows
abbrev pub rows_told : Context → ℕ → List (List ℕ) → Statement → List (Topic × List ℕ) → List ℕ
rows_told here number words st rows = flat_map (topic_told here number words st) rows

-- of all topics
unfoldable pub topics_told : Context → ℕ → List (List ℕ) → Statement → List ℕ
topics_told here number words st =
    rows_told here number words st (map (λ row. (row.0, row.1.now)) TOPICS)

-- ---- all

-- a context, with whether a line above changes the method
abbrev pub context : List JudgedLine → List HeadSpec → (above anywhere : Bool) → Context
context lines heads above anywhere =
    record { lines = lines; heads = heads; above = above; anywhere = anywhere }

abbrev pub judgement_told : Context → ℕ → Judgement → List ℕ
judgement_told here number (Refused code word) = refused_told number code word
judgement_told here number (Taken words st) =
    topics_told here number words st ++ unset_told here.lines number st

-- What is told of some lines, where `all` are those of the configuration. A line above them changes
-- the method, or none does.
abbrev pub lines_told : (all : List JudgedLine) → List HeadSpec → (above anywhere : Bool)
    → List JudgedLine → List ℕ
lines_told all heads above anywhere [] = []
lines_told all heads above anywhere (line ∷ lines) =
    judgement_told (context all heads above anywhere) line.number line.judgement
    ++ lines_told all heads (above || line_sets_method line) anywhere lines

-- the same of all lines
abbrev pub all_told : List JudgedLine → List HeadSpec → List ℕ
all_told lines heads = lines_told lines heads false (list_any line_sets_method lines) lines

-- what is told of a configuration under an environment
unfoldable pub lint_text : Env → List ℕ → List ℕ
lint_text env config =
    let read = all_judged env config in all_told read.value read.known.heads
