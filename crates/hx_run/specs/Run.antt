-- What a run writes, and its status.
use Rattle.std.specs.Prelude.{⊤, ◌≡◌, ◌++◌, ℕ, List, [], ◌∷◌, length, codes, Contains, Option, None, Some, option_map, if◌then◌else◌}
use Rattle.std.specs.Fmt.{decimal}
use Rattle.std.specs.Io.KnownBytes.{Appends}
use Rattle.std.specs.Str.{bytes_eq}
use Rattle.std.specs.declared.alloc.Global.{Global}
use Rattle.std.specs.declared.vec.Vec.{Vec}
use Rattle.hx_base.specs.Pairs.{NamedBytes, pairs_of}
use Rattle.hx_core.specs.Steps.{EventAsksFor}
use Rattle.hx_load.specs.Loads.{Loading, loaded}
use Rattle.hx_load.specs.Loads as loading
use Rattle.hx_outside.specs.Log.{Log}
use Rattle.hx_outside.specs.Makers.{ExpressionText}
use Rattle.hx_outside.specs.Prefixes.{AppendsPrefix}
use Rattle.hx_program.specs.Machine.{texts_of}
use Rattle.hx_record.specs.Record.{record_items}
use Rattle.hx_record.specs.declared.Event.{Event}
use Rattle.hx_refs.specs.References.{References}
use Rattle.hx_rules.specs.Programs.{Rules, rule_count}
use Rattle.hx_words.specs.Variable.{Env}
use Rattle.hx_replay.specs.Configs.{ConfigGives, ConfigJudgesLast, ConfigSetting, HasConfig, IsConfigFile}
use Rattle.hx_replay.specs.Behavior.{AreAllowed, answers_to, Behavior}
use Rattle.hx_trace.specs.Why.{explained}
use Rattle.hx_core.specs.Telling.{told_answer}
use Rattle.hx_core.specs.World.{World}
use Rattle.hx_replay.specs.Outcome.{Outcome, ends_with, with_end}
use Rattle.hx_replay.specs.Program.{engine_behavior, initial_world, Program, usual_limits}
use Rattle.hx_replay.specs.Records.{HoldsBeforeLastRead, IsRecord, record_limit, events_of}
use Rattle.hx_replay.specs.Replay.{BeginsWithDecided, ReplayAsksLast, WritesDecided, record_outcome}
use Rattle.hx_run.specs.Outcome.{End, Completed, ConfigRefused, run_end, status_of, text_of}
pub use Rattle.hx_run.specs.Outcome.{config_line}
use Rattle.hx_run.specs.declared.command.Task.{Task}
use Rattle.hx_run.specs.declared.command.Detail.{Detail}
use Rattle.hx_run.specs.declared.command.Detail.TheVariants.{Reasons, Verdicts}
use Rattle.hx_run.specs.declared.command.Task.TheVariants.{Check, Replay}

-- the task of a first word: that a record is answered, or that a configuration is checked
abbrev pub task_of : List ℕ → Option Task
task_of word =
    if bytes_eq word (codes "run") then Some (Replay Verdicts)
    else if bytes_eq word (codes "check") then Some Check
    else None

-- the record is answered
abbrev pub IsReplay : Task → Type 0
IsReplay (Replay detail) = ⊤
IsReplay Check = ⊥

-- a command: its task, and the name of the configuration
pub record Asked : Type 0 where
  pub task : Task
  pub name : List ℕ

-- the command of these words, which are `run CONFIG` or `check CONFIG`
abbrev pub command_of : List (List ℕ) → Option Asked
command_of (word ∷ name ∷ []) =
    option_map (λ task. record { task = task; name = name }) (task_of word)
command_of _ = None

-- What a run is given: the environment, what the files hold, the command, and what the source has
-- left. Of files and source that is what is known.
pub record Setting : Type 0 where
  pub env : Env
  pub held : Option NamedBytes
  pub task : Task
  pub name : List ℕ
  pub left : Option (List ℕ)

abbrev pub setting : List (Vec ℕ Global × Vec ℕ Global) → Option NamedBytes → Asked
    → Option (List ℕ) → Setting
setting env held command left = record {
  env = pairs_of env;
  held = held;
  task = command.task;
  name = command.name;
  left = left;
}

-- the setting of a run with these words; none where they are no command
abbrev pub setting_of : List (Vec ℕ Global) → List (Vec ℕ Global × Vec ℕ Global)
    → Option NamedBytes → Option (List ℕ) → Option Setting
setting_of words env held left =
    option_map (λ command. setting env held command left) (command_of (texts_of words))

-- its configuration
abbrev pub config_of : Setting → ConfigSetting
config_of s = record { env = s.env; held = s.held; name = s.name }

-- what is written of a configuration that is accepted: the number of its rules, and that of its
-- references
abbrev pub check_line : Rules → References → List ℕ
check_line rules refs =
    codes "ok " ++ (decimal (rule_count rules)
    ++ (codes " " ++ (decimal (length refs.references) ++ codes "\n")))

-- what answers the events of a record: an engine, which may tell why requests have their verdicts
abbrev pub behavior_of : Detail → Behavior World
behavior_of Verdicts = engine_behavior
behavior_of Reasons = record engine_behavior { answer = told_answer explained }

-- what comes of a configuration that is accepted: what a record is answered, or that it is accepted
abbrev pub accepted_outcome : Task → Program → List ℕ → Outcome End
accepted_outcome (Replay detail) program bytes =
    with_end run_end (record_outcome (behavior_of detail) (initial_world program) bytes)
accepted_outcome Check program bytes = record {
  answers = check_line program.rules program.references;
  end = Some Completed;
}

-- the same of any configuration, or its refusal; where a file is missing, nothing
abbrev pub outcome_under : Task → Loading → List ℕ → Outcome End
outcome_under task (loading.Accepted rules refs) bytes =
    accepted_outcome task (record { rules = rules; references = refs }) bytes
outcome_under task (loading.Refused refusal) bytes =
    ends_with (Some (ConfigRefused refusal.line refusal.code))
outcome_under task (loading.Missing name) bytes = ends_with None

-- the outcome of a command over a configuration, files and a record under an environment; of no
-- configuration, nothing
unfoldable pub outcome_of : Env → Task → NamedBytes → Option (List ℕ) → List ℕ → Outcome End
outcome_of env task files None bytes = ends_with None
outcome_of env task files (Some config) bytes =
    outcome_under task (loaded env usual_limits files config) bytes

-- this is the outcome of the configuration, the files and the record of a setting, as far as they
-- are known
pub record HasOutcome (s : Setting) (outcome : Outcome End) : Type 0 where
  pub config : Option (List ℕ)
  pub files : NamedBytes
  pub bytes : List ℕ
  pub of_files : HasConfig (config_of s) files config
  pub of_source : IsRecord s.left bytes
  pub is : outcome ≡ outcome_of s.env s.task files config bytes

-- What a run does: it writes a prefix of the text of its setting's outcome. Where its status is
-- 0, 3 or 4 it writes the whole text, and the status is the outcome's.
pub record Ran (s : Setting) (old new : Option (List ℕ)) (status : ℕ) : Type 0 where
  pub outcome : Outcome End
  pub of_setting : HasOutcome s outcome
  pub written : AppendsPrefix old new (text_of outcome)
  pub whole : Contains (0 ∷ 3 ∷ 4 ∷ []) status
      → (status_of outcome.end ≡ Some status) × Appends old new (text_of outcome)

-- the status is that of the outcome of what the files hold and the source has left
pub record HasStatus (s : Setting) (status : ℕ) : Type 0 where
  pub outcome : Outcome End
  pub of_setting : HasOutcome s outcome
  pub is : status_of outcome.end ≡ Some status

-- the configuration of a setting is accepted as this program
abbrev pub Accepts : Setting → Program → Type 0
Accepts s program = ConfigGives (config_of s) program

-- the configuration of a setting is accepted as a program of which this is so
pub record AcceptsSome (s : Setting) (P : Program → Type 0) : Type 0 where
  pub program : Program
  pub accepted : Accepts s program
  pub is : P program

-- The configuration was accepted, the record was read to its end, each of its events stood where it
-- may, and exactly the answers to its events in order were written, by what answers them.
pub record AnswersAll (b : Behavior World) (s : Setting) (old new : Option (List ℕ)) : Type 0 where
  pub program : Program
  pub accepted : Accepts s program
  pub bytes : List ℕ
  pub of_source : IsRecord s.left bytes
  pub events : List Event
  pub read : events_of (record_items bytes record_limit) ≡ Some events
  pub allowed : AreAllowed b (initial_world program) events
  pub written : Appends old new (answers_to b (initial_world program) events)

-- the headline: an engine answers them
abbrev pub Headline : Setting → (old new : Option (List ℕ)) → Type 0
Headline s old new = AnswersAll engine_behavior s old new

-- the same in a detail
abbrev pub Replayed : Detail → Setting → (old new : Option (List ℕ)) → Type 0
Replayed detail s old new = AnswersAll (behavior_of detail) s old new

-- A check: the configuration was accepted, and its line was written.
abbrev pub Checked : Setting → (old new : Option (List ℕ)) → Type 0
Checked s old new = AcceptsSome s (λ program.
    Appends old new (check_line program.rules program.references))

-- The source failed: the files hold a configuration that is accepted, and exactly the answers were
-- written to the events that the bytes taken from the source decide.
abbrev pub SourceFails : Setting → (left' old new : Option (List ℕ)) → Type 0
SourceFails s left' old new =
    (detail : Detail) × (s.task ≡ Replay detail) × AcceptsSome s (λ program.
    WritesDecided (behavior_of detail) (initial_world program) s.left left' old new)

-- The record is read only where it is to be answered and the configuration was accepted, and what
-- is decided is written before more is read: what was written begins with all answers to the
-- events that the bytes of all reads but the last decide.
abbrev pub AnswersBeforeReading : Setting → (log log' : Option Log) → (old new : Option (List ℕ))
    → Type 0
AnswersBeforeReading s log log' old new = HoldsBeforeLastRead log log' (λ bytes.
    (detail : Detail) × (s.task ≡ Replay detail) × AcceptsSome s (λ program.
    BeginsWithDecided (behavior_of detail) (initial_world program) bytes old new))

-- The last text that was too large for the maker is one that is read as a regular expression when
-- the configuration is loaded.
abbrev pub RunJudgesLast : Setting → Option ExpressionText → Type 0
RunJudgesLast s large = ConfigJudgesLast (config_of s) large

-- The last text that was too large for the maker is one for which a rule or a command asks, at an
-- event of the record.
abbrev pub RunAsksLast : Setting → Option ExpressionText → Type 0
RunAsksLast s large =
    (detail : Detail) × (s.task ≡ Replay detail) × AcceptsSome s (λ program.
    ReplayAsksLast (behavior_of detail) EventAsksFor (initial_world program) s.left large)

-- the files that a run reads: the configuration, and those to which it comes when it is loaded,
-- with no fault before them
abbrev pub RunReads : Setting → List ℕ → Type 0
RunReads s name = IsConfigFile (config_of s) name
