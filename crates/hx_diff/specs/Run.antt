-- What a run writes, and its status.
use Rattle.std.specs.Prelude.{◌≡◌, ◌⊎◌, ℕ, Bool, List, [], ◌∷◌, codes, Contains, Option, None, Some, option_map, if◌then◌else◌}
use Rattle.std.specs.Io.KnownBytes.{Appends}
use Rattle.std.specs.Str.{bytes_eq}
use Rattle.std.specs.declared.alloc.Global.{Global}
use Rattle.std.specs.declared.vec.Vec.{Vec}
use Rattle.hx_base.specs.Pairs.{NamedBytes, pairs_of}
use Rattle.hx_load.specs.Loads.{Loading}
use Rattle.hx_load.specs.Loads as loading
use Rattle.hx_outside.specs.Log.{Log}
use Rattle.hx_outside.specs.Makers.{ExpressionText}
use Rattle.hx_outside.specs.Prefixes.{AppendsPrefix}
use Rattle.hx_program.specs.Machine.{texts_of}
use Rattle.hx_record.specs.Record.{record_items}
use Rattle.hx_record.specs.declared.Event.{Event}
use Rattle.hx_words.specs.Variable.{Env}
use Rattle.hx_replay.specs.Configs.{ConfigGives, ConfigJudgesLast, ConfigSetting, IsConfigFile, IsJudgement}
use Rattle.hx_replay.specs.Behavior.{AreAllowed}
use Rattle.hx_replay.specs.Outcome.{Outcome, ends_with, with_end}
use Rattle.hx_replay.specs.Program.{Program, engine_behavior, initial_world}
use Rattle.hx_replay.specs.Records.{HoldsBeforeLastRead, IsRecord, events_of, record_limit}
use Rattle.hx_replay.specs.Replay.{BeginsWithDecided, ReplayAsksLast, WritesDecided, record_outcome}
use Rattle.hx_diff.specs.Comparison.{Programs, AreAnsweredAlike, ComparisonAsksFor, comparison_behavior, comparison_text, initial_comparison}
use Rattle.hx_diff.specs.Outcome.{End, ConfigRefused, run_end, status_of, text_of}
use Rattle.hx_diff.specs.declared.command.Task.{Task}
use Rattle.hx_diff.specs.declared.command.Task.TheVariants.{Lines, Reasons, Counts}
use Rattle.hx_diff.specs.declared.run_fault.Side.TheVariants.{Old, New}

-- the task of a first word: that each difference is told, or that requests are counted by verdicts
abbrev pub task_of : List ℕ → Option Task
task_of word =
    if bytes_eq word (codes "lines") then Some Lines
    else if bytes_eq word (codes "counts") then Some Counts
    else None

-- a command: its task, and the names of the old configuration and of the new one
pub record Asked : Type 0 where
  pub task : Task
  pub old_name : List ℕ
  pub new_name : List ℕ

-- the word that asks for reasons
abbrev pub is_why : List ℕ → Bool
is_why word = bytes_eq word (codes "--why")

-- the command of a first word with that one: reasons are told beside each difference
abbrev pub with_reasons : (word old new : List ℕ) → Option Asked
with_reasons word old new =
    if bytes_eq word (codes "lines")
    then Some (record { task = Reasons; old_name = old; new_name = new })
    else None

-- the command of four words: `--why` stands before the names or after them
abbrev pub command_of_four : (word second third fourth : List ℕ) → Option Asked
command_of_four word second third fourth =
    if is_why second then with_reasons word third fourth
    else if is_why fourth then with_reasons word second third
    else None

-- the command of these words, which are `lines OLD NEW` or `counts OLD NEW`, or the former with
-- `--why`
abbrev pub command_of : List (List ℕ) → Option Asked
command_of (word ∷ old ∷ new ∷ []) =
    option_map (λ task. record { task = task; old_name = old; new_name = new }) (task_of word)
command_of (word ∷ second ∷ third ∷ fourth ∷ []) = command_of_four word second third fourth
command_of _ = None

-- What a run is given: the environment, what the files hold, the names of both configurations, and
-- what the source has left. Of files and source that is what is known.
pub record Setting : Type 0 where
  pub env : Env
  pub held : Option NamedBytes
  pub asked : Asked
  pub left : Option (List ℕ)

abbrev pub old_of : Setting → ConfigSetting
old_of s = record { env = s.env; held = s.held; name = s.asked.old_name }

abbrev pub new_of : Setting → ConfigSetting
new_of s = record { env = s.env; held = s.held; name = s.asked.new_name }

abbrev pub setting : List (Vec ℕ Global × Vec ℕ Global) → Option NamedBytes → Asked
    → Option (List ℕ) → Setting
setting env held asked left =
    record { env = pairs_of env; held = held; asked = asked; left = left }

-- the setting of a run with these words; none where they are no command
abbrev pub setting_of : List (Vec ℕ Global) → List (Vec ℕ Global × Vec ℕ Global)
    → Option NamedBytes → Option (List ℕ) → Option Setting
setting_of words env held left =
    option_map (λ asked. setting env held asked left) (command_of (texts_of words))

-- what comes of a record under two configurations that are accepted
abbrev pub compared_outcome : Programs → List ℕ → Outcome End
compared_outcome programs bytes =
    with_end run_end (record_outcome comparison_behavior (initial_comparison programs) bytes)

-- the same where the new one may be refused
abbrev pub outcome_after : Task → Program → Loading → List ℕ → Outcome End
outcome_after task old (loading.Accepted rules refs) bytes =
    compared_outcome (record {
      task = task;
      old_program = old;
      new_program = record { rules = rules; references = refs };
    }) bytes
outcome_after task old (loading.Refused refusal) bytes =
    ends_with (Some (ConfigRefused New refusal.line refusal.code))
outcome_after task old (loading.Missing name) bytes = ends_with None

-- what comes of a record under two configurations: of the old one first, whether it is accepted
abbrev pub outcome_under : Task → (old new : Loading) → List ℕ → Outcome End
outcome_under task (loading.Accepted rules refs) new bytes =
    outcome_after task (record { rules = rules; references = refs }) new bytes
outcome_under task (loading.Refused refusal) new bytes =
    ends_with (Some (ConfigRefused Old refusal.line refusal.code))
outcome_under task (loading.Missing name) new bytes = ends_with None

-- this is the outcome of the configurations and the record of a setting, as far as they are known
pub record HasOutcome (s : Setting) (outcome : Outcome End) : Type 0 where
  pub old_judgement : Loading
  pub new_judgement : Loading
  pub bytes : List ℕ
  pub of_old : IsJudgement (old_of s) old_judgement
  pub of_new : IsJudgement (new_of s) new_judgement
  pub of_source : IsRecord s.left bytes
  pub is : outcome ≡ outcome_under s.asked.task old_judgement new_judgement bytes

-- What a run does: it writes a prefix of the text of its setting's outcome. Where its status is
-- 0, 1, 3 or 4 it writes the whole text, and the status is the outcome's.
pub record Ran (s : Setting) (old new : Option (List ℕ)) (status : ℕ) : Type 0 where
  pub outcome : Outcome End
  pub of_setting : HasOutcome s outcome
  pub written : AppendsPrefix old new (text_of outcome)
  pub whole : Contains (0 ∷ 1 ∷ 3 ∷ 4 ∷ []) status
      → (status_of outcome.end ≡ Some status) × Appends old new (text_of outcome)

-- the status is that of the outcome of what the files hold and the source has left
pub record HasStatus (s : Setting) (status : ℕ) : Type 0 where
  pub outcome : Outcome End
  pub of_setting : HasOutcome s outcome
  pub is : status_of outcome.end ≡ Some status

-- these are the task of a setting and its two configurations, which are accepted
pub record AcceptsBoth (s : Setting) (programs : Programs) : Type 0 where
  pub task : programs.task ≡ s.asked.task
  pub old : ConfigGives (old_of s) programs.old_program
  pub new : ConfigGives (new_of s) programs.new_program

-- both are accepted as programs of which this is so
pub record AcceptsSome (s : Setting) (P : Programs → Type 0) : Type 0 where
  pub programs : Programs
  pub accepted : AcceptsBoth s programs
  pub is : P programs

-- The headline. Both configurations were accepted, the record was read to its end, each of its
-- events stood where it may in both, and exactly what comes of the answers to its events was
-- written, by the task. At status 0 each event has the same answer from both, and at 1 not each.
pub record Headline (s : Setting) (old new : Option (List ℕ)) (status : ℕ) : Type 0 where
  pub programs : Programs
  pub accepted : AcceptsBoth s programs
  pub bytes : List ℕ
  pub of_source : IsRecord s.left bytes
  pub events : List Event
  pub read : events_of (record_items bytes record_limit) ≡ Some events
  pub old_allowed : AreAllowed engine_behavior (initial_world programs.old_program) events
  pub new_allowed : AreAllowed engine_behavior (initial_world programs.new_program) events
  pub written : Appends old new (comparison_text (initial_comparison programs) events)
  pub same : status ≡ 0
      → AreAnsweredAlike (initial_world programs.old_program) (initial_world programs.new_program)
      events
  pub other : status ≡ 1
      → ¬ (AreAnsweredAlike (initial_world programs.old_program)
      (initial_world programs.new_program) events)

-- The source failed: the files hold configurations that are accepted, and exactly that was written
-- which is written at once of the events that the bytes taken from the source decide.
abbrev pub SourceFails : Setting → (left' old new : Option (List ℕ)) → Type 0
SourceFails s left' old new =
    AcceptsSome s (λ programs.
    WritesDecided comparison_behavior (initial_comparison programs) s.left left' old new)

-- The record is read only where both configurations were accepted, and what is decided is written
-- before more is read: what was written begins with all that is written at once of the events that
-- the bytes of all reads but the last decide.
abbrev pub AnswersBeforeReading : Setting → (log log' : Option Log) → (old new : Option (List ℕ))
    → Type 0
AnswersBeforeReading s log log' old new = HoldsBeforeLastRead log log' (λ bytes.
    AcceptsSome s (λ programs.
    BeginsWithDecided comparison_behavior (initial_comparison programs) bytes old new))

-- The last text that was too large for the maker is one that is read as a regular expression when
-- one of the configurations is loaded.
abbrev pub RunJudgesLast : Setting → Option ExpressionText → Type 0
RunJudgesLast s large = ConfigJudgesLast (old_of s) large ⊎ ConfigJudgesLast (new_of s) large

-- The last text that was too large for the maker is one for which a rule or a command of one of the
-- configurations asks, at an event of the record.
abbrev pub RunAsksLast : Setting → Option ExpressionText → Type 0
RunAsksLast s large = AcceptsSome s (λ programs.
    ReplayAsksLast comparison_behavior ComparisonAsksFor (initial_comparison programs)
    s.left large)

-- the files that a run reads: those of both configurations
abbrev pub RunReads : Setting → List ℕ → Type 0
RunReads s name = IsConfigFile (old_of s) name ⊎ IsConfigFile (new_of s) name
