-- Laws of a run: what it has written at each of its ends.
use Rattle.std.proofs.Common.{◌≡◌, ℕ, List, [], Option, None, Some, Result, Ok, Err, IfErr, unwrap_or, inl, inr, refl, ◌∙◌, sym, ap, subst, append-nil}
use Rattle.std.specs.Io.KnownBytes.{Appends}
use Rattle.std.proofs.KnownBytes.{Appends-nil, Appends-trans}
use Rattle.hx_base.specs.Pairs.{NamedBytes}
use Rattle.hx_core.specs.Steps.{EventAsksFor}
use Rattle.hx_outside.specs.Log.{Log}
use Rattle.hx_outside.specs.Makers.{ExpressionText}
use Rattle.hx_outside.specs.Prefixes.{AppendsPrefix}
use Rattle.hx_outside.specs.declared.SinkFault.{SinkFault}
use Rattle.hx_outside.specs.declared.SinkFault.TheVariants as sink
use Rattle.hx_refs.specs.References.{RefsState}
use Rattle.hx_rules.specs.Programs.{Rules}
use Rattle.hx_replay.proofs.ConfigLemmas.{accepts, some_is_judgement, some_judgement}
use Rattle.hx_replay.specs.Configs.{IsAccepted, IsJudgement, LoadsConfig, judgement_of, program_of}
use Rattle.hx_replay.specs.Records.{IsRecord}
use Rattle.hx_replay.specs.Gathering.{IsOfRecord, WritesOutcome}
use Rattle.hx_replay.specs.Outcome.{Outcome, ends_with}
use Rattle.hx_replay.specs.Program.{initial_world}
use Rattle.hx_replay.specs.Replay.{BeginsWithDecided, ReplayAsksLast, WritesBeforeReading, WritesDecided, decided_outcome}
use Rattle.hx_replay.proofs.LogLemmas.{before_map, before_none}
use Rattle.hx_replay.proofs.WrittenLemmas.{begins_more}
use Rattle.hx_run.specs.Outcome.{ConfigRefused, End, last_line}
use Rattle.hx_load.specs.Loads.{Loading}
use Rattle.hx_load.specs.Loads as loading
use Rattle.hx_run.specs.Run.{behavior_of, config_of, outcome_under, HasOutcome, Setting, Accepts, AcceptsSome, AnswersBeforeReading, RunAsksLast, SourceFails, accepted_outcome, check_line, outcome_of}
use Rattle.hx_run.specs.RunFault.{Attempted, Finishes, IsReplayFault, fault_end, result_end, load_fault, sink_fault}
use Rattle.hx_run.specs.declared.command.Detail.{Detail}
use Rattle.hx_run.specs.declared.command.Task.{Task}
use Rattle.hx_run.specs.declared.command.Task.TheVariants as task
use Rattle.hx_load.specs.declared.LoadFault.{LoadFault}
use Rattle.hx_load.specs.declared.LoadFault.TheVariants as load
use Rattle.hx_run.specs.declared.run_fault.RunFault.{RunFault}
use Rattle.hx_run.specs.declared.run_fault.RunFault.TheVariants as run

record_in_is : (left : Option (List ℕ)) → IsRecord left (unwrap_or left [])
record_in_is None = tt
record_in_is (Some left) = refl

-- ---- the outcome of a setting

judged_is : (s : Setting) (files : NamedBytes) (config : Option (List ℕ)) (bytes : List ℕ)
    → outcome_under s.task (judgement_of (config_of s) files config) bytes ≡ outcome_of s.env s.task files config bytes
unfolding outcome_of
judged_is s files None bytes = refl
judged_is s files (Some config) bytes = refl

-- that of a configuration that loads so
pub has_outcome : (s : Setting) (judgement : Loading) (bytes : List ℕ) → IsJudgement (config_of s) judgement → IsRecord s.left bytes
    → HasOutcome s (outcome_under s.task judgement bytes)
has_outcome s judgement bytes j of_source = record {
  config = j.config;
  files = j.files;
  bytes = bytes;
  of_files = j.of_files;
  of_source = of_source;
  is = ap (λ (said : Loading). outcome_under s.task said bytes) j.is ∙ judged_is s j.files j.config bytes;
}

-- that of one that is accepted
pub accepted_outcome_is : (s : Setting) (made : Rules × RefsState) (asked : Task) (bytes : List ℕ) → s.task ≡ asked → IsAccepted (config_of s) made
    → IsRecord s.left bytes → HasOutcome s (accepted_outcome asked (program_of made) bytes)
accepted_outcome_is s made asked bytes same accepted of_source =
    subst (λ (t : Task). HasOutcome s (accepted_outcome t (program_of made) bytes)) same
    (has_outcome s (loading.Accepted made.0 made.1.content) bytes accepted of_source)

-- where nothing was written and nothing has to be, any configuration and record will do
unknown : (s : Setting) (old : Option (List ℕ)) (fault : RunFault) → result_end (Err fault) ≡ None → Attempted s old old (Err fault)
unknown s old fault undecided =
    let outcome = outcome_under s.task (some_judgement (config_of s)) (unwrap_or s.left []) in
    record {
      outcome = outcome;
      is_such = has_outcome s (some_judgement (config_of s)) (unwrap_or s.left []) (some_is_judgement (config_of s)) (record_in_is s.left);
      wrote = [];
      appended = Appends-nil old;
      answers = rw undecided (outcome.answers, refl);
    }

-- ---- what a run wrote

-- the configuration isn't loaded
pub unloaded : (s : Setting) (old : Option (List ℕ)) (fault : LoadFault) → LoadsConfig (config_of s) (Err fault)
    → Attempted s old old (Err (load_fault fault))
unloaded s old (load.Refused line code) l = record {
  outcome = ends_with (Some (ConfigRefused line code));
  is_such = has_outcome s (loading.Refused (record { line = line; code = code })) (unwrap_or s.left []) l (record_in_is s.left);
  wrote = [];
  appended = Appends-nil old;
  answers = (refl, refl);
}
unloaded s old load.Failed l = unknown s old run.Files refl
unloaded s old load.TooLarge l = unknown s old run.TooLarge refl
unloaded s old load.NoMemory l = unknown s old run.NoMemory refl

-- a record that was replayed
pub replayed_run : (detail : Detail) (s : Setting) (made : Rules × RefsState) (old new : Option (List ℕ)) (r : Result (Unit {0}) RunFault)
    → s.task ≡ task.Replay detail → IsAccepted (config_of s) made
    → WritesOutcome (IsOfRecord (accepted_outcome (task.Replay detail) (program_of made)) s.left) old new [] (result_end r) → Attempted s old new r
replayed_run detail s made old new r asked accepted replays = record {
  outcome = replays.outcome;
  is_such =
      subst (λ (outcome : Outcome End). HasOutcome s outcome) (sym replays.is_such.is)
      (accepted_outcome_is s made (task.Replay detail) replays.is_such.bytes asked accepted replays.is_such.of_source);
  wrote = replays.wrote;
  appended = replays.appended;
  answers = replays.answers;
}

-- a configuration that was checked
pub checked_run : (s : Setting) (made : Rules × RefsState) (old new : Option (List ℕ)) → s.task ≡ task.Check → IsAccepted (config_of s) made
    → Appends old new (check_line made.0 made.1.content) → Attempted s old new (Ok tt)
checked_run s made old new asked accepted appended = record {
  outcome = accepted_outcome task.Check (program_of made) (unwrap_or s.left []);
  is_such = accepted_outcome_is s made task.Check (unwrap_or s.left []) asked accepted (record_in_is s.left);
  wrote = check_line made.0 made.1.content;
  appended = appended;
  answers = (refl, sym (append-nil (check_line made.0 made.1.content)));
}

uncheckable : (fault : SinkFault) → result_end (Err (sink_fault fault)) ≡ None
uncheckable sink.Failed = refl
uncheckable sink.NoMemory = refl

-- one that was checked, where its line couldn't be written
pub unchecked_run : (s : Setting) (made : Rules × RefsState) (old new : Option (List ℕ)) (fault : SinkFault) → s.task ≡ task.Check
    → IsAccepted (config_of s) made → AppendsPrefix old new (check_line made.0 made.1.content) → Attempted s old new (Err (sink_fault fault))
unchecked_run s made old new fault asked accepted part = record {
  outcome = accepted_outcome task.Check (program_of made) (unwrap_or s.left []);
  is_such = accepted_outcome_is s made task.Check (unwrap_or s.left []) asked accepted (record_in_is s.left);
  wrote = part.prefix;
  appended = part.appended;
  answers = rw (uncheckable fault, append-nil part.prefix) (part.rest, part.whole);
}

-- a configuration that is accepted
pub accepts_loaded : (s : Setting) (made : Rules × RefsState) → IsAccepted (config_of s) made → Accepts s (program_of made)
accepts_loaded s made accepted = accepts (config_of s) (program_of made) (loading.Accepted made.0 made.1.content) accepted refl

-- a replay that the source ended
pub source_fails : (detail : Detail) (s : Setting) (made : Rules × RefsState) (left' old new : Option (List ℕ)) → s.task ≡ task.Replay detail
    → IsAccepted (config_of s) made
    → WritesDecided (behavior_of detail) (initial_world (program_of made)) s.left left' old new → SourceFails s left' old new
source_fails detail s made left' old new asked accepted written =
    (detail, asked, record { program = program_of made; accepted = accepts_loaded s made accepted; is = written })

-- a text for which an event asks
pub run_asks : (detail : Detail) (s : Setting) (made : Rules × RefsState) (large : Option ExpressionText) → s.task ≡ task.Replay detail
    → IsAccepted (config_of s) made
    → ReplayAsksLast (behavior_of detail) EventAsksFor (initial_world (program_of made)) s.left large → RunAsksLast s large
run_asks detail s made large asked accepted asks =
    (detail, asked, record { program = program_of made; accepted = accepts_loaded s made accepted; is = asks })

-- ---- what is written before more of the record is read

-- this was written of what the bytes decide that reads gave, under the configuration of a setting
abbrev Answered : Setting → (old new : Option (List ℕ)) → List ℕ → Type 0
Answered s old new bytes = (detail : Detail) × (s.task ≡ task.Replay detail) × AcceptsSome s (λ program. BeginsWithDecided (behavior_of detail) (initial_world program) bytes old new)

-- the record wasn't read
pub nothing_read : (s : Setting) (log : Option Log) (old new : Option (List ℕ)) → AnswersBeforeReading s log log old new
nothing_read s log old new = before_none log (Answered s old new)

-- a record that was replayed
pub answers_before : (detail : Detail) (s : Setting) (made : Rules × RefsState) (log log' : Option Log) (old new : Option (List ℕ))
    → s.task ≡ task.Replay detail → IsAccepted (config_of s) made
    → WritesBeforeReading (behavior_of detail) (initial_world (program_of made)) log log' old new → AnswersBeforeReading s log log' old new
answers_before detail s made log log' old new asked accepted written =
    before_map log log' (λ bytes. BeginsWithDecided (behavior_of detail) (initial_world (program_of made)) bytes old new) (Answered s old new) written
    (λ bytes begins. (detail, asked, record { program = program_of made; accepted = accepts_loaded s made accepted; is = begins }))

before_moved : (s : Setting) (log log' : Option Log) (old mid new : Option (List ℕ)) (more : List ℕ) → AnswersBeforeReading s log log' old mid
    → Appends mid new more → AnswersBeforeReading s log log' old new
before_moved s log log' old mid new more so_far appended =
    before_map log log' (Answered s old mid) (Answered s old new) so_far (λ bytes answered. (
      answered.0,
      answered.1,
      record {
        program = answered.2.program;
        accepted = answered.2.accepted;
        is = begins_more (behavior_of answered.0) (initial_world answered.2.program) bytes old mid new more answered.2.is appended;
      },
    ))

-- and then the line of a fault
pub before_finished : (s : Setting) (log log' : Option Log) (old mid new : Option (List ℕ)) (fault : RunFault) (status : ℕ)
    → AnswersBeforeReading s log log' old mid → Finishes fault mid new status → AnswersBeforeReading s log log' old new
before_finished s log log' old mid new fault status so_far (inl (same, line)) =
    before_moved s log log' old mid new (last_line (fault_end fault)) so_far line
before_finished s log log' old mid new fault status so_far (inr (late, part)) =
    before_moved s log log' old mid new part.prefix so_far part.appended

-- ---- faults

-- which fault of a part it was
pub load_failed : (fault : LoadFault) → load_fault fault ≡ run.Files → fault ≡ load.Failed
load_failed (load.Refused line code) is = cc
load_failed load.Failed is = refl
load_failed load.TooLarge is = cc
load_failed load.NoMemory is = cc

pub load_large : (fault : LoadFault) → load_fault fault ≡ run.TooLarge → fault ≡ load.TooLarge
load_large (load.Refused line code) is = cc
load_large load.Failed is = cc
load_large load.TooLarge is = refl
load_large load.NoMemory is = cc

-- it stays so where nothing more is written
pub source_moved : (s : Setting) (left' old mid new : Option (List ℕ)) → SourceFails s left' old mid → Appends mid new [] → SourceFails s left' old new
source_moved s left' old mid new (detail, asked, a) nothing = (
  detail,
  asked,
  record {
    program = a.program;
    accepted = a.accepted;
    is = record {
      took = a.is.took;
      consumed = a.is.consumed;
      going_on = a.is.going_on;
      written = rw (append-nil (decided_outcome (behavior_of detail) (initial_world a.program) a.is.took).answers) at
          (Appends-trans old mid new (decided_outcome (behavior_of detail) (initial_world a.program) a.is.took).answers [] a.is.written nothing);
    };
  },
)

-- a replay refuses no configuration, and reads no file
pub no_config : (r : Result (Unit {0}) RunFault) (line code : ℕ) → IfErr r IsReplayFault → r ≡ Err (run.ConfigRefused line code) → ⊥
no_config (Ok done) line code kind is = cc
no_config (Err (run.ConfigRefused _ _)) line code kind is = kind
no_config (Err (run.RecordRefused _ _)) line code kind is = cc
no_config (Err run.Files) line code kind is = kind
no_config (Err run.Source) line code kind is = cc
no_config (Err run.Sink) line code kind is = cc
no_config (Err run.TooLarge) line code kind is = cc
no_config (Err run.NoMemory) line code kind is = cc

pub no_files : (r : Result (Unit {0}) RunFault) → IfErr r IsReplayFault → r ≡ Err run.Files → ⊥
no_files (Ok done) kind is = cc
no_files (Err (run.ConfigRefused _ _)) kind is = kind
no_files (Err (run.RecordRefused _ _)) kind is = cc
no_files (Err run.Files) kind is = kind
no_files (Err run.Source) kind is = cc
no_files (Err run.Sink) kind is = cc
no_files (Err run.TooLarge) kind is = cc
no_files (Err run.NoMemory) kind is = cc

-- which fault of the sink it was
pub check_failed : (fault : SinkFault) → sink_fault fault ≡ run.Sink → fault ≡ sink.Failed
check_failed sink.Failed is = refl
check_failed sink.NoMemory is = cc

-- the sink refuses no configuration, reads nothing and makes no expression
pub no_config_at_sink : (fault : SinkFault) (line code : ℕ) → sink_fault fault ≡ run.ConfigRefused line code → ⊥
no_config_at_sink sink.Failed line code is = cc
no_config_at_sink sink.NoMemory line code is = cc

pub only_sink : (fault : SinkFault) → ((sink_fault fault ≡ run.Files) → ⊥) × ((sink_fault fault ≡ run.Source) → ⊥) × ((sink_fault fault ≡ run.TooLarge) → ⊥)
only_sink sink.Failed = (λ is. cc, λ is. cc, λ is. cc)
only_sink sink.NoMemory = (λ is. cc, λ is. cc, λ is. cc)
