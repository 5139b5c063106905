-- Laws of the status with which a run ends.
use Rattle.std.proofs.Common.{◌≡◌, ◌≢◌, ℕ, zero, suc, ◌<◌, ◌≤◌, ◌⊎◌, List, [], ◌∷◌, ◌++◌, Contains, Option, None, Some, option_map, Ok, Err, inl, inr, arith, refl, sym, ◌∙◌, ap, subst, append_assoc, append-nil}
use Rattle.std.specs.Io.KnownBytes.{Appends}
use Rattle.std.proofs.KnownBytes.{Appends-trans}
use Rattle.hx_core.specs.World.{World}
use Rattle.hx_outside.specs.Count.{Rose}
use Rattle.hx_record.specs.Record.{record_items}
use Rattle.hx_replay.specs.Behavior.{answers_to}
use Rattle.hx_replay.specs.Outcome.{Outcome, RecordEnd, RefusedAt, ReplayEnd, ends_with}
use Rattle.hx_replay.specs.Program.{initial_world, Program, usual_limits}
use Rattle.hx_replay.specs.Records.{record_limit}
use Rattle.hx_replay.specs.Replay.{record_outcome}
use Rattle.hx_replay.proofs.CompletedLemmas.{completes}
use Rattle.hx_replay.proofs.OutcomeLemmas.{prefix_of}
use Rattle.hx_run.specs.Outcome.{End, Completed, ConfigRefused, RecordRefused, run_end, status_of, last_line, text_of}
use Rattle.hx_load.specs.Loads.{Loading, Loads, loaded}
use Rattle.hx_load.specs.Loads as loading
use Rattle.hx_run.specs.Run.{Setting, Accepts, Checked, HasOutcome, HasStatus, Ran, Replayed, behavior_of, check_line, outcome_under, outcome_of}
use Rattle.hx_run.specs.declared.command.Detail.{Detail}
use Rattle.hx_run.specs.declared.command.Detail.TheVariants as kind
use Rattle.hx_run.specs.declared.command.Task.{Task}
use Rattle.hx_run.specs.declared.command.Task.TheVariants as task
use Rattle.hx_run.specs.RunFault.{Attempted, Finishes, fault_end, fault_status}
use Rattle.hx_run.specs.declared.run_fault.RunFault.{RunFault}
use Rattle.hx_run.specs.declared.run_fault.RunFault.TheVariants as run
use Rattle.hx_load.proofs.LoadedLemmas.{loads}

-- an end is completed or not
abbrev IsCompleted : Option End → Type 0
IsCompleted (Some Completed) = Unit {0}
IsCompleted _ = ⊥

completed : (end : Option End) → end ≡ Some Completed → IsCompleted end
completed end is = rw is tt

-- the replay of a completed run came to the record's end
at_record_end : (end : Option (ReplayEnd World)) → option_map run_end end ≡ Some Completed → (last : World) × (end ≡ Some (RecordEnd last))
at_record_end None is = absurd (completed None is)
at_record_end (Some (RecordEnd last)) is = (last, refl)
at_record_end (Some (RefusedAt offset code)) is = absurd (completed (Some (RecordRefused offset code)) is)

-- a configuration and a record that complete a run
record CompletesRun (detail : Detail) (loaded : Loading) (bytes : List ℕ) : Type 0 where
  program : Program
  is : loaded ≡ loading.Accepted program.rules program.references
  last : World
  end : (record_outcome (behavior_of detail) (initial_world program) bytes).end ≡ Some (RecordEnd last)
  answers : (outcome_under (task.Replay detail) loaded bytes).answers ≡ (record_outcome (behavior_of detail) (initial_world program) bytes).answers

completes_run : (detail : Detail) (loaded : Loading) (bytes : List ℕ) → (outcome_under (task.Replay detail) loaded bytes).end ≡ Some Completed → CompletesRun detail loaded bytes
completes_run detail (loading.Refused refusal) bytes is = absurd (completed (Some (ConfigRefused refusal.line refusal.code)) is)
completes_run detail (loading.Missing name) bytes is = absurd (completed None is)
completes_run detail (loading.Accepted rules refs) bytes is =
    let program : Program = record { rules = rules; references = refs } in
    let (last, end) = at_record_end (record_outcome (behavior_of detail) (initial_world program) bytes).end is in
    record { program = program; is = refl; last = last; end = end; answers = refl }

-- a configuration that completes a check
record CompletesCheck (loaded : Loading) (bytes : List ℕ) : Type 0 where
  program : Program
  is : loaded ≡ loading.Accepted program.rules program.references
  answers : (outcome_under task.Check loaded bytes).answers ≡ check_line program.rules program.references

completes_check : (loaded : Loading) (bytes : List ℕ) → (outcome_under task.Check loaded bytes).end ≡ Some Completed → CompletesCheck loaded bytes
completes_check (loading.Refused refusal) bytes is = absurd (completed (Some (ConfigRefused refusal.line refusal.code)) is)
completes_check (loading.Missing name) bytes is = absurd (completed None is)
completes_check (loading.Accepted rules refs) bytes is = record { program = record { rules = rules; references = refs }; is = refl; answers = refl }

-- the outcome of a configuration by its task
outcome_by : (s : Setting) (outcome : Outcome End) (config : List ℕ) (asked : Task) (o : HasOutcome s outcome) → s.task ≡ asked → o.config ≡ Some config
    → outcome ≡ outcome_under asked (loaded s.env usual_limits o.files config) o.bytes
unfolding outcome_of
outcome_by s outcome config asked o same is = o.is ∙ rw (is, same) refl

no_config_left : (s : Setting) (outcome : Outcome End) (o : HasOutcome s outcome) → o.config ≡ None → outcome.end ≡ Some Completed → ⊥
unfolding outcome_of
no_config_left s outcome o config end =
    let here : outcome ≡ ends_with None = o.is ∙ rw config refl in
    completed None (sym (ap (λ (o : Outcome End). o.end) here) ∙ end)

accepts : (s : Setting) (outcome : Outcome End) (config : List ℕ) (program : Program) (o : HasOutcome s outcome) → o.config ≡ Some config
    → loaded s.env usual_limits o.files config ≡ loading.Accepted program.rules program.references → Accepts s program
accepts s outcome config program o config_is is = record {
  config = config;
  files = o.files;
  of_files = rw config_is at o.of_files;
  is = subst (λ (l : Loading). Loads s.env usual_limits o.files config l) is (loads s.env usual_limits o.files config);
}

-- nothing is written at a record's end
no_ending : (detail : Detail) (world : World) → (behavior_of detail).ending world ≡ []
no_ending kind.Verdicts world = refl
no_ending kind.Reasons world = refl

headline_of : (detail : Detail) (s : Setting) (old new : Option (List ℕ)) (wrote : List ℕ) (outcome : Outcome End) (config : Option (List ℕ)) (o : HasOutcome s outcome)
    → s.task ≡ (task.Replay detail) → o.config ≡ config → Appends old new wrote → outcome.end ≡ Some Completed → outcome.answers ≡ wrote → Replayed detail s old new
headline_of detail s old new wrote outcome None o asked config appended end answers = absurd (no_config_left s outcome o config end)
headline_of detail s old new wrote outcome (Some config) o asked is appended end answers =
    let here = outcome_by s outcome config (task.Replay detail) o asked is in
    let a = completes_run detail (loaded s.env usual_limits o.files config) o.bytes (sym (ap (λ (o : Outcome End). o.end) here) ∙ end) in
    let c = completes (behavior_of detail) (initial_world a.program) (record_items o.bytes record_limit) a.last a.end in
    let all : wrote ≡ answers_to (behavior_of detail) (initial_world a.program) c.events =
    sym answers ∙ ap (λ (o : Outcome End). o.answers) here ∙ a.answers ∙ c.answers
    ∙ ap (λ (rest : List ℕ). answers_to (behavior_of detail) (initial_world a.program) c.events ++ rest) (no_ending detail _)
    ∙ append-nil (answers_to (behavior_of detail) (initial_world a.program) c.events) in
    record {
      program = a.program;
      accepted = accepts s outcome config a.program o is a.is;
      bytes = o.bytes;
      of_source = o.of_source;
      events = c.events;
      read = c.read;
      allowed = c.allowed;
      written = rw (← all) appended;
    }

-- a replay that is completed
pub headline : (detail : Detail) (s : Setting) (old new : Option (List ℕ)) → s.task ≡ (task.Replay detail) → Attempted s old new (Ok tt) → Replayed detail s old new
headline detail s old new asked a =
    headline_of detail s old new a.wrote a.outcome a.is_such.config a.is_such asked refl a.appended a.answers.0 (a.answers.1 ∙ append-nil a.wrote)

checked_of : (s : Setting) (old new : Option (List ℕ)) (wrote : List ℕ) (outcome : Outcome End) (config : Option (List ℕ)) (o : HasOutcome s outcome)
    → s.task ≡ task.Check → o.config ≡ config → Appends old new wrote → outcome.end ≡ Some Completed → outcome.answers ≡ wrote → Checked s old new
checked_of s old new wrote outcome None o asked config appended end answers = absurd (no_config_left s outcome o config end)
checked_of s old new wrote outcome (Some config) o asked is appended end answers =
    let here = outcome_by s outcome config task.Check o asked is in
    let a = completes_check (loaded s.env usual_limits o.files config) o.bytes (sym (ap (λ (o : Outcome End). o.end) here) ∙ end) in
    let all : wrote ≡ check_line a.program.rules a.program.references =
    sym answers ∙ ap (λ (o : Outcome End). o.answers) here ∙ a.answers in
    record {
      program = a.program;
      accepted = accepts s outcome config a.program o is a.is;
      is = rw (← all) appended;
    }

-- a check that is completed
pub checked : (s : Setting) (old new : Option (List ℕ)) → s.task ≡ task.Check → Attempted s old new (Ok tt) → Checked s old new
checked s old new asked a =
    checked_of s old new a.wrote a.outcome a.is_such.config a.is_such asked refl a.appended a.answers.0 (a.answers.1 ∙ append-nil a.wrote)

-- all answers of an outcome, and then what is written of its end
wrote_all : (outcome : Outcome End) (end : Option End) (wrote line : List ℕ) → outcome.end ≡ end → outcome.answers ≡ wrote → line ≡ last_line end
    → text_of outcome ≡ wrote ++ line
wrote_all outcome end wrote line is answers last = rw (answers, is, last) refl

pub ran_completed : (s : Setting) (old new : Option (List ℕ)) → Attempted s old new (Ok tt) → Ran s old new 0
ran_completed s old new a =
    let text : text_of a.outcome ≡ a.wrote ++ [] = wrote_all a.outcome (Some Completed) a.wrote [] a.answers.0 (a.answers.1 ∙ append-nil a.wrote) refl in
    record {
      outcome = a.outcome;
      of_setting = a.is_such;
      written = record { prefix = a.wrote; rest = []; whole = text; appended = a.appended };
      whole = λ _. (ap status_of a.answers.0, rw (text ∙ append-nil a.wrote) a.appended);
    }

small : (status : ℕ) → Contains (0 ∷ 3 ∷ 4 ∷ []) status → status ≤ 4
small status (zero, within, is) = omega (arith, is)
small status (suc zero, within, is) = omega (arith, is)
small status (suc (suc zero), within, is) = omega (arith, is)
small status (suc (suc (suc k)), within, is) = absurd (omega (arith, within))

late_large : (status : ℕ) → Contains (6 ∷ 7 ∷ []) status → 6 ≤ status
late_large status (zero, within, is) = omega (arith, is)
late_large status (suc zero, within, is) = omega (arith, is)
late_large status (suc (suc k), within, is) = absurd (omega (arith, within))

-- a refusal, with the line that is written of it, or a prefix of that line
ran_refused : (s : Setting) (old mid new : Option (List ℕ)) (fault : RunFault) (status : ℕ) (a : Attempted s old mid (Err fault))
    → a.outcome.end ≡ fault_end fault → a.outcome.answers ≡ a.wrote → status_of (fault_end fault) ≡ Some (fault_status fault)
    → Finishes fault mid new status → Ran s old new status
ran_refused s old mid new fault status a is answers decided (inl (same, line)) =
    let text : text_of a.outcome ≡ a.wrote ++ last_line (fault_end fault) =
    wrote_all a.outcome (fault_end fault) a.wrote (last_line (fault_end fault)) is answers refl in
    let appended = Appends-trans old mid new a.wrote (last_line (fault_end fault)) a.appended line in
    record {
      outcome = a.outcome;
      of_setting = a.is_such;
      written = record {
        prefix = a.wrote ++ last_line (fault_end fault);
        rest = [];
        whole = text ∙ sym (append-nil (a.wrote ++ last_line (fault_end fault)));
        appended = appended;
      };
      whole = λ _. (ap status_of is ∙ decided ∙ ap (λ n. Some n) (sym same), rw text appended);
    }
ran_refused s old mid new fault status a is answers decided (inr (late, part)) =
    let text : text_of a.outcome ≡ a.wrote ++ last_line (fault_end fault) =
    wrote_all a.outcome (fault_end fault) a.wrote (last_line (fault_end fault)) is answers refl in
    record {
      outcome = a.outcome;
      of_setting = a.is_such;
      written = record {
        prefix = a.wrote ++ part.prefix;
        rest = part.rest;
        whole = text ∙ ap (λ t. a.wrote ++ t) part.whole ∙ sym (append_assoc a.wrote part.prefix part.rest);
        appended = Appends-trans old mid new a.wrote part.prefix a.appended part.appended;
      };
      whole = λ exact. absurd (omega (arith, small status exact, late_large status late));
    }

nil_of_append : (prefix rest : List ℕ) → prefix ++ rest ≡ [] → prefix ≡ []
nil_of_append [] rest is = refl
nil_of_append (b ∷ prefix) rest is = cc

-- a prefix of the answers is one of the text
ran_prefix : (s : Setting) (old new : Option (List ℕ)) (outcome : Outcome End) (wrote rest : List ℕ) (status : ℕ) → HasOutcome s outcome
    → outcome.answers ≡ wrote ++ rest → Appends old new wrote → 5 ≤ status → Ran s old new status
ran_prefix s old new outcome wrote rest status of_setting is appended large = record {
  outcome = outcome;
  of_setting = of_setting;
  written = record {
    prefix = wrote;
    rest = rest ++ last_line outcome.end;
    whole = ap (λ t. t ++ last_line outcome.end) is ∙ append_assoc wrote rest (last_line outcome.end);
    appended = appended;
  };
  whole = λ exact. absurd (omega (arith, small status exact, large));
}

-- another fault, of which no line is written
ran_failed : (s : Setting) (old mid new : Option (List ℕ)) (fault : RunFault) (status : ℕ) (a : Attempted s old mid (Err fault))
    → last_line (fault_end fault) ≡ [] → 5 ≤ fault_status fault → Finishes fault mid new status → Ran s old new status
ran_failed s old mid new fault status a none large (inl (same, line)) =
    let (rest, is) = prefix_of (fault_end fault) a.outcome a.wrote (rw (append-nil a.wrote) at a.answers) in
    ran_prefix s old new a.outcome a.wrote rest status a.is_such is
    (rw (append-nil a.wrote) at (Appends-trans old mid new a.wrote [] a.appended (rw none at line))) (omega (arith, large, same))
ran_failed s old mid new fault status a none large (inr (late, part)) =
    let (rest, is) = prefix_of (fault_end fault) a.outcome a.wrote (rw (append-nil a.wrote) at a.answers) in
    let empty : part.prefix ≡ [] = nil_of_append part.prefix part.rest (sym part.whole ∙ none) in
    ran_prefix s old new a.outcome a.wrote rest status a.is_such is
    (rw (append-nil a.wrote) at (Appends-trans old mid new a.wrote [] a.appended (rw empty at part.appended))) (omega (arith, late_large status late))

pub ran_finished : (s : Setting) (old mid new : Option (List ℕ)) (fault : RunFault) (status : ℕ)
    → Attempted s old mid (Err fault) → Finishes fault mid new status → Ran s old new status
ran_finished s old mid new (run.ConfigRefused line code) status a f =
    ran_refused s old mid new (run.ConfigRefused line code) status a a.answers.0 (a.answers.1 ∙ append-nil a.wrote) refl f
ran_finished s old mid new (run.RecordRefused offset code) status a f =
    ran_refused s old mid new (run.RecordRefused offset code) status a a.answers.0 (a.answers.1 ∙ append-nil a.wrote) refl f
ran_finished s old mid new run.Files status a f = ran_failed s old mid new run.Files status a refl (omega arith) f
ran_finished s old mid new run.Source status a f = ran_failed s old mid new run.Source status a refl (omega arith) f
ran_finished s old mid new run.Sink status a f = ran_failed s old mid new run.Sink status a refl (omega arith) f
ran_finished s old mid new run.TooLarge status a f = ran_failed s old mid new run.TooLarge status a refl (omega arith) f
ran_finished s old mid new run.NoMemory status a f = ran_failed s old mid new run.NoMemory status a refl (omega arith) f

-- the statuses of faults
fault_statuses : (fault : RunFault) → Contains (0 ∷ 3 ∷ 4 ∷ 5 ∷ 6 ∷ 7 ∷ 8 ∷ []) (fault_status fault)
fault_statuses (run.ConfigRefused line code) = (1, omega arith, refl)
fault_statuses (run.RecordRefused offset code) = (2, omega arith, refl)
fault_statuses run.Files = (3, omega arith, refl)
fault_statuses run.Source = (3, omega arith, refl)
fault_statuses run.Sink = (4, omega arith, refl)
fault_statuses run.TooLarge = (6, omega arith, refl)
fault_statuses run.NoMemory = (5, omega arith, refl)

pub finished_status : (fault : RunFault) (old new : Option (List ℕ)) (status : ℕ) → Finishes fault old new status
    → Contains (0 ∷ 3 ∷ 4 ∷ 5 ∷ 6 ∷ 7 ∷ 8 ∷ []) status
finished_status fault old new status (inl (same, line)) = rw same (fault_statuses fault)
finished_status fault old new status (inr ((zero, within, is), part)) = (4, omega arith, is)
finished_status fault old new status (inr ((suc zero, within, is), part)) = (5, omega arith, is)
finished_status fault old new status (inr ((suc (suc k), within, is), part)) = absurd (omega (arith, within))

-- no command over a configuration ends with status 2
pub known_status : (status : ℕ) → Contains (0 ∷ 3 ∷ 4 ∷ 5 ∷ 6 ∷ 7 ∷ 8 ∷ []) status
    → Contains (0 ∷ 2 ∷ 3 ∷ 4 ∷ 5 ∷ 6 ∷ 7 ∷ 8 ∷ []) status
known_status status (zero, within, is) = (0, omega arith, is)
known_status status (suc k, within, is) = (suc (suc k), omega (arith, within), is)

pub no_usage : (status : ℕ) → Contains (0 ∷ 3 ∷ 4 ∷ 5 ∷ 6 ∷ 7 ∷ 8 ∷ []) status → status ≢ 2
no_usage status (zero, within, is) two = absurd (omega (arith, is, two))
no_usage status (suc zero, within, is) two = absurd (omega (arith, is, two))
no_usage status (suc (suc zero), within, is) two = absurd (omega (arith, is, two))
no_usage status (suc (suc (suc zero)), within, is) two = absurd (omega (arith, is, two))
no_usage status (suc (suc (suc (suc zero))), within, is) two = absurd (omega (arith, is, two))
no_usage status (suc (suc (suc (suc (suc zero)))), within, is) two = absurd (omega (arith, is, two))
no_usage status (suc (suc (suc (suc (suc (suc zero))))), within, is) two = absurd (omega (arith, is, two))
no_usage status (suc (suc (suc (suc (suc (suc (suc k)))))), within, is) two = absurd (omega (arith, within))

-- a fault's status is 3 at least
pub fault_large : (fault : RunFault) → 3 ≤ fault_status fault
fault_large (run.ConfigRefused line code) = omega arith
fault_large (run.RecordRefused offset code) = omega arith
fault_large run.Files = omega arith
fault_large run.Source = omega arith
fault_large run.Sink = omega arith
fault_large run.TooLarge = omega arith
fault_large run.NoMemory = omega arith

-- a status that is the fault's own
pub finished_by : (fault : RunFault) (old new : Option (List ℕ)) (status : ℕ) → Finishes fault old new status → status < 6 → fault_status fault ≡ status
finished_by fault old new status (inl (same, line)) within = sym same
finished_by fault old new status (inr (late, part)) within = absurd (omega (arith, late_large status late, within))

pub finished_line : (fault : RunFault) (old new : Option (List ℕ)) (status : ℕ) → Finishes fault old new status → status < 6
    → Appends old new (last_line (fault_end fault))
finished_line fault old new status (inl (same, line)) within = line
finished_line fault old new status (inr (late, part)) within = absurd (omega (arith, late_large status late, within))

pub is_config_refused : (fault : RunFault) → fault_status fault ≡ 3 → (line : ℕ) × (code : ℕ) × (fault ≡ run.ConfigRefused line code)
is_config_refused (run.ConfigRefused line code) is = (line, code, refl)
is_config_refused (run.RecordRefused offset code) is = absurd (omega (arith, is))
is_config_refused run.Files is = absurd (omega (arith, is))
is_config_refused run.Source is = absurd (omega (arith, is))
is_config_refused run.Sink is = absurd (omega (arith, is))
is_config_refused run.TooLarge is = absurd (omega (arith, is))
is_config_refused run.NoMemory is = absurd (omega (arith, is))

pub is_outside : (fault : RunFault) → fault_status fault ≡ 5 → (fault ≡ run.Files) ⊎ (fault ≡ run.Source)
is_outside (run.ConfigRefused line code) is = absurd (omega (arith, is))
is_outside (run.RecordRefused offset code) is = absurd (omega (arith, is))
is_outside run.Files is = inl refl
is_outside run.Source is = inr refl
is_outside run.Sink is = absurd (omega (arith, is))
is_outside run.TooLarge is = absurd (omega (arith, is))
is_outside run.NoMemory is = absurd (omega (arith, is))

has_status : (s : Setting) (old new : Option (List ℕ)) (status : ℕ) → Ran s old new status → Contains (0 ∷ 3 ∷ 4 ∷ []) status → HasStatus s status
has_status s old new status r exact = record { outcome = r.outcome; of_setting = r.of_setting; is = (r.whole exact).0 }

-- where the status is none of a failure, it is the outcome's, or memory ran out
pub complete : (s : Setting) (old new : Option (List ℕ)) (status : ℕ) → Contains (0 ∷ 3 ∷ 4 ∷ 5 ∷ 6 ∷ 7 ∷ 8 ∷ []) status
    → status ≢ 5 → status ≢ 6 → status ≢ 8 → Ran s old new status → (status ≡ 7) ⊎ HasStatus s status
complete s old new status (zero, within, is) no_five no_six no_eight r = inr (has_status s old new status r (0, omega arith, is))
complete s old new status (suc zero, within, is) no_five no_six no_eight r = inr (has_status s old new status r (1, omega arith, is))
complete s old new status (suc (suc zero), within, is) no_five no_six no_eight r = inr (has_status s old new status r (2, omega arith, is))
complete s old new status (suc (suc (suc zero)), within, is) no_five no_six no_eight r = absurd (no_five (sym is))
complete s old new status (suc (suc (suc (suc zero))), within, is) no_five no_six no_eight r = absurd (no_six (sym is))
complete s old new status (suc (suc (suc (suc (suc zero)))), within, is) no_five no_six no_eight r = inl (sym is)
complete s old new status (suc (suc (suc (suc (suc (suc zero))))), within, is) no_five no_six no_eight r = absurd (no_eight (sym is))
complete s old new status (suc (suc (suc (suc (suc (suc (suc k)))))), within, is) no_five no_six no_eight r = absurd (omega (arith, within))

only_large : (fault : RunFault) → fault_status fault ≡ 8 → fault ≡ run.TooLarge
only_large (run.ConfigRefused line code) is = absurd (omega (arith, is))
only_large (run.RecordRefused offset code) is = absurd (omega (arith, is))
only_large run.Files is = absurd (omega (arith, is))
only_large run.Source is = absurd (omega (arith, is))
only_large run.Sink is = absurd (omega (arith, is))
only_large run.TooLarge is = refl
only_large run.NoMemory is = absurd (omega (arith, is))

-- at status 6 the sink failed, before the last line or at it
pub sink_rose : (fault : RunFault) (status before mid after : ℕ) → status ≡ 6 → (fault ≡ run.Sink → Rose before mid)
    → (status ≡ 6 → fault ≢ run.Sink → Rose mid after) → before ≤ mid → mid ≤ after → Rose before after
sink_rose run.Sink status before mid after six failed last first second = omega (arith, failed refl, second)
sink_rose (run.ConfigRefused line code) status before mid after six failed last first second = omega (arith, last six (λ is. cc), first)
sink_rose (run.RecordRefused offset code) status before mid after six failed last first second = omega (arith, last six (λ is. cc), first)
sink_rose run.Files status before mid after six failed last first second = omega (arith, last six (λ is. cc), first)
sink_rose run.Source status before mid after six failed last first second = omega (arith, last six (λ is. cc), first)
sink_rose run.TooLarge status before mid after six failed last first second = omega (arith, last six (λ is. cc), first)
sink_rose run.NoMemory status before mid after six failed last first second = omega (arith, last six (λ is. cc), first)

-- at status 8 the fault is that of a regular expression
pub is_large : (fault : RunFault) (old new : Option (List ℕ)) (status : ℕ) → Finishes fault old new status → status ≡ 8 → fault ≡ run.TooLarge
is_large fault old new status (inl (same, line)) eight = only_large fault (sym same ∙ eight)
is_large fault old new status (inr ((zero, within, is), part)) eight = absurd (omega (arith, is, eight))
is_large fault old new status (inr ((suc zero, within, is), part)) eight = absurd (omega (arith, is, eight))
is_large fault old new status (inr ((suc (suc k), within, is), part)) eight = absurd (omega (arith, within))

-- and nothing is written of it
pub large_line : (fault : RunFault) (old new : Option (List ℕ)) (status : ℕ) → Finishes fault old new status → status ≡ 8 → Appends old new []
large_line fault old new status (inl (same, line)) eight = rw (only_large fault (sym same ∙ eight)) at line
large_line fault old new status (inr ((zero, within, is), part)) eight = absurd (omega (arith, is, eight))
large_line fault old new status (inr ((suc zero, within, is), part)) eight = absurd (omega (arith, is, eight))
large_line fault old new status (inr ((suc (suc k), within, is), part)) eight = absurd (omega (arith, within))
