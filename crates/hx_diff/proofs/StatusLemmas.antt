-- Laws of the status with which a run ends.
use Rattle.std.proofs.Common.{◌≡◌, ◌≢◌, ℕ, zero, suc, ◌<◌, ◌≤◌, ◌⊎◌, Bool, true, false, List, [], ◌∷◌, ◌++◌, Contains, Option, None, Some, option_map, Ok, Err, inl, inr, arith, refl, sym, ◌∙◌, ap, subst, append_assoc, append-nil}
use mathlib.Core.Bool.{true≢false}
use Rattle.std.specs.Io.KnownBytes.{Appends}
use Rattle.std.proofs.KnownBytes.{Appends-trans}
use Rattle.hx_outside.specs.Count.{Rose}
use Rattle.hx_record.specs.Record.{record_items}
use Rattle.hx_record.specs.declared.Event.{Event}
use Rattle.hx_replay.specs.Behavior.{state_after}
use Rattle.hx_replay.specs.Outcome.{Outcome, RecordEnd, RefusedAt, ReplayEnd}
use Rattle.hx_replay.specs.Program.{Program, initial_world}
use Rattle.hx_replay.specs.Records.{record_limit}
use Rattle.hx_replay.specs.Replay.{record_outcome}
use Rattle.hx_replay.proofs.CompletedLemmas.{completes}
use Rattle.hx_replay.proofs.OutcomeLemmas.{prefix_of}
use Rattle.hx_diff.specs.Comparison.{AreAnsweredAlike, Comparison, Programs, comparison_behavior, comparison_text, initial_comparison}
use Rattle.hx_diff.specs.Tally.{some_differ}
use Rattle.hx_diff.specs.declared.command.Task.{Task}
use Rattle.hx_diff.specs.Outcome.{End, Completed, ConfigRefused, RecordRefused, run_end, status_of, last_line, text_of}
use Rattle.hx_load.specs.Loads.{Loading}
use Rattle.hx_load.specs.Loads as loading
use Rattle.hx_diff.specs.Run.{Setting, HasOutcome, HasStatus, Ran, Headline, old_of, new_of, outcome_under, outcome_after}
use Rattle.hx_diff.specs.RunFault.{Attempted, Finishes, completed_status, fault_end, fault_status}
use Rattle.hx_diff.specs.declared.run_fault.RunFault.{RunFault}
use Rattle.hx_diff.specs.declared.run_fault.RunFault.TheVariants as run
use Rattle.hx_diff.specs.declared.run_fault.Side.{Side}
use Rattle.hx_diff.specs.declared.run_fault.Side.TheVariants as sides
use Rattle.hx_diff.proofs.ComparisonLemmas.{allowed_alike, allowed_by_both, alike_of_none, none_of_alike}
use Rattle.hx_replay.proofs.ConfigLemmas.{accepts}

-- an end is completed like this, or not
abbrev IsCompleted : Bool → Option End → Type 0
IsCompleted differs (Some (Completed other)) = other ≡ differs
IsCompleted differs _ = ⊥

completed : (differs : Bool) (end : Option End) → end ≡ Some (Completed differs) → IsCompleted differs end
completed differs end is = subst (IsCompleted differs) (sym is) refl

-- the replay of a completed run came to the record's end
at_record_end : (differs : Bool) (end : Option (ReplayEnd Comparison)) → option_map run_end end ≡ Some (Completed differs)
    → (last : Comparison) × (end ≡ Some (RecordEnd last)) × (some_differ last.report.tally ≡ differs)
at_record_end differs None is = absurd (completed differs None is)
at_record_end differs (Some (RecordEnd last)) is = (last, refl, completed differs (Some (Completed (some_differ last.report.tally))) is)
at_record_end differs (Some (RefusedAt offset code)) is = absurd (completed differs (Some (RecordRefused offset code)) is)

-- configurations and a record that complete a run
record CompletesRun (task : Task) (old new : Loading) (bytes : List ℕ) (differs : Bool) : Type 0 where
  programs : Programs
  task_is : programs.task ≡ task
  old_is : old ≡ loading.Accepted programs.old_program.rules programs.old_program.references
  new_is : new ≡ loading.Accepted programs.new_program.rules programs.new_program.references
  last : Comparison
  end : (record_outcome comparison_behavior (initial_comparison programs) bytes).end ≡ Some (RecordEnd last)
  tells : some_differ last.report.tally ≡ differs
  answers : (outcome_under task old new bytes).answers ≡ (record_outcome comparison_behavior (initial_comparison programs) bytes).answers

completes_after : (task : Task) (old : Program) (new : Loading) (bytes : List ℕ) (differs : Bool) → (outcome_after task old new bytes).end ≡ Some (Completed differs)
    → CompletesRun task (loading.Accepted old.rules old.references) new bytes differs
completes_after task old (loading.Refused refusal) bytes differs is = absurd (completed differs (Some (ConfigRefused sides.New refusal.line refusal.code)) is)
completes_after task old (loading.Missing name) bytes differs is = absurd (completed differs None is)
completes_after task old (loading.Accepted rules refs) bytes differs is =
    let programs : Programs = record { task = task; old_program = old; new_program = record { rules = rules; references = refs } } in
    let (last, end, tells) = at_record_end differs (record_outcome comparison_behavior (initial_comparison programs) bytes).end is in
    record {
      programs = programs;
      task_is = refl;
      old_is = refl;
      new_is = refl;
      last = last;
      end = end;
      tells = tells;
      answers = refl;
    }

completes_run : (task : Task) (old new : Loading) (bytes : List ℕ) (differs : Bool) → (outcome_under task old new bytes).end ≡ Some (Completed differs)
    → CompletesRun task old new bytes differs
completes_run task (loading.Refused refusal) new bytes differs is = absurd (completed differs (Some (ConfigRefused sides.Old refusal.line refusal.code)) is)
completes_run task (loading.Missing name) new bytes differs is = absurd (completed differs None is)
completes_run task (loading.Accepted rules refs) new bytes differs is =
    completes_after task (record { rules = rules; references = refs }) new bytes differs is

-- where the status says that nothing differs, nothing does, and where it says so, something does
status_same : (differs : Bool) → completed_status differs ≡ 0 → differs ≡ false
status_same false is = refl
status_same true is = absurd (omega (arith, is))

status_other : (differs : Bool) → completed_status differs ≡ 1 → differs ≡ true
status_other false is = absurd (omega (arith, is))
status_other true is = refl

alike_where : (programs : Programs) (events : List Event) (differs : Bool) → some_differ (state_after comparison_behavior (initial_comparison programs) events).report.tally ≡ differs
    → differs ≡ false → AreAnsweredAlike (initial_world programs.old_program) (initial_world programs.new_program) events
alike_where programs events differs tells is = alike_of_none (initial_comparison programs) events (tells ∙ is)

other_where : (programs : Programs) (events : List Event) (differs : Bool) → some_differ (state_after comparison_behavior (initial_comparison programs) events).report.tally ≡ differs
    → differs ≡ true → AreAnsweredAlike (initial_world programs.old_program) (initial_world programs.new_program) events → ⊥
other_where programs events differs tells is alike =
    true≢false (sym (tells ∙ is) ∙ none_of_alike (initial_comparison programs) events alike)

headline_of : (s : Setting) (old new : Option (List ℕ)) (differs : Bool) (outcome : Outcome End) (wrote : List ℕ) (h : HasOutcome s outcome)
    → CompletesRun s.asked.task h.old_judgement h.new_judgement h.bytes differs → outcome.answers ≡ wrote → Appends old new wrote
    → Headline s old new (completed_status differs)
headline_of s old new differs outcome wrote h r is appended =
    let whole = completes comparison_behavior (initial_comparison r.programs) (record_items h.bytes record_limit) r.last r.end in
    let old_allowed = allowed_by_both (initial_comparison r.programs) whole.events whole.allowed in
    let tells : some_differ (state_after comparison_behavior (initial_comparison r.programs) whole.events).report.tally ≡ differs =
    ap (λ (c : Comparison). some_differ c.report.tally) (sym whole.last_is) ∙ r.tells in
    let text : comparison_text (initial_comparison r.programs) whole.events ≡ wrote =
    sym whole.answers ∙ sym r.answers ∙ sym (ap (λ (o : Outcome End). o.answers) h.is) ∙ is in
    record {
      programs = r.programs;
      accepted = record {
        task = r.task_is;
        old = accepts (old_of s) r.programs.old_program h.old_judgement h.of_old r.old_is;
        new = accepts (new_of s) r.programs.new_program h.new_judgement h.of_new r.new_is;
      };
      bytes = h.bytes;
      of_source = h.of_source;
      events = whole.events;
      read = whole.read;
      old_allowed = old_allowed;
      new_allowed = allowed_alike (initial_world r.programs.old_program) (initial_world r.programs.new_program) whole.events refl old_allowed;
      written = subst (λ (t : List ℕ). Appends old new t) (sym text) appended;
      same = λ zero_is. alike_where r.programs whole.events differs tells (status_same differs zero_is);
      other = λ one_is. other_where r.programs whole.events differs tells (status_other differs one_is);
    }

-- a run that is completed
pub headline : (s : Setting) (old new : Option (List ℕ)) (differs : Bool) → Attempted s old new (Ok differs) → Headline s old new (completed_status differs)
headline s old new differs a =
    headline_of s old new differs a.outcome a.wrote a.is_such
    (completes_run s.asked.task a.is_such.old_judgement a.is_such.new_judgement a.is_such.bytes differs
    (sym (ap (λ (o : Outcome End). o.end) a.is_such.is) ∙ a.answers.0))
    (a.answers.1 ∙ append-nil a.wrote) a.appended

-- all answers of an outcome, and then what is written of its end
wrote_all : (outcome : Outcome End) (end : Option End) (wrote line : List ℕ) → outcome.end ≡ end → outcome.answers ≡ wrote → line ≡ last_line end
    → text_of outcome ≡ wrote ++ line
wrote_all outcome end wrote line is answers last = rw (answers, is, last) refl

status_is : (differs : Bool) → status_of (Some (Completed differs)) ≡ Some (completed_status differs)
status_is false = refl
status_is true = refl

pub ran_completed : (s : Setting) (old new : Option (List ℕ)) (differs : Bool) → Attempted s old new (Ok differs) → Ran s old new (completed_status differs)
ran_completed s old new differs a =
    let text : text_of a.outcome ≡ a.wrote ++ [] = wrote_all a.outcome (Some (Completed differs)) a.wrote [] a.answers.0 (a.answers.1 ∙ append-nil a.wrote) refl in
    record {
      outcome = a.outcome;
      of_setting = a.is_such;
      written = record { prefix = a.wrote; rest = []; whole = text; appended = a.appended };
      whole = λ _. (ap status_of a.answers.0 ∙ status_is differs, rw (text ∙ append-nil a.wrote) a.appended);
    }

small : (status : ℕ) → Contains (0 ∷ 1 ∷ 3 ∷ 4 ∷ []) status → status ≤ 4
small status (zero, within, is) = omega (arith, is)
small status (suc zero, within, is) = omega (arith, is)
small status (suc (suc zero), within, is) = omega (arith, is)
small status (suc (suc (suc zero)), within, is) = omega (arith, is)
small status (suc (suc (suc (suc k))), within, is) = absurd (omega (arith, within))

late_large : (status : ℕ) → Contains (6 ∷ 7 ∷ []) status → 6 ≤ status
late_large status (zero, within, is) = omega (arith, is)
late_large status (suc zero, within, is) = omega (arith, is)
late_large status (suc (suc k), within, is) = absurd (omega (arith, within))

-- a refusal, with the line that is written of it, or a prefix of that line
ran_refused : (s : Setting) (old mid new : Option (List ℕ)) (fault : RunFault) (status : ℕ) (a : Attempted s old mid (Err fault))
    → a.outcome.end ≡ fault_end fault → a.outcome.answers ≡ a.wrote → status_of (fault_end fault) ≡ Some (fault_status fault)
    → Finishes fault mid new status → Ran s old new status
ran_refused s old mid new fault status a is answers decided (inl (same, line)) =
    let text : text_of a.outcome ≡ a.wrote ++ last_line (fault_end fault) =
    wrote_all a.outcome (fault_end fault) a.wrote (last_line (fault_end fault)) is answers refl in
    let appended = Appends-trans old mid new a.wrote (last_line (fault_end fault)) a.appended line in
    record {
      outcome = a.outcome;
      of_setting = a.is_such;
      written = record {
        prefix = a.wrote ++ last_line (fault_end fault);
        rest = [];
        whole = text ∙ sym (append-nil (a.wrote ++ last_line (fault_end fault)));
        appended = appended;
      };
      whole = λ _. (ap status_of is ∙ decided ∙ ap (λ n. Some n) (sym same), rw text appended);
    }
ran_refused s old mid new fault status a is answers decided (inr (late, part)) =
    let text : text_of a.outcome ≡ a.wrote ++ last_line (fault_end fault) =
    wrote_all a.outcome (fault_end fault) a.wrote (last_line (fault_end fault)) is answers refl in
    record {
      outcome = a.outcome;
      of_setting = a.is_such;
      written = record {
        prefix = a.wrote ++ part.prefix;
        rest = part.rest;
        whole = text ∙ ap (λ t. a.wrote ++ t) part.whole ∙ sym (append_assoc a.wrote part.prefix part.rest);
        appended = Appends-trans old mid new a.wrote part.prefix a.appended part.appended;
      };
      whole = λ exact. absurd (omega (arith, small status exact, late_large status late));
    }

nil_of_append : (prefix rest : List ℕ) → prefix ++ rest ≡ [] → prefix ≡ []
nil_of_append [] rest is = refl
nil_of_append (b ∷ prefix) rest is = cc

-- a prefix of the answers is one of the text
ran_prefix : (s : Setting) (old new : Option (List ℕ)) (outcome : Outcome End) (wrote rest : List ℕ) (status : ℕ) → HasOutcome s outcome
    → outcome.answers ≡ wrote ++ rest → Appends old new wrote → 5 ≤ status → Ran s old new status
ran_prefix s old new outcome wrote rest status of_setting is appended large = record {
  outcome = outcome;
  of_setting = of_setting;
  written = record {
    prefix = wrote;
    rest = rest ++ last_line outcome.end;
    whole = ap (λ t. t ++ last_line outcome.end) is ∙ append_assoc wrote rest (last_line outcome.end);
    appended = appended;
  };
  whole = λ exact. absurd (omega (arith, small status exact, large));
}

-- another fault, of which no line is written
ran_failed : (s : Setting) (old mid new : Option (List ℕ)) (fault : RunFault) (status : ℕ) (a : Attempted s old mid (Err fault))
    → last_line (fault_end fault) ≡ [] → 5 ≤ fault_status fault → Finishes fault mid new status → Ran s old new status
ran_failed s old mid new fault status a none large (inl (same, line)) =
    let (rest, is) = prefix_of (fault_end fault) a.outcome a.wrote (rw (append-nil a.wrote) at a.answers) in
    ran_prefix s old new a.outcome a.wrote rest status a.is_such is
    (rw (append-nil a.wrote) at (Appends-trans old mid new a.wrote [] a.appended (rw none at line))) (omega (arith, large, same))
ran_failed s old mid new fault status a none large (inr (late, part)) =
    let (rest, is) = prefix_of (fault_end fault) a.outcome a.wrote (rw (append-nil a.wrote) at a.answers) in
    let empty : part.prefix ≡ [] = nil_of_append part.prefix part.rest (sym part.whole ∙ none) in
    ran_prefix s old new a.outcome a.wrote rest status a.is_such is
    (rw (append-nil a.wrote) at (Appends-trans old mid new a.wrote [] a.appended (rw empty at part.appended))) (omega (arith, late_large status late))

pub ran_finished : (s : Setting) (old mid new : Option (List ℕ)) (fault : RunFault) (status : ℕ)
    → Attempted s old mid (Err fault) → Finishes fault mid new status → Ran s old new status
ran_finished s old mid new (run.ConfigRefused side line code) status a f =
    ran_refused s old mid new (run.ConfigRefused side line code) status a a.answers.0 (a.answers.1 ∙ append-nil a.wrote) refl f
ran_finished s old mid new (run.RecordRefused offset code) status a f =
    ran_refused s old mid new (run.RecordRefused offset code) status a a.answers.0 (a.answers.1 ∙ append-nil a.wrote) refl f
ran_finished s old mid new run.Files status a f = ran_failed s old mid new run.Files status a refl (omega arith) f
ran_finished s old mid new run.Source status a f = ran_failed s old mid new run.Source status a refl (omega arith) f
ran_finished s old mid new run.Sink status a f = ran_failed s old mid new run.Sink status a refl (omega arith) f
ran_finished s old mid new run.TooLarge status a f = ran_failed s old mid new run.TooLarge status a refl (omega arith) f
ran_finished s old mid new run.NoMemory status a f = ran_failed s old mid new run.NoMemory status a refl (omega arith) f

-- the statuses of faults
fault_statuses : (fault : RunFault) → Contains (0 ∷ 1 ∷ 2 ∷ 3 ∷ 4 ∷ 5 ∷ 6 ∷ 7 ∷ 8 ∷ []) (fault_status fault)
fault_statuses (run.ConfigRefused side line code) = (3, omega arith, refl)
fault_statuses (run.RecordRefused offset code) = (4, omega arith, refl)
fault_statuses run.Files = (5, omega arith, refl)
fault_statuses run.Source = (5, omega arith, refl)
fault_statuses run.Sink = (6, omega arith, refl)
fault_statuses run.TooLarge = (8, omega arith, refl)
fault_statuses run.NoMemory = (7, omega arith, refl)

pub finished_status : (fault : RunFault) (old new : Option (List ℕ)) (status : ℕ) → Finishes fault old new status
    → Contains (0 ∷ 1 ∷ 2 ∷ 3 ∷ 4 ∷ 5 ∷ 6 ∷ 7 ∷ 8 ∷ []) status
finished_status fault old new status (inl (same, line)) = rw same (fault_statuses fault)
finished_status fault old new status (inr ((zero, within, is), part)) = (6, omega arith, is)
finished_status fault old new status (inr ((suc zero, within, is), part)) = (7, omega arith, is)
finished_status fault old new status (inr ((suc (suc k), within, is), part)) = absurd (omega (arith, within))

-- a fault's status is 3 at least
pub fault_large : (fault : RunFault) → 3 ≤ fault_status fault
fault_large (run.ConfigRefused side line code) = omega arith
fault_large (run.RecordRefused offset code) = omega arith
fault_large run.Files = omega arith
fault_large run.Source = omega arith
fault_large run.Sink = omega arith
fault_large run.TooLarge = omega arith
fault_large run.NoMemory = omega arith

-- a status that is the fault's own
pub finished_by : (fault : RunFault) (old new : Option (List ℕ)) (status : ℕ) → Finishes fault old new status → status < 6 → fault_status fault ≡ status
finished_by fault old new status (inl (same, line)) within = sym same
finished_by fault old new status (inr (late, part)) within = absurd (omega (arith, late_large status late, within))

pub finished_line : (fault : RunFault) (old new : Option (List ℕ)) (status : ℕ) → Finishes fault old new status → status < 6
    → Appends old new (last_line (fault_end fault))
finished_line fault old new status (inl (same, line)) within = line
finished_line fault old new status (inr (late, part)) within = absurd (omega (arith, late_large status late, within))

pub is_config_refused : (fault : RunFault) → fault_status fault ≡ 3 → (side : Side) × (line : ℕ) × (code : ℕ) × (fault ≡ run.ConfigRefused side line code)
is_config_refused (run.ConfigRefused side line code) is = (side, line, code, refl)
is_config_refused (run.RecordRefused offset code) is = absurd (omega (arith, is))
is_config_refused run.Files is = absurd (omega (arith, is))
is_config_refused run.Source is = absurd (omega (arith, is))
is_config_refused run.Sink is = absurd (omega (arith, is))
is_config_refused run.TooLarge is = absurd (omega (arith, is))
is_config_refused run.NoMemory is = absurd (omega (arith, is))

pub is_outside : (fault : RunFault) → fault_status fault ≡ 5 → (fault ≡ run.Files) ⊎ (fault ≡ run.Source)
is_outside (run.ConfigRefused side line code) is = absurd (omega (arith, is))
is_outside (run.RecordRefused offset code) is = absurd (omega (arith, is))
is_outside run.Files is = inl refl
is_outside run.Source is = inr refl
is_outside run.Sink is = absurd (omega (arith, is))
is_outside run.TooLarge is = absurd (omega (arith, is))
is_outside run.NoMemory is = absurd (omega (arith, is))

has_status : (s : Setting) (old new : Option (List ℕ)) (status : ℕ) → Ran s old new status → Contains (0 ∷ 1 ∷ 3 ∷ 4 ∷ []) status → HasStatus s status
has_status s old new status r exact = record { outcome = r.outcome; of_setting = r.of_setting; is = (r.whole exact).0 }

pub completed_has : (s : Setting) (old new : Option (List ℕ)) (differs : Bool) → Ran s old new (completed_status differs) → HasStatus s (completed_status differs)
completed_has s old new false r = has_status s old new 0 r (0, omega arith, refl)
completed_has s old new true r = has_status s old new 1 r (1, omega arith, refl)

pub completed_statuses : (differs : Bool) → Contains (0 ∷ 1 ∷ 2 ∷ 3 ∷ 4 ∷ 5 ∷ 6 ∷ 7 ∷ 8 ∷ []) (completed_status differs)
completed_statuses false = (0, omega arith, refl)
completed_statuses true = (1, omega arith, refl)

-- such a status is none of a fault's
pub completed_small : (differs : Bool) → completed_status differs ≤ 1
completed_small false = omega arith
completed_small true = omega arith

pub small_status : (status : ℕ) → Contains (0 ∷ 1 ∷ []) status → 3 ≤ status → ⊥
small_status status (zero, within, is) large = omega (arith, is, large)
small_status status (suc zero, within, is) large = omega (arith, is, large)
small_status status (suc (suc k), within, is) large = omega (arith, within)

-- where the fault's status is none of a failure, it is the outcome's, or memory ran out
pub complete : (s : Setting) (old new : Option (List ℕ)) (status : ℕ) → Contains (0 ∷ 1 ∷ 2 ∷ 3 ∷ 4 ∷ 5 ∷ 6 ∷ 7 ∷ 8 ∷ []) status
    → 3 ≤ status → status ≢ 5 → status ≢ 6 → status ≢ 8 → Ran s old new status → (status ≡ 7) ⊎ HasStatus s status
complete s old new status (zero, within, is) large no_five no_six no_eight r = absurd (omega (arith, large, is))
complete s old new status (suc zero, within, is) large no_five no_six no_eight r = absurd (omega (arith, large, is))
complete s old new status (suc (suc zero), within, is) large no_five no_six no_eight r = absurd (omega (arith, large, is))
complete s old new status (suc (suc (suc zero)), within, is) large no_five no_six no_eight r = inr (has_status s old new status r (2, omega arith, is))
complete s old new status (suc (suc (suc (suc zero))), within, is) large no_five no_six no_eight r = inr (has_status s old new status r (3, omega arith, is))
complete s old new status (suc (suc (suc (suc (suc zero)))), within, is) large no_five no_six no_eight r = absurd (no_five (sym is))
complete s old new status (suc (suc (suc (suc (suc (suc zero))))), within, is) large no_five no_six no_eight r = absurd (no_six (sym is))
complete s old new status (suc (suc (suc (suc (suc (suc (suc zero)))))), within, is) large no_five no_six no_eight r = inl (sym is)
complete s old new status (suc (suc (suc (suc (suc (suc (suc (suc zero))))))), within, is) large no_five no_six no_eight r = absurd (no_eight (sym is))
complete s old new status (suc (suc (suc (suc (suc (suc (suc (suc (suc k)))))))), within, is) large no_five no_six no_eight r = absurd (omega (arith, within))

only_large : (fault : RunFault) → fault_status fault ≡ 8 → fault ≡ run.TooLarge
only_large (run.ConfigRefused side line code) is = absurd (omega (arith, is))
only_large (run.RecordRefused offset code) is = absurd (omega (arith, is))
only_large run.Files is = absurd (omega (arith, is))
only_large run.Source is = absurd (omega (arith, is))
only_large run.Sink is = absurd (omega (arith, is))
only_large run.TooLarge is = refl
only_large run.NoMemory is = absurd (omega (arith, is))

-- at status 6 the sink failed, before the last line or at it
pub sink_rose : (fault : RunFault) (status before mid after : ℕ) → status ≡ 6 → (fault ≡ run.Sink → Rose before mid)
    → (status ≡ 6 → fault ≢ run.Sink → Rose mid after) → before ≤ mid → mid ≤ after → Rose before after
sink_rose run.Sink status before mid after six failed last first second = omega (arith, failed refl, second)
sink_rose (run.ConfigRefused side line code) status before mid after six failed last first second = omega (arith, last six (λ is. cc), first)
sink_rose (run.RecordRefused offset code) status before mid after six failed last first second = omega (arith, last six (λ is. cc), first)
sink_rose run.Files status before mid after six failed last first second = omega (arith, last six (λ is. cc), first)
sink_rose run.Source status before mid after six failed last first second = omega (arith, last six (λ is. cc), first)
sink_rose run.TooLarge status before mid after six failed last first second = omega (arith, last six (λ is. cc), first)
sink_rose run.NoMemory status before mid after six failed last first second = omega (arith, last six (λ is. cc), first)

-- at status 8 the fault is that of a regular expression
pub is_large : (fault : RunFault) (old new : Option (List ℕ)) (status : ℕ) → Finishes fault old new status → status ≡ 8 → fault ≡ run.TooLarge
is_large fault old new status (inl (same, line)) eight = only_large fault (sym same ∙ eight)
is_large fault old new status (inr ((zero, within, is), part)) eight = absurd (omega (arith, is, eight))
is_large fault old new status (inr ((suc zero, within, is), part)) eight = absurd (omega (arith, is, eight))
is_large fault old new status (inr ((suc (suc k), within, is), part)) eight = absurd (omega (arith, within))

-- and nothing is written of it
pub large_line : (fault : RunFault) (old new : Option (List ℕ)) (status : ℕ) → Finishes fault old new status → status ≡ 8 → Appends old new []
large_line fault old new status (inl (same, line)) eight = rw (only_large fault (sym same ∙ eight)) at line
large_line fault old new status (inr ((zero, within, is), part)) eight = absurd (omega (arith, is, eight))
large_line fault old new status (inr ((suc zero, within, is), part)) eight = absurd (omega (arith, is, eight))
large_line fault old new status (inr ((suc (suc k), within, is), part)) eight = absurd (omega (arith, within))
