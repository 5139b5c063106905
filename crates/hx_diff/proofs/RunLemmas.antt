-- Laws of a run: what it has written at each of its ends.
use Rattle.std.proofs.Common.{◌≡◌, ℕ, ◌≤◌, List, [], Bool, Option, None, Some, Result, Ok, Err, IfErr, unwrap_or, IsSomeAnd, ◌⊎◌, inl, inr, refl, ◌∙◌, sym, subst, append-nil, arith}
use Rattle.std.specs.Io.KnownBytes.{Appends}
use Rattle.std.proofs.KnownBytes.{Appends-nil, Appends-trans}
use Rattle.hx_load.specs.Loads as loading
use Rattle.hx_load.specs.declared.LoadFault.{LoadFault}
use Rattle.hx_load.specs.declared.LoadFault.TheVariants as load
use Rattle.hx_outside.specs.Count.{Rose}
use Rattle.hx_outside.specs.Log.{Log}
use Rattle.hx_refs.specs.References.{RefsState}
use Rattle.hx_rules.specs.Programs.{Rules}
use Rattle.hx_replay.specs.Configs.{IsAccepted, IsConfigFile, LoadsConfig, program_of}
use Rattle.hx_replay.proofs.ConfigLemmas.{accepts, some_is_judgement, some_judgement}
use Rattle.hx_replay.specs.Gathering.{IsOfRecord, WritesOutcome}
use Rattle.hx_replay.specs.Outcome.{ends_with}
use Rattle.hx_replay.specs.Records.{IsRecord}
use Rattle.hx_replay.specs.Replay.{BeginsWithDecided, WritesBeforeReading, decided_outcome}
use Rattle.hx_replay.proofs.WrittenLemmas.{begins_more}
use Rattle.hx_diff.specs.Comparison.{Programs, comparison_behavior, initial_comparison}
use Rattle.hx_diff.specs.Outcome.{ConfigRefused, last_line}
use Rattle.hx_diff.specs.Run.{Asked, Setting, AcceptsBoth, AcceptsSome, AnswersBeforeReading, RunReads, SourceFails, compared_outcome, new_of, old_of, outcome_under}
use Rattle.hx_diff.specs.RunFault.{Attempted, Finishes, IsReplayFault, fault_end, load_fault, programs_of, result_end}
use Rattle.hx_diff.specs.declared.run_fault.RunFault.{RunFault}
use Rattle.hx_diff.specs.declared.run_fault.RunFault.TheVariants as run
use Rattle.hx_diff.specs.declared.run_fault.Side.{Side}
use Rattle.hx_diff.specs.declared.run_fault.Side.TheVariants as sides
use Rattle.hx_replay.proofs.LogLemmas.{before_map, before_none}

-- ---- configurations that aren't loaded

record_in_is : (left : Option (List ℕ)) → IsRecord left (unwrap_or left [])
record_in_is None = tt
record_in_is (Some left) = refl

-- where nothing was written and nothing has to be, any configurations and record will do
unknown : (s : Setting) (old : Option (List ℕ)) (fault : RunFault) → result_end (Err fault) ≡ None → Attempted s old old (Err fault)
unknown s old fault undecided =
    let outcome = outcome_under s.asked.task (some_judgement (old_of s)) (some_judgement (new_of s)) (unwrap_or s.left []) in
    record {
      outcome = outcome;
      is_such = record {
        old_judgement = some_judgement (old_of s);
        new_judgement = some_judgement (new_of s);
        bytes = unwrap_or s.left [];
        of_old = some_is_judgement (old_of s);
        of_new = some_is_judgement (new_of s);
        of_source = record_in_is s.left;
        is = refl;
      };
      wrote = [];
      appended = Appends-nil old;
      answers = rw undecided (outcome.answers, refl);
    }

pub old_unloaded : (s : Setting) (old : Option (List ℕ)) (fault : LoadFault) → LoadsConfig (old_of s) (Err fault)
    → Attempted s old old (Err (load_fault sides.Old fault))
old_unloaded s old (load.Refused line code) l = record {
  outcome = ends_with (Some (ConfigRefused sides.Old line code));
  is_such = record {
    old_judgement = loading.Refused (record { line = line; code = code });
    new_judgement = some_judgement (new_of s);
    bytes = unwrap_or s.left [];
    of_old = l;
    of_new = some_is_judgement (new_of s);
    of_source = record_in_is s.left;
    is = refl;
  };
  wrote = [];
  appended = Appends-nil old;
  answers = (refl, refl);
}
old_unloaded s old load.Failed l = unknown s old run.Files refl
old_unloaded s old load.TooLarge l = unknown s old run.TooLarge refl
old_unloaded s old load.NoMemory l = unknown s old run.NoMemory refl

pub new_unloaded : (s : Setting) (made : Rules × RefsState) (old : Option (List ℕ)) (fault : LoadFault) → IsAccepted (old_of s) made
    → LoadsConfig (new_of s) (Err fault) → Attempted s old old (Err (load_fault sides.New fault))
new_unloaded s made old (load.Refused line code) accepted l = record {
  outcome = ends_with (Some (ConfigRefused sides.New line code));
  is_such = record {
    old_judgement = loading.Accepted made.0 made.1.content;
    new_judgement = loading.Refused (record { line = line; code = code });
    bytes = unwrap_or s.left [];
    of_old = accepted;
    of_new = l;
    of_source = record_in_is s.left;
    is = refl;
  };
  wrote = [];
  appended = Appends-nil old;
  answers = (refl, refl);
}
new_unloaded s made old load.Failed accepted l = unknown s old run.Files refl
new_unloaded s made old load.TooLarge accepted l = unknown s old run.TooLarge refl
new_unloaded s made old load.NoMemory accepted l = unknown s old run.NoMemory refl

-- ---- a record that was replayed

pub compared : (s : Setting) (first second : Rules × RefsState) (old new : Option (List ℕ)) (r : Result Bool RunFault) → IsAccepted (old_of s) first
    → IsAccepted (new_of s) second → WritesOutcome (IsOfRecord (compared_outcome (programs_of s.asked.task first second)) s.left) old new [] (result_end r) → Attempted s old new r
compared s first second old new r of_old of_new replays = record {
  outcome = replays.outcome;
  is_such = record {
    old_judgement = loading.Accepted first.0 first.1.content;
    new_judgement = loading.Accepted second.0 second.1.content;
    bytes = replays.is_such.bytes;
    of_old = of_old;
    of_new = of_new;
    of_source = replays.is_such.of_source;
    is = replays.is_such.is;
  };
  wrote = replays.wrote;
  appended = replays.appended;
  answers = replays.answers;
}

-- both configurations are accepted as these programs
pub accept_both : (s : Setting) (first second : Rules × RefsState) → IsAccepted (old_of s) first → IsAccepted (new_of s) second
    → AcceptsBoth s (programs_of s.asked.task first second)
accept_both s first second of_old of_new = record {
  task = refl;
  old = accepts (old_of s) (program_of first) (loading.Accepted first.0 first.1.content) of_old refl;
  new = accepts (new_of s) (program_of second) (loading.Accepted second.0 second.1.content) of_new refl;
}

pub accept_some : (s : Setting) (first second : Rules × RefsState) (P : Programs → Type 0) → IsAccepted (old_of s) first → IsAccepted (new_of s) second
    → P (programs_of s.asked.task first second) → AcceptsSome s P
accept_some s first second P of_old of_new is =
    record { programs = programs_of s.asked.task first second; accepted = accept_both s first second of_old of_new; is = is }

-- the record wasn't read
pub nothing_read : (s : Setting) (log : Option Log) (old new : Option (List ℕ)) → AnswersBeforeReading s log log old new
nothing_read s log old new = before_none log (λ bytes. AcceptsSome s (λ programs. BeginsWithDecided comparison_behavior (initial_comparison programs) bytes old new))

pub answers_before : (s : Setting) (first second : Rules × RefsState) (log log' : Option Log) (old new : Option (List ℕ)) → IsAccepted (old_of s) first
    → IsAccepted (new_of s) second → WritesBeforeReading comparison_behavior (initial_comparison (programs_of s.asked.task first second)) log log' old new → AnswersBeforeReading s log log' old new
answers_before s first second log log' old new of_old of_new written =
    before_map log log' (λ bytes. BeginsWithDecided comparison_behavior (initial_comparison (programs_of s.asked.task first second)) bytes old new)
    (λ bytes. AcceptsSome s (λ programs. BeginsWithDecided comparison_behavior (initial_comparison programs) bytes old new)) written
    (λ bytes begins. accept_some s first second (λ programs. BeginsWithDecided comparison_behavior (initial_comparison programs) bytes old new) of_old of_new begins)

before_moved : (s : Setting) (log log' : Option Log) (old mid new : Option (List ℕ)) (more : List ℕ) → AnswersBeforeReading s log log' old mid
    → Appends mid new more → AnswersBeforeReading s log log' old new
before_moved s log log' old mid new more so_far appended =
    before_map log log' (λ bytes. AcceptsSome s (λ programs. BeginsWithDecided comparison_behavior (initial_comparison programs) bytes old mid))
    (λ bytes. AcceptsSome s (λ programs. BeginsWithDecided comparison_behavior (initial_comparison programs) bytes old new)) so_far (λ bytes answered. record {
      programs = answered.programs;
      accepted = answered.accepted;
      is = begins_more comparison_behavior (initial_comparison answered.programs) bytes old mid new more answered.is appended;
    })

-- and then the line of a fault
pub before_finished : (s : Setting) (log log' : Option Log) (old mid new : Option (List ℕ)) (fault : RunFault) (status : ℕ)
    → AnswersBeforeReading s log log' old mid → Finishes fault mid new status → AnswersBeforeReading s log log' old new
before_finished s log log' old mid new fault status so_far (inl (same, line)) =
    before_moved s log log' old mid new (last_line (fault_end fault)) so_far line
before_finished s log log' old mid new fault status so_far (inr (late, part)) =
    before_moved s log log' old mid new part.prefix so_far part.appended

-- it stays so where nothing more is written
pub source_moved : (s : Setting) (left' old mid new : Option (List ℕ)) → SourceFails s left' old mid → Appends mid new [] → SourceFails s left' old new
source_moved s left' old mid new a nothing = record {
  programs = a.programs;
  accepted = a.accepted;
  is = record {
    took = a.is.took;
    consumed = a.is.consumed;
    going_on = a.is.going_on;
    written = rw (append-nil (decided_outcome comparison_behavior (initial_comparison a.programs) a.is.took).answers) at
        (Appends-trans old mid new (decided_outcome comparison_behavior (initial_comparison a.programs) a.is.took).answers [] a.is.written nothing);
  };
}

-- ---- faults

-- which fault of loading it was
pub load_failed : (side : Side) (fault : LoadFault) → load_fault side fault ≡ run.Files → fault ≡ load.Failed
load_failed side (load.Refused line code) is = cc
load_failed side load.Failed is = refl
load_failed side load.TooLarge is = cc
load_failed side load.NoMemory is = cc

pub load_large : (side : Side) (fault : LoadFault) → load_fault side fault ≡ run.TooLarge → fault ≡ load.TooLarge
load_large side (load.Refused line code) is = cc
load_large side load.Failed is = cc
load_large side load.TooLarge is = refl
load_large side load.NoMemory is = cc

pub load_source : (side : Side) (fault : LoadFault) → load_fault side fault ≡ run.Source → ⊥
load_source side (load.Refused line code) is = cc
load_source side load.Failed is = cc
load_source side load.TooLarge is = cc
load_source side load.NoMemory is = cc

pub load_sink : (side : Side) (fault : LoadFault) → load_fault side fault ≡ run.Sink → ⊥
load_sink side (load.Refused line code) is = cc
load_sink side load.Failed is = cc
load_sink side load.TooLarge is = cc
load_sink side load.NoMemory is = cc

-- an equation of results is one of faults
pub same_fault : (first second : RunFault) → (let made : Result Bool RunFault = Err first in made ≡ Err second) → first ≡ second
same_fault first second is = cc

-- a replay refuses no configuration, and reads no file
pub no_config : (r : Result Bool RunFault) (side : Side) (line code : ℕ) → IfErr r IsReplayFault → r ≡ Err (run.ConfigRefused side line code) → ⊥
no_config (Ok done) side line code kind is = cc
no_config (Err (run.ConfigRefused _ _ _)) side line code kind is = kind
no_config (Err (run.RecordRefused _ _)) side line code kind is = cc
no_config (Err run.Files) side line code kind is = kind
no_config (Err run.Source) side line code kind is = cc
no_config (Err run.Sink) side line code kind is = cc
no_config (Err run.TooLarge) side line code kind is = cc
no_config (Err run.NoMemory) side line code kind is = cc

pub no_files : (r : Result Bool RunFault) → IfErr r IsReplayFault → r ≡ Err run.Files → ⊥
no_files (Ok done) kind is = cc
no_files (Err (run.ConfigRefused _ _ _)) kind is = kind
no_files (Err (run.RecordRefused _ _)) kind is = cc
no_files (Err run.Files) kind is = kind
no_files (Err run.Source) kind is = cc
no_files (Err run.Sink) kind is = cc
no_files (Err run.TooLarge) kind is = cc
no_files (Err run.NoMemory) kind is = cc

-- ---- files

-- a file of one configuration is one of the run
pub old_reads : (s : Setting) (last : Option (List ℕ)) → IsSomeAnd last (IsConfigFile (old_of s)) → IsSomeAnd last (RunReads s)
old_reads s None reads = absurd reads
old_reads s (Some name) reads = inl reads

pub new_reads : (s : Setting) (last : Option (List ℕ)) → IsSomeAnd last (IsConfigFile (new_of s)) → IsSomeAnd last (RunReads s)
new_reads s None reads = absurd reads
new_reads s (Some name) reads = inr reads

pub old_named : (s : Setting) (before after : Option (List ℕ)) → (after ≡ before) ⊎ IsSomeAnd after (IsConfigFile (old_of s))
    → (after ≡ before) ⊎ IsSomeAnd after (RunReads s)
old_named s before after (inl same) = inl same
old_named s before after (inr reads) = inr (old_reads s after reads)

pub new_named : (s : Setting) (before after : Option (List ℕ)) → (after ≡ before) ⊎ IsSomeAnd after (IsConfigFile (new_of s))
    → (after ≡ before) ⊎ IsSomeAnd after (RunReads s)
new_named s before after (inl same) = inl same
new_named s before after (inr reads) = inr (new_reads s after reads)

pub both_named : (s : Setting) (before mid after : Option (List ℕ)) → (mid ≡ before) ⊎ IsSomeAnd mid (IsConfigFile (old_of s))
    → (after ≡ mid) ⊎ IsSomeAnd after (RunReads s) → (after ≡ before) ⊎ IsSomeAnd after (RunReads s)
both_named s before mid after first (inr reads) = inr reads
both_named s before mid after (inl stays) (inl same) = inl (same ∙ stays)
both_named s before mid after (inr reads) (inl same) =
    inr (subst (λ (last : Option (List ℕ)). IsSomeAnd last (RunReads s)) (sym same) (old_reads s mid reads))

pub rose_later : (before mid after : ℕ) → before ≤ mid → Rose mid after → Rose before after
rose_later before mid after later rose = omega (arith, later, rose)

pub rose_from : (before mid after : ℕ) → mid ≡ before → Rose mid after → Rose before after
rose_from before mid after same rose = subst (λ (count : ℕ). Rose count after) same rose

-- words that are a command aren't none
pub asked_not_none : (asked : Asked) (found : Option Asked) → Some asked ≡ found → found ≡ None → ⊥
asked_not_none asked found is none = cc
