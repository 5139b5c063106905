-- What a check comes to: its configuration, its trace and its record.
use Rattle.std.proofs.Common.{◌≡◌, ◌≢◌, ℕ, List, [], ◌⊎◌, ◌≤◌, inl, inr, Option, None, Some, IfErr, IfSome, IsSomeAnd, Result, Ok, Err, unwrap_or, refl, sym, subst, arith}
use Rattle.hx_base.specs.Pairs.{NamedBytes, value_at}
use Rattle.hx_load.specs.Loads as loading
use Rattle.hx_load.specs.declared.LoadFault.{LoadFault}
use Rattle.hx_load.specs.declared.LoadFault.TheVariants as load
use Rattle.hx_outside.specs.Count.{Rose}
use Rattle.hx_outside.specs.Log.{FileLog, HoldsSince, Logs}
use Rattle.hx_replay.specs.Configs.{IsAccepted, LoadsConfig, program_of}
use Rattle.hx_replay.proofs.ConfigFileLemmas.{EndsWith, ends_small, part_at_end}
use Rattle.hx_replay.specs.ConfigFiles.{ReadsPart, ReadsToLoad, ReadsWhole, load_status}
use Rattle.hx_replay.proofs.ConfigLemmas.{some_is_judgement, some_judgement}
use Rattle.hx_replay.proofs.LogLemmas.{since_map, since_more}
use Rattle.hx_outside.specs.declared.FileFault.{FileFault}
use Rattle.hx_outside.specs.declared.FileFault.TheVariants as file
use Rattle.hx_refs.specs.References.{RefsState}
use Rattle.hx_rules.specs.Programs.{Rules}
use Rattle.hx_replay.specs.Outcome.{Outcome, ends_with}
use Rattle.hx_replay.specs.Program.{Program}
use Rattle.hx_replay.specs.Records.{IsRecord}
use Rattle.hx_run.specs.Outcome.{ConfigRefused, End}
use Rattle.hx_run.specs.Run.{RunReads, accepted_outcome, config_of, outcome_under}
use Rattle.hx_run.specs.RunFault.{EndsAs, IsReplayFault, fault_end, fault_of_file, fault_status, load_fault}
use Rattle.hx_run.specs.declared.command.Detail.TheVariants.{Reasons}
use Rattle.hx_run.specs.declared.command.Task.TheVariants.{Replay}
use Rattle.hx_run.specs.declared.run_fault.RunFault.{RunFault}
use Rattle.hx_run.specs.declared.run_fault.RunFault.TheVariants as run
use Rattle.hx_run.proofs.RunLemmas.{accepted_outcome_is, accepts_loaded, has_outcome}
use Rattle.hx_trace_run.specs.CheckFiles.{ReadsCheckFiles}
use Rattle.hx_trace_run.specs.CheckView.{FindsBeside, FindsCheck, FindsNamed, FinishesCheck, IsFound, result_status}
use Rattle.hx_trace_run.specs.Checking.{CheckReads, CheckSetting, CheckSourceFails, IsFile, TakesUnrefused, trace_setting}
use Rattle.hx_trace_run.specs.declared.agreement.Finding.{Finding}
use Rattle.hx_trace_run.specs.declared.agreement.Finding.TheVariants.{Same, Differs}

-- ---- the trace

-- the bytes under a name, as far as it is known what the files hold
abbrev file_in : Option NamedBytes → List ℕ → Option (List ℕ)
file_in None name = None
file_in (Some files) name = value_at files name

file_in_is : (held : Option NamedBytes) (name : List ℕ) → IsFile held name (file_in held name)
file_in_is None name = tt
file_in_is (Some files) name = refl

is_file : (held : Option NamedBytes) (name items : List ℕ) → IfSome held (λ files. value_at files name ≡ Some items) → IsFile held name (Some items)
is_file None name items known = tt
is_file (Some files) name items known = sym known

record_in_is : (left : Option (List ℕ)) → IsRecord left (unwrap_or left [])
record_in_is None = tt
record_in_is (Some left) = refl

-- the trace was read, and this was found of it
pub named_found : (program : Program) (held : Option NamedBytes) (name items : List ℕ) (left : Option (List ℕ)) (result : Result Finding RunFault)
    → IfSome held (λ files. value_at files name ≡ Some items) → FindsBeside program items left result → FindsNamed program held name left result
named_found program held name items left result known f = record {
  trace = Some items;
  of_files = is_file held name items known;
  bytes = f.bytes;
  of_source = f.of_source;
  found = f.found;
}

-- it wasn't read
pub named_unread : (program : Program) (held : Option NamedBytes) (name : List ℕ) (left : Option (List ℕ)) (fault : FileFault)
    → FindsNamed program held name left (Err (fault_of_file fault))
named_unread program held name left file.Failed = record {
  trace = file_in held name;
  of_files = file_in_is held name;
  bytes = unwrap_or left [];
  of_source = record_in_is left;
  found = tt;
}
named_unread program held name left file.NoMemory = record {
  trace = file_in held name;
  of_files = file_in_is held name;
  bytes = unwrap_or left [];
  of_source = record_in_is left;
  found = tt;
}

-- ---- both

-- the configuration is loaded
pub loaded_finds : (s : CheckSetting) (made : Rules × RefsState) (result : Result Finding RunFault) → IsAccepted (config_of (trace_setting s)) made
    → FindsNamed (program_of made) s.held s.trace_name s.left result → FindsCheck s result
loaded_finds s made result accepted f = record {
  trace = f.trace;
  of_files = f.of_files;
  traced = accepted_outcome (Replay Reasons) (program_of made) f.bytes;
  of_run = accepted_outcome_is (trace_setting s) made (Replay Reasons) f.bytes refl accepted f.of_source;
  found = f.found;
}

-- the fault decides nothing of a trace
abbrev IsUndecided : RunFault → Type 0
IsUndecided (run.ConfigRefused line code) = ⊥
IsUndecided (run.RecordRefused offset code) = ⊥
IsUndecided _ = Unit {0}

undecided_found : (trace : Option (List ℕ)) (outcome : Outcome End) (fault : RunFault) → IsUndecided fault → IsFound trace outcome (Err fault)
undecided_found trace outcome (run.ConfigRefused line code) undecided = absurd undecided
undecided_found trace outcome (run.RecordRefused offset code) undecided = absurd undecided
undecided_found trace outcome run.Files undecided = tt
undecided_found trace outcome run.Source undecided = tt
undecided_found trace outcome run.Sink undecided = tt
undecided_found trace outcome run.TooLarge undecided = tt
undecided_found trace outcome run.NoMemory undecided = tt

-- where nothing has to be found, any configuration, trace and record will do
unknown : (s : CheckSetting) (fault : RunFault) → IsUndecided fault → FindsCheck s (Err fault)
unknown s fault undecided =
    let judgement = some_judgement (config_of (trace_setting s)) in
    let outcome = outcome_under (Replay Reasons) judgement (unwrap_or s.left []) in
    record {
      trace = file_in s.held s.trace_name;
      of_files = file_in_is s.held s.trace_name;
      traced = outcome;
      of_run = has_outcome (trace_setting s) judgement (unwrap_or s.left []) (some_is_judgement (config_of (trace_setting s))) (record_in_is s.left);
      found = undecided_found (file_in s.held s.trace_name) outcome fault undecided;
    }

-- the configuration isn't loaded
pub unloaded_finds : (s : CheckSetting) (fault : LoadFault) → LoadsConfig (config_of (trace_setting s)) (Err fault) → FindsCheck s (Err (load_fault fault))
unloaded_finds s (load.Refused line code) l = record {
  trace = file_in s.held s.trace_name;
  of_files = file_in_is s.held s.trace_name;
  traced = ends_with (Some (ConfigRefused line code));
  of_run = has_outcome (trace_setting s) (loading.Refused (record { line = line; code = code })) (unwrap_or s.left []) l (record_in_is s.left);
  found = refl;
}
unloaded_finds s load.Failed l = unknown s run.Files tt
unloaded_finds s load.TooLarge l = unknown s run.TooLarge tt
unloaded_finds s load.NoMemory l = unknown s run.NoMemory tt

-- ---- what ends a check early

pub source_fails : (s : CheckSetting) (made : Rules × RefsState) (left' : Option (List ℕ)) → IsAccepted (config_of (trace_setting s)) made
    → TakesUnrefused (program_of made) s.left left' → CheckSourceFails s left'
source_fails s made left' accepted takes =
    record { program = program_of made; accepted = accepts_loaded (trace_setting s) made accepted; is = takes }

-- a file of the configuration
pub config_reads : (s : CheckSetting) (last : Option (List ℕ)) → IsSomeAnd last (RunReads (trace_setting s)) → IsSomeAnd last (CheckReads s)
config_reads s None reads = absurd reads
config_reads s (Some name) reads = inl reads

-- the trace is the file that wasn't read
pub trace_unread : (s : CheckSetting) (made : Rules × RefsState) (last : Option (List ℕ)) → IsAccepted (config_of (trace_setting s)) made
    → last ≡ Some s.trace_name → IsSomeAnd last (CheckReads s)
trace_unread s made last accepted is =
    rw is (inr (refl, record { program = program_of made; accepted = accepts_loaded (trace_setting s) made accepted; is = tt }))

-- the last name stays, or is that of a file that a check reads
pub config_named : (s : CheckSetting) (old new : Option (List ℕ)) → (new ≡ old) ⊎ IsSomeAnd new (RunReads (trace_setting s)) → (new ≡ old) ⊎ IsSomeAnd new (CheckReads s)
config_named s old new (inl stays) = inl stays
config_named s old new (inr reads) = inr (config_reads s new reads)

pub both_named : (s : CheckSetting) (made : Rules × RefsState) (old mid new : Option (List ℕ)) → IsAccepted (config_of (trace_setting s)) made
    → (mid ≡ old) ⊎ IsSomeAnd mid (RunReads (trace_setting s)) → (new ≡ mid) ⊎ (new ≡ Some s.trace_name)
    → (new ≡ old) ⊎ IsSomeAnd new (CheckReads s)
both_named s made old mid new accepted first (inr is) = inr (trace_unread s made new accepted is)
both_named s made old mid new accepted first (inl stays) = rw stays (config_named s old mid first)

-- ---- the files that a check reads

status_of_load : (fault : LoadFault) → load_status fault ≡ fault_status (load_fault fault)
status_of_load (load.Refused line code) = refl
status_of_load load.Failed = refl
status_of_load load.TooLarge = refl
status_of_load load.NoMemory = refl

-- the configuration isn't loaded
pub files_of_unloaded : (s : CheckSetting) (fault : LoadFault) (last : Option (List ℕ)) (old new : Option FileLog)
    → HoldsSince old new (ReadsToLoad (config_of (trace_setting s)) last (Err fault)) → HoldsSince old new (ReadsCheckFiles s last (fault_status (load_fault fault)))
files_of_unloaded s fault last old new since =
    since_map old new (ReadsPart (config_of (trace_setting s)) last (load_status fault)) (ReadsCheckFiles s last (fault_status (load_fault fault))) since
    (λ names part. inl (rw (status_of_load fault) at part))

-- neither a replay nor a trace that can't be read refuses a configuration
unrefused : (r : Result Finding RunFault) → IfErr r (λ fault. IsReplayFault fault ⊎ (fault ≡ run.Files)) → result_status r ≢ 3
unrefused (Ok Same) kind = λ is. absurd (omega (arith, is))
unrefused (Ok (Differs line)) kind = λ is. absurd (omega (arith, is))
unrefused (Err (run.ConfigRefused line code)) (inl replay) = absurd replay
unrefused (Err (run.ConfigRefused line code)) (inr files) = λ is. cc
unrefused (Err (run.RecordRefused offset code)) kind = λ is. absurd (omega (arith, is))
unrefused (Err run.Files) kind = λ is. absurd (omega (arith, is))
unrefused (Err run.Source) kind = λ is. absurd (omega (arith, is))
unrefused (Err run.Sink) kind = λ is. absurd (omega (arith, is))
unrefused (Err run.TooLarge) kind = λ is. absurd (omega (arith, is))
unrefused (Err run.NoMemory) kind = λ is. absurd (omega (arith, is))

-- it is loaded, and then the trace is read
pub files_of_loaded : (s : CheckSetting) (made : Rules × RefsState) (r : Result Finding RunFault) (load_last last : Option (List ℕ)) (old now new : Option FileLog)
    → IfErr r (λ fault. IsReplayFault fault ⊎ (fault ≡ run.Files)) → HoldsSince old now (ReadsToLoad (config_of (trace_setting s)) load_last (Ok made))
    → Logs now new s.trace_name → HoldsSince old new (ReadsCheckFiles s last (result_status r))
files_of_loaded s made r load_last last old now new kind since one =
    since_more old now new s.trace_name (ReadsWhole (config_of (trace_setting s))) (ReadsCheckFiles s last (result_status r)) since one
    (λ names whole. inr (unrefused r kind, record { config_names = names; names_are = refl; whole = whole }))

-- the end of a check
ends_with_result : (r : Result Finding RunFault) (old new : Option (List ℕ)) (status : ℕ) → FinishesCheck r old new status → EndsWith (result_status r) status
ends_with_result r old new status (inl (same, line)) = inl same
ends_with_result r old new status (inr (late, part)) = inr late

finished_reads : (s : CheckSetting) (last : Option (List ℕ)) (status final : ℕ) → EndsWith status final
    → (names : List (List ℕ)) → ReadsCheckFiles s last status names → ReadsCheckFiles s last final names
finished_reads s last status final ends names (inl part) = inl (part_at_end (config_of (trace_setting s)) last status final ends names part)
finished_reads s last status final ends names (inr (unrefused, trace)) = inr (λ three. unrefused (ends_small status final 3 ends (omega arith) three), trace)

pub finished_files : (s : CheckSetting) (last : Option (List ℕ)) (r : Result Finding RunFault) (old new : Option (List ℕ)) (status : ℕ) (log log' : Option FileLog)
    → FinishesCheck r old new status → HoldsSince log log' (ReadsCheckFiles s last (result_status r)) → HoldsSince log log' (ReadsCheckFiles s last status)
finished_files s last r old new status log log' f since =
    since_map log log' (ReadsCheckFiles s last (result_status r)) (ReadsCheckFiles s last status) since
    (finished_reads s last (result_status r) status (ends_with_result r old new status f))

-- ---- counts and faults

pub rose_later : (before mid after : ℕ) → before ≤ mid → Rose mid after → Rose before after
rose_later before mid after first rose = omega (arith, first, rose)

pub rose_from : (before mid after : ℕ) → mid ≡ before → Rose mid after → Rose before after
rose_from before mid after same rose = rw same at rose

-- neither a replay nor a trace that can't be read refuses a configuration
pub no_config : (r : Result Finding RunFault) (line code : ℕ) → IfErr r (λ fault. IsReplayFault fault ⊎ (fault ≡ run.Files))
    → r ≡ Err (run.ConfigRefused line code) → ⊥
no_config (Ok finding) line code kind is = cc
no_config (Err (run.ConfigRefused _ _)) line code (inl replay) is = replay
no_config (Err (run.ConfigRefused _ _)) line code (inr files) is = cc
no_config (Err (run.RecordRefused _ _)) line code kind is = cc
no_config (Err run.Files) line code kind is = cc
no_config (Err run.Source) line code kind is = cc
no_config (Err run.Sink) line code kind is = cc
no_config (Err run.TooLarge) line code kind is = cc
no_config (Err run.NoMemory) line code kind is = cc

abbrev err_of : RunFault → Result Finding RunFault
err_of fault = Err fault

-- which fault of loading it was
pub load_failed : (fault : LoadFault) → err_of (load_fault fault) ≡ Err run.Files → fault ≡ load.Failed
load_failed (load.Refused line code) is = cc
load_failed load.Failed is = refl
load_failed load.TooLarge is = cc
load_failed load.NoMemory is = cc

pub load_large : (fault : LoadFault) → err_of (load_fault fault) ≡ Err run.TooLarge → fault ≡ load.TooLarge
load_large (load.Refused line code) is = cc
load_large load.Failed is = cc
load_large load.TooLarge is = refl
load_large load.NoMemory is = cc

-- it is none of the source, nor of the sink
pub load_source : (fault : LoadFault) → err_of (load_fault fault) ≡ Err run.Source → ⊥
load_source (load.Refused line code) is = cc
load_source load.Failed is = cc
load_source load.TooLarge is = cc
load_source load.NoMemory is = cc

pub load_sink : (fault : LoadFault) → err_of (load_fault fault) ≡ Err run.Sink → ⊥
load_sink (load.Refused line code) is = cc
load_sink load.Failed is = cc
load_sink load.TooLarge is = cc
load_sink load.NoMemory is = cc

-- a refusal that ended a check is that of `trace`
ends_as : (s : CheckSetting) (fault : RunFault) → FindsCheck s (Err fault) → EndsAs (trace_setting s) (fault_end fault)
ends_as s (run.ConfigRefused line code) f = record { outcome = f.traced; of_setting = f.of_run; is = f.found }
ends_as s (run.RecordRefused offset code) f = record { outcome = f.traced; of_setting = f.of_run; is = f.found }
ends_as s run.Files f = tt
ends_as s run.Source f = tt
ends_as s run.Sink f = tt
ends_as s run.TooLarge f = tt
ends_as s run.NoMemory f = tt

pub told_ends : (s : CheckSetting) (result : Result Finding RunFault) (told : Option RunFault) → IfSome told (λ fault. result ≡ Err fault) → FindsCheck s result
    → IfSome told (λ fault. EndsAs (trace_setting s) (fault_end fault))
told_ends s result None is f = tt
told_ends s result (Some fault) is f = ends_as s fault (subst (λ (r : Result Finding RunFault). FindsCheck s r) is f)
