-- What a check of a trace comes to, by what `trace` writes.
use Rattle.std.specs.Prelude.{◌≡◌, ◌≢◌, ◌⊎◌, ⊤, ℕ, List, [], ◌∷◌, Contains, IfSome, Option, None, Some}
use Rattle.std.specs.Io.KnownBytes.{Appends, Consumes}
use Rattle.std.specs.declared.alloc.Global.{Global}
use Rattle.std.specs.declared.vec.Vec.{Vec}
use Rattle.hx_base.specs.Pairs.{NamedBytes, pairs_of, value_at}
use Rattle.hx_outside.specs.Prefixes.{AppendsPrefix}
use Rattle.hx_words.specs.Variable.{Env}
use Rattle.hx_replay.specs.Outcome.{Outcome, ends_with}
use Rattle.hx_replay.specs.Program.{Program, initial_world}
use Rattle.hx_replay.specs.Records.{record_line}
use Rattle.hx_replay.specs.Replay.{decided_outcome}
use Rattle.hx_run.specs.Outcome.{Completed, ConfigRefused, End, RecordRefused, config_line}
use Rattle.hx_run.specs.Run.{AcceptsSome, HasOutcome, Replayed, RunReads, Setting, behavior_of}
use Rattle.hx_run.specs.declared.command.Detail.TheVariants.{Reasons}
use Rattle.hx_run.specs.declared.command.Task.TheVariants.{Replay}
use Rattle.hx_trace_run.specs.Comparing.{finding_of, finding_status, finding_text}

-- What a check is given: the environment, what the files hold, the names of the configuration and
-- of the trace, and what the source has left. Of files and source that is what is known.
pub record CheckSetting : Type 0 where
  pub env : Env
  pub held : Option NamedBytes
  pub config_name : List ℕ
  pub trace_name : List ℕ
  pub left : Option (List ℕ)

abbrev pub check_setting : List (Vec ℕ Global × Vec ℕ Global) → Option NamedBytes
    → (config_name trace_name : List ℕ) → Option (List ℕ) → CheckSetting
check_setting env held config_name trace_name left = record {
  env = pairs_of env;
  held = held;
  config_name = config_name;
  trace_name = trace_name;
  left = left;
}

-- what `trace` is given, whose text the trace should be: the same configuration and record
abbrev pub trace_setting : CheckSetting → Setting
trace_setting s = record {
  env = s.env;
  held = s.held;
  task = Replay Reasons;
  name = s.config_name;
  left = s.left;
}

-- these bytes are what the files hold under a name, where that is known
abbrev pub IsFile : Option NamedBytes → (name : List ℕ) → Option (List ℕ) → Type 0
IsFile held name bytes = IfSome held (λ files. bytes ≡ value_at files name)

-- the same of the trace
abbrev pub IsTrace : CheckSetting → Option (List ℕ) → Type 0
IsTrace s trace = IsFile s.held s.trace_name trace

-- ---- outcomes

-- what is written of a trace beside the text that it should be, and the status; of no trace nothing
abbrev pub finding_outcome : (trace : Option (List ℕ)) → (text : List ℕ) → Outcome ℕ
finding_outcome None text = ends_with None
finding_outcome (Some trace) text = record {
  answers = finding_text (finding_of trace text);
  end = Some (finding_status (finding_of trace text));
}

-- the same where `trace` would write this text and end so: a refusal is told alone
abbrev pub outcome_by : (trace : Option (List ℕ)) → (text : List ℕ) → Option End → Outcome ℕ
outcome_by trace text (Some Completed) = finding_outcome trace text
outcome_by trace text (Some (ConfigRefused line code)) =
    record { answers = config_line line code; end = Some 3 }
outcome_by trace text (Some (RecordRefused offset code)) =
    record { answers = record_line offset code; end = Some 4 }
outcome_by trace text None = ends_with None

abbrev pub check_outcome : (trace : Option (List ℕ)) → Outcome End → Outcome ℕ
check_outcome trace outcome = outcome_by trace outcome.answers outcome.end

-- this is what a check writes and with which status it ends, as far as files and source are known
pub record HasCheck (s : CheckSetting) (outcome : Outcome ℕ) : Type 0 where
  pub trace : Option (List ℕ)
  pub of_files : IsTrace s trace
  pub traced : Outcome End
  pub of_run : HasOutcome (trace_setting s) traced
  pub is : outcome ≡ check_outcome trace traced

-- What a check does: it writes a prefix of what its outcome has. Where its status is 0, 3, 4 or 9
-- it writes the whole, and the status is the outcome's.
pub record Checks (s : CheckSetting) (old new : Option (List ℕ)) (status : ℕ) : Type 0 where
  pub outcome : Outcome ℕ
  pub of_setting : HasCheck s outcome
  pub written : AppendsPrefix old new outcome.answers
  pub whole : Contains (0 ∷ 3 ∷ 4 ∷ 9 ∷ []) status
      → (outcome.end ≡ Some status) × Appends old new outcome.answers

-- the status is that of the outcome of what the files hold and the source has left
pub record HasCheckStatus (s : CheckSetting) (status : ℕ) : Type 0 where
  pub outcome : Outcome ℕ
  pub of_setting : HasCheck s outcome
  pub is : outcome.end ≡ Some status

-- The headline. `trace` comes to the record's end, and writes this text. At status 0 the trace is
-- exactly that text, and at 9 it isn't; and what is found was written.
pub record ComparesTrace (s : CheckSetting) (old new : Option (List ℕ)) (status : ℕ) : Type 0 where
  pub text : List ℕ
  pub replayed : Replayed Reasons (trace_setting s) (Some []) (Some text)
  pub trace : List ℕ
  pub of_files : IsTrace s (Some trace)
  pub same : status ≡ 0 → trace ≡ text
  pub other : status ≡ 9 → trace ≢ text
  pub written : Appends old new (finding_text (finding_of trace text))

-- ---- what ends a check early

-- the files that a check reads: those of the configuration, and where it is accepted the trace
abbrev pub CheckReads : CheckSetting → List ℕ → Type 0
CheckReads s name = RunReads (trace_setting s) name
    ⊎ ((name ≡ s.trace_name) × AcceptsSome (trace_setting s) (λ program. ⊤))

-- the bytes that were taken from the source refuse no record, whatever would have followed them
pub record TakesUnrefused (program : Program) (left left' : Option (List ℕ)) : Type 0 where
  pub took : List ℕ
  pub consumed : Consumes left left' took
  pub going_on : (decided_outcome (behavior_of Reasons) (initial_world program) took).end ≡ None

-- the source failed: the files hold a configuration that is accepted, and the bytes taken from the
-- source refuse no record
abbrev pub CheckSourceFails : CheckSetting → (left' : Option (List ℕ)) → Type 0
CheckSourceFails s left' =
    AcceptsSome (trace_setting s) (λ program. TakesUnrefused program s.left left')
