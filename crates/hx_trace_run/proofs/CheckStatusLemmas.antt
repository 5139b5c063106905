-- Laws of the status with which a check ends.
use Rattle.std.proofs.Common.{◌≡◌, ◌≢◌, ℕ, zero, suc, ◌<◌, ◌≤◌, ◌⊎◌, Bool, true, false, List, [], ◌∷◌, ◌++◌, Contains, IfSome, IsOk, IsSomeAnd, OnOk, Option, None, Some, Result, Ok, Err, cond, inl, inr, arith, refl, sym, ◌∙◌, ap, subst, append-nil}
use Rattle.std.proofs.KnownBytes.{Appends-trans}
use Rattle.std.proofs.lemmas.Bool.{false≢true}
use Rattle.std.proofs.lemmas.Slice.Eq.{bytes_eq-Decides}
use Rattle.std.specs.Io.KnownBytes.{Appends}
use Rattle.std.specs.Str.{bytes_eq}
use Rattle.hx_outside.specs.Count.{Rose}
use Rattle.hx_outside.specs.Prefixes.{AppendsPrefix}
use Rattle.hx_replay.specs.Outcome.{Outcome}
use Rattle.hx_run.specs.Outcome.{Completed, End}
use Rattle.hx_run.specs.Run.{HasOutcome, Replayed}
use Rattle.hx_run.specs.RunFault.{fault_status}
use Rattle.hx_run.specs.declared.command.Detail.TheVariants.{Reasons}
use Rattle.hx_run.specs.declared.run_fault.RunFault.{RunFault}
use Rattle.hx_run.specs.declared.run_fault.RunFault.TheVariants as run
use Rattle.hx_run.proofs.StatusLemmas.{headline}
use Rattle.hx_trace_run.specs.CheckView.{FindsCheck, FinishesCheck, IsFound, result_status, result_text}
use Rattle.hx_trace_run.specs.Checking.{CheckSetting, Checks, ComparesTrace, HasCheckStatus, IsTrace, check_outcome, finding_outcome, outcome_by, trace_setting}
use Rattle.hx_trace_run.specs.Comparing.{finding_of, finding_status, finding_text, line_of_difference}
use Rattle.hx_trace_run.specs.declared.agreement.Finding.{Finding}
use Rattle.hx_trace_run.specs.declared.agreement.Finding.TheVariants.{Same, Differs}

-- ---- statuses

late_large : (status : ℕ) → Contains (6 ∷ 7 ∷ []) status → (6 ≤ status) × (status < 8)
late_large status (zero, within, is) = (omega (arith, is), omega (arith, is))
late_large status (suc zero, within, is) = (omega (arith, is), omega (arith, is))
late_large status (suc (suc k), within, is) = absurd (omega (arith, within))

-- these are none of 5 to 8
exact : (status : ℕ) → Contains (0 ∷ 3 ∷ 4 ∷ 9 ∷ []) status → 5 ≤ status → status < 9 → ⊥
exact status (zero, within, is) large small = omega (arith, is, large)
exact status (suc zero, within, is) large small = omega (arith, is, large)
exact status (suc (suc zero), within, is) large small = omega (arith, is, large)
exact status (suc (suc (suc zero)), within, is) large small = omega (arith, is, small)
exact status (suc (suc (suc (suc k))), within, is) large small = omega (arith, within)

-- ---- what is written

-- an outcome has the line and the status of a result
abbrev HasResult : Outcome ℕ → Result Finding RunFault → Type 0
HasResult outcome result = outcome ≡ record { answers = result_text result; end = Some (result_status result) }

-- the line and status of a finding, a refusal; of any other fault no line is written, and the
-- status is one of a failure
abbrev IsKnown : Outcome ℕ → Result Finding RunFault → Type 0
IsKnown outcome result = HasResult outcome result ⊎ ((result_text result ≡ []) × (5 ≤ result_status result) × (result_status result < 9))

compared_is : (trace : Option (List ℕ)) (text : List ℕ) (finding : Finding) → IsSomeAnd trace (λ bytes. finding ≡ finding_of bytes text)
    → finding_outcome trace text ≡ record { answers = finding_text finding; end = Some (finding_status finding) }
compared_is None text finding is = absurd is
compared_is (Some bytes) text finding is = rw is refl

known : (trace : Option (List ℕ)) (traced : Outcome End) (result : Result Finding RunFault) → IsFound trace traced result → IsKnown (check_outcome trace traced) result
known trace traced (Ok finding) (end, is) =
    inl (ap (λ (e : Option End). outcome_by trace traced.answers e) end ∙ compared_is trace traced.answers finding is)
known trace traced (Err (run.ConfigRefused line code)) end = inl (ap (λ (e : Option End). outcome_by trace traced.answers e) end)
known trace traced (Err (run.RecordRefused offset code)) end = inl (ap (λ (e : Option End). outcome_by trace traced.answers e) end)
known trace traced (Err run.Files) end = inr (refl, omega arith, omega arith)
known trace traced (Err run.Source) end = inr (refl, omega arith, omega arith)
known trace traced (Err run.Sink) end = inr (refl, omega arith, omega arith)
known trace traced (Err run.TooLarge) end = inr (refl, omega arith, omega arith)
known trace traced (Err run.NoMemory) end = inr (refl, omega arith, omega arith)

nil_of_append : (prefix rest : List ℕ) → prefix ++ rest ≡ [] → prefix ≡ []
nil_of_append [] rest is = refl
nil_of_append (b ∷ prefix) rest is = cc

-- a text that follows nothing
pub after_nothing : (old mid new : Option (List ℕ)) (text : List ℕ) → Appends old mid [] → Appends mid new text → Appends old new text
after_nothing old mid new text nothing appended = Appends-trans old mid new [] text nothing appended

-- the whole line was written, of a result that is known
whole_known : (s : CheckSetting) (old mid new : Option (List ℕ)) (result : Result Finding RunFault) (status : ℕ) (f : FindsCheck s result) → Appends old mid []
    → status ≡ result_status result → Appends mid new (result_text result) → HasResult (check_outcome f.trace f.traced) result → Checks s old new status
whole_known s old mid new result status f nothing same line is =
    let appended = after_nothing old mid new (result_text result) nothing line in
    record {
      outcome = check_outcome f.trace f.traced;
      of_setting = record { trace = f.trace; of_files = f.of_files; traced = f.traced; of_run = f.of_run; is = refl };
      written = record {
        prefix = result_text result;
        rest = [];
        whole = ap (λ (o : Outcome ℕ). o.answers) is ∙ sym (append-nil (result_text result));
        appended = appended;
      };
      whole = λ _. (
        ap (λ (o : Outcome ℕ). o.end) is ∙ ap (λ (n : ℕ). Some n) (sym same),
        subst (λ (text : List ℕ). Appends old new text) (sym (ap (λ (o : Outcome ℕ). o.answers) is)) appended,
      );
    }

-- a prefix of it
part_known : (s : CheckSetting) (old mid new : Option (List ℕ)) (result : Result Finding RunFault) (status : ℕ) (f : FindsCheck s result) → Appends old mid []
    → 5 ≤ status → status < 9 → AppendsPrefix mid new (result_text result) → HasResult (check_outcome f.trace f.traced) result → Checks s old new status
part_known s old mid new result status f nothing large small part is = record {
  outcome = check_outcome f.trace f.traced;
  of_setting = record { trace = f.trace; of_files = f.of_files; traced = f.traced; of_run = f.of_run; is = refl };
  written = record {
    prefix = part.prefix;
    rest = part.rest;
    whole = ap (λ (o : Outcome ℕ). o.answers) is ∙ part.whole;
    appended = after_nothing old mid new part.prefix nothing part.appended;
  };
  whole = λ contained. absurd (exact status contained large small);
}

-- nothing was written
none_known : (s : CheckSetting) (old mid new : Option (List ℕ)) (result : Result Finding RunFault) (status : ℕ) (f : FindsCheck s result) → Appends old mid []
    → 5 ≤ status → status < 9 → Appends mid new [] → Checks s old new status
none_known s old mid new result status f nothing large small none = record {
  outcome = check_outcome f.trace f.traced;
  of_setting = record { trace = f.trace; of_files = f.of_files; traced = f.traced; of_run = f.of_run; is = refl };
  written = record {
    prefix = [];
    rest = (check_outcome f.trace f.traced).answers;
    whole = refl;
    appended = after_nothing old mid new [] nothing none;
  };
  whole = λ contained. absurd (exact status contained large small);
}

none_of_part : (mid new : Option (List ℕ)) (text : List ℕ) → text ≡ [] → AppendsPrefix mid new text → Appends mid new []
none_of_part mid new text none part =
    subst (λ (prefix : List ℕ). Appends mid new prefix) (nil_of_append part.prefix part.rest (sym part.whole ∙ none)) part.appended

checks_by : (s : CheckSetting) (old mid new : Option (List ℕ)) (result : Result Finding RunFault) (status : ℕ) (f : FindsCheck s result) → Appends old mid []
    → FinishesCheck result mid new status → IsKnown (check_outcome f.trace f.traced) result → Checks s old new status
checks_by s old mid new result status f nothing (inl (same, line)) (inl is) = whole_known s old mid new result status f nothing same line is
checks_by s old mid new result status f nothing (inr (late, part)) (inl is) =
    let (large, small) = late_large status late in part_known s old mid new result status f nothing (omega (arith, large)) (omega (arith, small)) part is
checks_by s old mid new result status f nothing (inl (same, line)) (inr (none, large, small)) =
    none_known s old mid new result status f nothing (omega (arith, large, same)) (omega (arith, small, same))
    (subst (λ (text : List ℕ). Appends mid new text) none line)
checks_by s old mid new result status f nothing (inr (late, part)) (inr (none, _, _)) =
    let (large, small) = late_large status late in
    none_known s old mid new result status f nothing (omega (arith, large)) (omega (arith, small)) (none_of_part mid new (result_text result) none part)

pub checks : (s : CheckSetting) (old mid new : Option (List ℕ)) (result : Result Finding RunFault) (status : ℕ) → FindsCheck s result → Appends old mid []
    → FinishesCheck result mid new status → Checks s old new status
checks s old mid new result status f nothing finished =
    checks_by s old mid new result status f nothing finished (known f.trace f.traced result f.found)

-- ---- the headline

-- which test says that a trace is the text
same_by : (trace text : List ℕ) (line : ℕ) (test : Bool) → bytes_eq trace text ≡ test → finding_status (cond test Same (Differs line)) ≡ 0 → trace ≡ text
same_by trace text line true is status = (bytes_eq-Decides trace text).0 is
same_by trace text line false is status = absurd (omega (arith, status))

other_by : (trace text : List ℕ) (line : ℕ) (test : Bool) → bytes_eq trace text ≡ test → finding_status (cond test Same (Differs line)) ≡ 9 → trace ≢ text
other_by trace text line true is status = absurd (omega (arith, status))
other_by trace text line false is status = λ same. false≢true (sym is ∙ (bytes_eq-Decides trace text).1 same)

-- `trace` came to the record's end
replayed : (s : CheckSetting) (traced : Outcome End) → HasOutcome (trace_setting s) traced → traced.end ≡ Some Completed
    → Replayed Reasons (trace_setting s) (Some []) (Some traced.answers)
replayed s traced of_run end =
    headline Reasons (trace_setting s) (Some []) (Some traced.answers) refl
    (record { outcome = traced; is_such = of_run; wrote = traced.answers; appended = refl; answers = (end, sym (append-nil traced.answers)) })

compares_by : (s : CheckSetting) (old new : Option (List ℕ)) (finding : Finding) (status : ℕ) (traced : Outcome End) → HasOutcome (trace_setting s) traced
    → (trace : Option (List ℕ)) → IsTrace s trace → traced.end ≡ Some Completed → IsSomeAnd trace (λ bytes. finding ≡ finding_of bytes traced.answers)
    → status ≡ finding_status finding → Appends old new (finding_text finding) → ComparesTrace s old new status
compares_by s old new finding status traced of_run None of_files end is same line = absurd is
compares_by s old new finding status traced of_run (Some bytes) of_files end is same line =
    let status_is : status ≡ finding_status (finding_of bytes traced.answers) = same ∙ ap (λ (found : Finding). finding_status found) is in
    record {
      text = traced.answers;
      replayed = replayed s traced of_run end;
      trace = bytes;
      of_files = of_files;
      same = λ zero. same_by bytes traced.answers (line_of_difference bytes traced.answers) (bytes_eq bytes traced.answers) refl (sym status_is ∙ zero);
      other = λ nine. other_by bytes traced.answers (line_of_difference bytes traced.answers) (bytes_eq bytes traced.answers) refl (sym status_is ∙ nine);
      written = subst (λ (found : Finding). Appends old new (finding_text found)) is line;
    }

-- the status of a finding or a fault
fault_between : (fault : RunFault) → (3 ≤ fault_status fault) × (fault_status fault < 9)
fault_between (run.ConfigRefused line code) = (omega arith, omega arith)
fault_between (run.RecordRefused offset code) = (omega arith, omega arith)
fault_between run.Files = (omega arith, omega arith)
fault_between run.Source = (omega arith, omega arith)
fault_between run.Sink = (omega arith, omega arith)
fault_between run.TooLarge = (omega arith, omega arith)
fault_between run.NoMemory = (omega arith, omega arith)

none_between : (status : ℕ) → Contains (0 ∷ 9 ∷ []) status → 3 ≤ status → status < 9 → ⊥
none_between status (zero, within, is) large small = omega (arith, is, large)
none_between status (suc zero, within, is) large small = omega (arith, is, small)
none_between status (suc (suc k), within, is) large small = omega (arith, within)

pub compares : (s : CheckSetting) (old mid new : Option (List ℕ)) (result : Result Finding RunFault) (status : ℕ) → FindsCheck s result → Appends old mid []
    → FinishesCheck result mid new status → Contains (0 ∷ 9 ∷ []) status → ComparesTrace s old new status
compares s old mid new (Ok finding) status f nothing (inl (same, line)) contained =
    compares_by s old new finding status f.traced f.of_run f.trace f.of_files f.found.0 f.found.1 same (after_nothing old mid new (finding_text finding) nothing line)
compares s old mid new (Err fault) status f nothing (inl (same, line)) contained =
    let (large, small) = fault_between fault in absurd (none_between status contained (omega (arith, same, large)) (omega (arith, same, small)))
compares s old mid new result status f nothing (inr (late, part)) contained =
    let (large, small) = late_large status late in absurd (none_between status contained (omega (arith, large)) (omega (arith, small)))

-- such a status has a check that came to the record's end
pub completed : (P : Type 0) (old new : Option (List ℕ)) (result : Result Finding RunFault) (status : ℕ) → FinishesCheck result old new status
    → Contains (0 ∷ 9 ∷ []) status → OnOk result P → P
completed P old new (Ok finding) status f contained there = there
completed P old new (Err fault) status (inl (same, line)) contained there =
    let (large, small) = fault_between fault in absurd (none_between status contained (omega (arith, same, large)) (omega (arith, same, small)))
completed P old new (Err fault) status (inr (late, part)) contained there =
    let (large, small) = late_large status late in absurd (none_between status contained (omega (arith, large)) (omega (arith, small)))

-- ---- which status it is

finding_statuses : (finding : Finding) → Contains (0 ∷ 3 ∷ 4 ∷ 5 ∷ 6 ∷ 7 ∷ 8 ∷ 9 ∷ []) (finding_status finding)
finding_statuses Same = (0, omega arith, refl)
finding_statuses (Differs line) = (7, omega arith, refl)

fault_statuses : (fault : RunFault) → Contains (0 ∷ 3 ∷ 4 ∷ 5 ∷ 6 ∷ 7 ∷ 8 ∷ 9 ∷ []) (fault_status fault)
fault_statuses (run.ConfigRefused line code) = (1, omega arith, refl)
fault_statuses (run.RecordRefused offset code) = (2, omega arith, refl)
fault_statuses run.Files = (3, omega arith, refl)
fault_statuses run.Source = (3, omega arith, refl)
fault_statuses run.Sink = (4, omega arith, refl)
fault_statuses run.TooLarge = (6, omega arith, refl)
fault_statuses run.NoMemory = (5, omega arith, refl)

pub finished_status : (result : Result Finding RunFault) (old new : Option (List ℕ)) (status : ℕ) → FinishesCheck result old new status
    → Contains (0 ∷ 3 ∷ 4 ∷ 5 ∷ 6 ∷ 7 ∷ 8 ∷ 9 ∷ []) status
finished_status (Ok finding) old new status (inl (same, line)) = rw same (finding_statuses finding)
finished_status (Err fault) old new status (inl (same, line)) = rw same (fault_statuses fault)
finished_status result old new status (inr ((zero, within, is), part)) = (4, omega arith, is)
finished_status result old new status (inr ((suc zero, within, is), part)) = (5, omega arith, is)
finished_status result old new status (inr ((suc (suc k), within, is), part)) = absurd (omega (arith, within))

no_finding : (finding : Finding) (status : ℕ) → status ≡ finding_status finding → 3 ≤ status → status < 9 → ⊥
no_finding Same status same large small = omega (arith, same, large)
no_finding (Differs line) status same large small = omega (arith, same, small)

pub config_refused : (result : Result Finding RunFault) (old new : Option (List ℕ)) (status : ℕ) → FinishesCheck result old new status → status ≡ 3
    → (line : ℕ) × (code : ℕ) × (result ≡ Err (run.ConfigRefused line code))
config_refused (Ok finding) old new status (inl (same, line)) three = absurd (no_finding finding status same (omega (arith, three)) (omega (arith, three)))
config_refused (Err (run.ConfigRefused line code)) old new status (inl (same, _)) three = (line, code, refl)
config_refused (Err (run.RecordRefused offset code)) old new status (inl (same, _)) three = absurd (omega (arith, same, three))
config_refused (Err run.Files) old new status (inl (same, _)) three = absurd (omega (arith, same, three))
config_refused (Err run.Source) old new status (inl (same, _)) three = absurd (omega (arith, same, three))
config_refused (Err run.Sink) old new status (inl (same, _)) three = absurd (omega (arith, same, three))
config_refused (Err run.TooLarge) old new status (inl (same, _)) three = absurd (omega (arith, same, three))
config_refused (Err run.NoMemory) old new status (inl (same, _)) three = absurd (omega (arith, same, three))
config_refused result old new status (inr (late, part)) three = let (large, small) = late_large status late in absurd (omega (arith, large, three))

-- files or the source failed, and no line was written
pub outside : (result : Result Finding RunFault) (old new : Option (List ℕ)) (status : ℕ) → FinishesCheck result old new status → status ≡ 5
    → ((result ≡ Err run.Files) ⊎ (result ≡ Err run.Source)) × Appends old new []
outside (Ok finding) old new status (inl (same, line)) five = absurd (no_finding finding status same (omega (arith, five)) (omega (arith, five)))
outside (Err (run.ConfigRefused line code)) old new status (inl (same, _)) five = absurd (omega (arith, same, five))
outside (Err (run.RecordRefused offset code)) old new status (inl (same, _)) five = absurd (omega (arith, same, five))
outside (Err run.Files) old new status (inl (same, line)) five = (inl refl, line)
outside (Err run.Source) old new status (inl (same, line)) five = (inr refl, line)
outside (Err run.Sink) old new status (inl (same, _)) five = absurd (omega (arith, same, five))
outside (Err run.TooLarge) old new status (inl (same, _)) five = absurd (omega (arith, same, five))
outside (Err run.NoMemory) old new status (inl (same, _)) five = absurd (omega (arith, same, five))
outside result old new status (inr (late, part)) five = let (large, small) = late_large status late in absurd (omega (arith, large, five))

-- a regular expression was too large, and no line was written
pub too_large : (result : Result Finding RunFault) (old new : Option (List ℕ)) (status : ℕ) → FinishesCheck result old new status → status ≡ 8
    → (result ≡ Err run.TooLarge) × Appends old new []
too_large (Ok finding) old new status (inl (same, line)) eight = absurd (no_finding finding status same (omega (arith, eight)) (omega (arith, eight)))
too_large (Err (run.ConfigRefused line code)) old new status (inl (same, _)) eight = absurd (omega (arith, same, eight))
too_large (Err (run.RecordRefused offset code)) old new status (inl (same, _)) eight = absurd (omega (arith, same, eight))
too_large (Err run.Files) old new status (inl (same, _)) eight = absurd (omega (arith, same, eight))
too_large (Err run.Source) old new status (inl (same, _)) eight = absurd (omega (arith, same, eight))
too_large (Err run.Sink) old new status (inl (same, _)) eight = absurd (omega (arith, same, eight))
too_large (Err run.TooLarge) old new status (inl (same, line)) eight = (refl, line)
too_large (Err run.NoMemory) old new status (inl (same, _)) eight = absurd (omega (arith, same, eight))
too_large result old new status (inr (late, part)) eight = let (large, small) = late_large status late in absurd (omega (arith, small, eight))

-- the sink failed, before the line or at it
pub sink_rose : (result : Result Finding RunFault) (before mid after : ℕ) → (result ≡ Err run.Sink → Rose before mid)
    → (result ≢ Err run.Sink → Rose mid after) → before ≤ mid → mid ≤ after → Rose before after
sink_rose (Ok finding) before mid after failed last first second = omega (arith, last (λ is. cc), first)
sink_rose (Err (run.ConfigRefused line code)) before mid after failed last first second = omega (arith, last (λ is. cc), first)
sink_rose (Err (run.RecordRefused offset code)) before mid after failed last first second = omega (arith, last (λ is. cc), first)
sink_rose (Err run.Files) before mid after failed last first second = omega (arith, last (λ is. cc), first)
sink_rose (Err run.Source) before mid after failed last first second = omega (arith, last (λ is. cc), first)
sink_rose (Err run.Sink) before mid after failed last first second = omega (arith, failed refl, second)
sink_rose (Err run.TooLarge) before mid after failed last first second = omega (arith, last (λ is. cc), first)
sink_rose (Err run.NoMemory) before mid after failed last first second = omega (arith, last (λ is. cc), first)

has_status : (s : CheckSetting) (old new : Option (List ℕ)) (status : ℕ) → Checks s old new status → Contains (0 ∷ 3 ∷ 4 ∷ 9 ∷ []) status → HasCheckStatus s status
has_status s old new status k contained = record { outcome = k.outcome; of_setting = k.of_setting; is = (k.whole contained).0 }

-- where the status is none of a failure, it is the outcome's, or memory ran out
pub complete : (s : CheckSetting) (old new : Option (List ℕ)) (status : ℕ) → Contains (0 ∷ 3 ∷ 4 ∷ 5 ∷ 6 ∷ 7 ∷ 8 ∷ 9 ∷ []) status
    → status ≢ 5 → status ≢ 6 → status ≢ 8 → Checks s old new status → (status ≡ 7) ⊎ HasCheckStatus s status
complete s old new status (zero, within, is) no_five no_six no_eight k = inr (has_status s old new status k (0, omega arith, is))
complete s old new status (suc zero, within, is) no_five no_six no_eight k = inr (has_status s old new status k (1, omega arith, is))
complete s old new status (suc (suc zero), within, is) no_five no_six no_eight k = inr (has_status s old new status k (2, omega arith, is))
complete s old new status (suc (suc (suc zero)), within, is) no_five no_six no_eight k = absurd (no_five (sym is))
complete s old new status (suc (suc (suc (suc zero))), within, is) no_five no_six no_eight k = absurd (no_six (sym is))
complete s old new status (suc (suc (suc (suc (suc zero)))), within, is) no_five no_six no_eight k = inl (sym is)
complete s old new status (suc (suc (suc (suc (suc (suc zero))))), within, is) no_five no_six no_eight k = absurd (no_eight (sym is))
complete s old new status (suc (suc (suc (suc (suc (suc (suc zero)))))), within, is) no_five no_six no_eight k = inr (has_status s old new status k (3, omega arith, is))
complete s old new status (suc (suc (suc (suc (suc (suc (suc (suc k))))))), within, is) no_five no_six no_eight _ = absurd (omega (arith, within))

-- ---- the fault that is told

pub of_fault : (result : Result Finding RunFault) (told : Option RunFault) (old new : Option (List ℕ)) (status : ℕ) → IfSome told (λ fault. result ≡ Err fault)
    → FinishesCheck result old new status → IfSome told (λ fault. (status ≡ fault_status fault) ⊎ Contains (6 ∷ 7 ∷ []) status)
of_fault result None old new status is f = tt
of_fault result (Some fault) old new status is (inl (same, line)) = inl (same ∙ ap (λ (r : Result Finding RunFault). result_status r) is)
of_fault result (Some fault) old new status is (inr (late, part)) = inr late

pub without_fault : (result : Result Finding RunFault) (old new : Option (List ℕ)) (status : ℕ) → IsOk result → FinishesCheck result old new status
    → Contains (0 ∷ 6 ∷ 7 ∷ 9 ∷ []) status
without_fault (Ok Same) old new status ok (inl (same, line)) = (0, omega arith, sym same)
without_fault (Ok (Differs n)) old new status ok (inl (same, line)) = (3, omega arith, sym same)
without_fault (Err fault) old new status ok (inl (same, line)) = absurd (false≢true ok)
without_fault result old new status ok (inr ((zero, within, is), part)) = (1, omega arith, is)
without_fault result old new status ok (inr ((suc zero, within, is), part)) = (2, omega arith, is)
without_fault result old new status ok (inr ((suc (suc k), within, is), part)) = absurd (omega (arith, within))
