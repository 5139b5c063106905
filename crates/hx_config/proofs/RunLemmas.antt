-- Laws of a run: what it has written at each of its ends.
use Rattle.std.proofs.Common.{◌≡◌, ◌≢◌, ℕ, zero, suc, ◌≤◌, ◌⊎◌, Bool, true, false, List, [], ◌∷◌, Contains, IfSome, Option, None, Some, inl, inr, arith, refl, sym, ◌∙◌, ap, subst, append-nil}
use Rattle.std.specs.Io.KnownBytes.{Appends}
use Rattle.std.proofs.KnownBytes.{Appends-nil}
use Rattle.std.proofs.lemmas.Option.{none-some}
use Rattle.hx_base.specs.Pairs.{NamedBytes, value_at}
use Rattle.hx_outside.specs.Log.{FileLog, HoldsSince, Logs}
use Rattle.hx_outside.specs.Prefixes.{AppendsPrefix}
use Rattle.hx_outside.specs.declared.FileFault.{FileFault}
use Rattle.hx_outside.specs.declared.FileFault.TheVariants as file
use Rattle.hx_outside.specs.declared.SinkFault.{SinkFault}
use Rattle.hx_outside.specs.declared.SinkFault.TheVariants as sink
use Rattle.hx_config.specs.Headline.{Headline, Tells}
use Rattle.hx_config.specs.Run.{Setting, Outcome, Written, NoFrontend, HasContent, HasOutcome, HasStatus, Ran, outcome_of, status_of, text_of, notes_of, written_status}
use Rattle.hx_config.proofs.HeadlineLemmas.{is_written, tells_by}
use Rattle.hx_config.specs.RunFault.{fault_of_file, fault_status, outcome_view, sink_fault}
use Rattle.hx_config.specs.declared.configuration.Written.{Written as CodeWritten}
use Rattle.hx_config.specs.declared.run_fault.RunFault.{RunFault}
use Rattle.hx_config.specs.declared.run_fault.RunFault.TheVariants as fault

-- ---- prefixes

pub nothing_appended : (old : Option (List ℕ)) (text : List ℕ) → AppendsPrefix old old text
nothing_appended old text = record { prefix = []; rest = text; whole = refl; appended = Appends-nil old }

pub all_appended : (old new : Option (List ℕ)) (text : List ℕ) → Appends old new text → AppendsPrefix old new text
all_appended old new text appended = record { prefix = text; rest = []; whole = sym (append-nil text); appended = appended }

-- ---- the file

content_in : Option NamedBytes → List ℕ → Option (List ℕ)
content_in None name = None
content_in (Some held) name = value_at held name

content_in_is : (held : Option NamedBytes) (name : List ℕ) → IfSome held (λ files. content_in held name ≡ value_at files name)
unfolding content_in
content_in_is None name = tt
content_in_is (Some held) name = refl

content_known : (held : Option NamedBytes) (name items : List ℕ) → IfSome held (λ files. value_at files name ≡ Some items)
    → IfSome held (λ files. Some items ≡ value_at files name)
content_known None name items known = tt
content_known (Some held) name items known = sym known

pub one_read : (old new : Option FileLog) (name : List ℕ) → Logs old new name → HoldsSince old new (λ names. names ≡ name ∷ [])
one_read None None name is = tt
one_read (Some old) None name is = tt
one_read None (Some new) name is = absurd is
one_read (Some old) (Some new) name is = (name ∷ [], is, refl)

-- ---- faults

small : (status : ℕ) → Contains (0 ∷ 1 ∷ 3 ∷ []) status → status ≤ 3
small status (zero, within, is) = omega (arith, is)
small status (suc zero, within, is) = omega (arith, is)
small status (suc (suc zero), within, is) = omega (arith, is)
small status (suc (suc (suc k)), within, is) = absurd (omega (arith, within))

pub statuses : (f : RunFault) → Contains (0 ∷ 1 ∷ 2 ∷ 3 ∷ 5 ∷ 6 ∷ 7 ∷ []) (fault_status f)
statuses fault.NoFrontend = (3, omega arith, refl)
statuses fault.Files = (4, omega arith, refl)
statuses fault.Sink = (5, omega arith, refl)
statuses fault.NoMemory = (6, omega arith, refl)

pub written_statuses : (amiss : Bool) → Contains (0 ∷ 1 ∷ 2 ∷ 3 ∷ 5 ∷ 6 ∷ 7 ∷ []) (written_status amiss)
written_statuses false = (0, omega arith, refl)
written_statuses true = (1, omega arith, refl)

pub is_files : (f : RunFault) → fault_status f ≡ 5 → f ≡ fault.Files
is_files fault.NoFrontend is = absurd (omega (arith, is))
is_files fault.Files is = refl
is_files fault.Sink is = absurd (omega (arith, is))
is_files fault.NoMemory is = absurd (omega (arith, is))

pub is_sink : (f : RunFault) → fault_status f ≡ 6 → f ≡ fault.Sink
is_sink fault.NoFrontend is = absurd (omega (arith, is))
is_sink fault.Files is = absurd (omega (arith, is))
is_sink fault.Sink is = refl
is_sink fault.NoMemory is = absurd (omega (arith, is))

pub file_failed : (f : FileFault) → fault_of_file f ≡ fault.Files → f ≡ file.Failed
file_failed file.Failed is = refl
file_failed file.NoMemory is = cc

pub sink_failed : (f : SinkFault) → sink_fault f ≡ fault.Sink → f ≡ sink.Failed
sink_failed sink.Failed is = refl
sink_failed sink.NoMemory is = cc

-- ---- the ends of a run

-- a fault of status 5 or more, before which this much was written
failed : (s : Setting) (old new notes notes' : Option (List ℕ)) (outcome : Outcome) (status : ℕ) → HasOutcome s outcome
    → AppendsPrefix old new (text_of outcome) → AppendsPrefix notes notes' (notes_of outcome) → 5 ≤ status → Ran s old new notes notes' status
failed s old new notes notes' outcome status is text noted large = record {
  outcome = outcome;
  of_setting = is;
  text = text;
  notes = noted;
  whole = λ exact. absurd (omega (arith, small status exact, large));
}

unread : (s : Setting) (old notes : Option (List ℕ)) (status : ℕ) → 5 ≤ status → Ran s old old notes notes status
unread s old notes status large =
    let outcome = outcome_of s.env s.request (content_in s.held s.request.file) in
    failed s old old notes notes outcome status
    (record { content = content_in s.held s.request.file; of_file = content_in_is s.held s.request.file; is = refl })
    (nothing_appended old (text_of outcome)) (nothing_appended notes (notes_of outcome)) large

-- the file can't be read
pub file_unread : (s : Setting) (old notes : Option (List ℕ)) (f : FileFault) → Ran s old old notes notes (fault_status (fault_of_file f))
file_unread s old notes file.Failed = unread s old notes 5 (omega arith)
file_unread s old notes file.NoMemory = unread s old notes 7 (omega arith)

-- memory runs out before anything is written
pub no_memory : (s : Setting) (old notes : Option (List ℕ)) → Ran s old old notes notes 7
no_memory s old notes = unread s old notes 7 (omega arith)

-- the outcome of a file that was read, whose bytes were handed on as a slice
pub has_outcome : (s : Setting) (items slice : List ℕ) (found : Option CodeWritten)
    → IfSome s.held (λ files. value_at files s.request.file ≡ Some items) → slice ≡ items
    → outcome_view found ≡ outcome_of s.env s.request (Some slice) → HasOutcome s (outcome_view found)
has_outcome s items slice found known same is = record {
  content = Some items;
  of_file = content_known s.held s.request.file items known;
  is = is ∙ ap (λ (c : List ℕ). outcome_of s.env s.request (Some c)) same;
}

-- the file has no frontend of the name
pub no_frontend : (s : Setting) (old notes : Option (List ℕ)) (found : Option CodeWritten) → HasOutcome s (outcome_view found) → found ≡ None
    → Ran s old old notes notes 3
no_frontend s old notes (Some written) is none = absurd (none-some written (sym none))
no_frontend s old notes None is none = record {
  outcome = NoFrontend;
  of_setting = is;
  text = nothing_appended old [];
  notes = nothing_appended notes [];
  whole = λ _. (refl, Appends-nil old, Appends-nil notes);
}

found_some : (s : Setting) (found : Option CodeWritten) (written : CodeWritten) → HasOutcome s (outcome_view found) → found ≡ Some written
    → HasOutcome s (Written written.text.items written.notes.items written.amiss)
found_some s found written is some = subst (λ (o : Option CodeWritten). HasOutcome s (outcome_view o)) some is

-- all is written
pub done : (s : Setting) (old new notes notes' : Option (List ℕ)) (found : Option CodeWritten) (written : CodeWritten) → HasOutcome s (outcome_view found)
    → found ≡ Some written → Appends old new written.text.items × Appends notes notes' written.notes.items
    → Ran s old new notes notes' (written_status written.amiss)
done s old new notes notes' found written is some (text, noted) = record {
  outcome = Written written.text.items written.notes.items written.amiss;
  of_setting = found_some s found written is some;
  text = all_appended old new written.text.items text;
  notes = all_appended notes notes' written.notes.items noted;
  whole = λ _. (refl, text, noted);
}

-- a sink failed
pub unwritten : (s : Setting) (old new notes notes' : Option (List ℕ)) (found : Option CodeWritten) (written : CodeWritten) (f : SinkFault)
    → HasOutcome s (outcome_view found) → found ≡ Some written
    → AppendsPrefix old new written.text.items → AppendsPrefix notes notes' written.notes.items
    → Ran s old new notes notes' (fault_status (sink_fault f))
unwritten s old new notes notes' found written sink.Failed is some text noted =
    failed s old new notes notes' (Written written.text.items written.notes.items written.amiss) 6 (found_some s found written is some) text noted (omega arith)
unwritten s old new notes notes' found written sink.NoMemory is some text noted =
    failed s old new notes notes' (Written written.text.items written.notes.items written.amiss) 7 (found_some s found written is some) text noted (omega arith)

-- ---- what follows

has_status : (s : Setting) (old new notes notes' : Option (List ℕ)) (status : ℕ) → Ran s old new notes notes' status → Contains (0 ∷ 1 ∷ 3 ∷ []) status
    → HasStatus s status
has_status s old new notes notes' status r exact = record { outcome = r.outcome; of_setting = r.of_setting; is = (r.whole exact).0 }

pub done_status : (s : Setting) (old new notes notes' : Option (List ℕ)) (amiss : Bool) → Ran s old new notes notes' (written_status amiss)
    → HasStatus s (written_status amiss)
done_status s old new notes notes' false r = has_status s old new notes notes' 0 r (0, omega arith, refl)
done_status s old new notes notes' true r = has_status s old new notes notes' 1 r (1, omega arith, refl)

-- where no file and no sink failed, the status is the outcome's, or memory ran out
pub complete : (s : Setting) (old new notes notes' : Option (List ℕ)) (f : RunFault) → Ran s old new notes notes' (fault_status f)
    → f ≢ fault.Files → f ≢ fault.Sink → (fault_status f ≡ 7) ⊎ HasStatus s (fault_status f)
complete s old new notes notes' fault.NoFrontend r no_files no_sink = inr (has_status s old new notes notes' 3 r (2, omega arith, refl))
complete s old new notes notes' fault.Files r no_files no_sink = absurd (no_files refl)
complete s old new notes notes' fault.Sink r no_files no_sink = absurd (no_sink refl)
complete s old new notes notes' fault.NoMemory r no_files no_sink = inl refl

-- an outcome of status 0 is that of a file which is there
headline_of : (s : Setting) (old new notes notes' : Option (List ℕ)) (outcome : Outcome) (content : Option (List ℕ)) → HasContent s content
    → outcome ≡ outcome_of s.env s.request content → status_of outcome ≡ Some 0 → Appends old new (text_of outcome)
    → Appends notes notes' (notes_of outcome) → Headline s old new notes notes'
unfolding outcome_of
headline_of s old new notes notes' outcome None has is status text noted = absurd (none-some 0 (sym (ap status_of is) ∙ status))
headline_of s old new notes notes' outcome (Some content) has is status text noted = record {
  content = content;
  of_file = has;
  is = is_written s.request.question s.env s.request.file content old new notes notes' outcome is status text noted;
}

pub headline : (s : Setting) (old new notes notes' : Option (List ℕ)) (status : ℕ) → Ran s old new notes notes' status → status ≡ 0
    → Headline s old new notes notes'
headline s old new notes notes' status ran is =
    let r : Ran s old new notes notes' 0 = subst (λ k. Ran s old new notes notes' k) is ran in
    let all = r.whole (0, omega arith, refl) in
    headline_of s old new notes notes' r.outcome r.of_setting.content r.of_setting.of_file r.of_setting.is all.0 all.1 all.2

-- an outcome of status 1 is what is told of a file which is there
tells_of : (s : Setting) (old new notes notes' : Option (List ℕ)) (outcome : Outcome) (content : Option (List ℕ)) → HasContent s content
    → outcome ≡ outcome_of s.env s.request content → status_of outcome ≡ Some 1 → Appends old new (text_of outcome)
    → Appends notes notes' (notes_of outcome) → Tells s old new notes notes'
unfolding outcome_of
tells_of s old new notes notes' outcome None has is status text noted = absurd (none-some 1 (sym (ap status_of is) ∙ status))
tells_of s old new notes notes' outcome (Some content) has is status text noted =
    tells_by s content s.request.question old new notes notes' outcome has refl is status text noted

pub tells : (s : Setting) (old new notes notes' : Option (List ℕ)) (status : ℕ) → Ran s old new notes notes' status → status ≡ 1
    → Tells s old new notes notes'
tells s old new notes notes' status ran is =
    let r : Ran s old new notes notes' 1 = subst (λ k. Ran s old new notes notes' k) is ran in
    let all = r.whole (1, omega arith, refl) in
    tells_of s old new notes notes' r.outcome r.of_setting.content r.of_setting.of_file r.of_setting.is all.0 all.1 all.2
