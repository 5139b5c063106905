-- A text that writes a criterion is read as it, so it writes one at most; another is refused by a
-- code.
use Rattle.std.proofs.Common.{◌≡◌, ◌↔◌, ℕ, List, [], ◌∷◌, None, Ok, Err, refl, sym, ◌∙◌, ap}
use Rattle.std.specs.Prelude.{Result}
use Rattle.hx_words.specs.CallForm.{CallForm}
use Rattle.hx_words.specs.Calls.{Step, steps_of, calls_of_steps, longer_calls}
use Rattle.hx_words.specs.Calls.Step.{Last, More, Faulty}
use Rattle.hx_words.specs.Spelling.{SpellsCalls}
use Rattle.hx_ast.specs.declared.Conv.{Conv}
use Rattle.hx_calls.specs.declared.fault.SpellFault.{SpellFault}
use Rattle.hx_base.specs.Results.{◌>>=◌}
use Rattle.hx_calls.specs.Codes.{unsupported}
use Rattle.hx_calls.specs.Criteria.{Criterion, MethodFetch, conv_call, convs_after, criterion, criterion_of, criterion_of_steps, fetch_by, fetch_way}
use Rattle.hx_calls.specs.Known.{Known, Reading}
use Rattle.hx_calls.specs.ExpressionRelation.{WriteConvs, WritesCriterion}
use Rattle.hx_calls.proofs.CallMeaningLemmas.{conv_read, conv_writes, method_fetch_read, method_fetch_writes}
use Rattle.hx_calls.proofs.CallTextLemmas.{AreOf, IsReading, is_reading, longer_is, read_as, same_calls, spelled_steps, steps_never_lack, steps_spelled}
use Rattle.hx_calls.proofs.CriterionFormLemmas.{steps_coded, with_first}
use Rattle.hx_calls.proofs.ResultLemmas.{IsCoded, and_then_ok, then_ok}

then_same : {A B : Type 0} (r : Result A SpellFault) (f g : A → Result B SpellFault)
    → ((x : A) → f x ≡ g x) → (r >>= f) ≡ (r >>= g)
then_same (Ok x) f g same = same x
then_same (Err fault) f g same = refl

-- ---- converters

-- the converters of calls
abbrev pub convs_of_calls : ℕ → List CallForm → Known → Result (Reading (List Conv)) SpellFault
convs_of_calls line [] known = Ok (record { value = []; known = known })
convs_of_calls line (call ∷ calls) known =
    conv_call line call known >>= (λ first. convs_of_calls line calls first.known >>=
    with_first first)

-- steps that are of these calls
pub convs_by_calls : (line : ℕ) (steps : List Step) (calls : List CallForm) (rest : List ℕ)
    (known : Known) → IsReading steps → calls_of_steps steps ≡ read_as calls rest
    → convs_after line steps known ≡ convs_of_calls line calls known
convs_by_calls line [] calls rest known reading is =
    ap (λ c. convs_of_calls line c known) (same_calls [] calls [] rest is)
convs_by_calls line (Last call left ∷ steps) calls rest known reading is =
    ap (λ s. conv_call line call known >>= (λ first. convs_after line s first.known >>=
    with_first first)) reading
    ∙ ap (λ c. convs_of_calls line c known) (same_calls (call ∷ []) calls left rest is)
convs_by_calls line (More call left ∷ steps) calls rest known reading is =
    let (more, found, all) = longer_is call (calls_of_steps steps) calls rest is in
    then_same (conv_call line call known)
    (λ first. convs_after line steps first.known >>= with_first first)
    (λ first. convs_of_calls line more first.known >>= with_first first)
    (λ first. ap (λ r. r >>= with_first first)
    (convs_by_calls line steps more rest first.known reading found))
    ∙ ap (λ c. convs_of_calls line c known) all
convs_by_calls line (Faulty name fault ∷ steps) calls rest known reading is =
    absurd (let no : ⊥ = cc in no)

-- the steps are of calls
abbrev pub Called : List Step → Type 0
Called steps = (calls : List CallForm) × AreOf calls steps

pub longer_called : (call : CallForm) (rest : List ℕ) (steps : List Step) → Called steps
    → Called (More call rest ∷ steps)
longer_called call rest steps (calls, (left, are)) =
    (call ∷ calls, (left, ap (λ r. longer_calls call r) are))

-- steps that are read as converters have no fault
pub convs_called : (line : ℕ) (steps : List Step) (known : Known) (convs : Reading (List Conv))
    → convs_after line steps known ≡ Ok convs → Called steps
convs_called line [] known convs is = ([], ([], refl))
convs_called line (Last call rest ∷ steps) known convs is = (call ∷ [], (rest, refl))
convs_called line (More call rest ∷ steps) known convs is =
    let (first, made, after) =
    and_then_ok (conv_call line call known)
    (λ first. convs_after line steps first.known >>= with_first first) convs is in
    let (others, read, whole) =
    and_then_ok (convs_after line steps first.known) (with_first first) convs after in
    longer_called call rest steps (convs_called line steps first.known others read)
convs_called line (Faulty name fault ∷ steps) known convs is = absurd (let no : ⊥ = cc in no)

pub convs_written : (line : ℕ) (calls : List CallForm) (known : Known) (convs : Reading (List Conv))
    → convs_of_calls line calls known ≡ Ok convs → WriteConvs line known calls convs
convs_written line [] known convs is = cc
convs_written line (call ∷ calls) known convs is =
    let (first, made, after) =
    and_then_ok (conv_call line call known)
    (λ first. convs_of_calls line calls first.known >>= with_first first) convs is in
    let (others, read, whole) =
    and_then_ok (convs_of_calls line calls first.known) (with_first first) convs after in (
      first,
      others,
      cc,
      conv_writes line call known first made,
      convs_written line calls first.known others read,
    )

pub convs_read : (line : ℕ) (calls : List CallForm) (known : Known) (convs : Reading (List Conv))
    → WriteConvs line known calls convs → convs_of_calls line calls known ≡ Ok convs
convs_read line [] known convs is = ap (λ c. Ok c) (sym is)
convs_read line (call ∷ calls) known convs (first, others, is, writes, write) =
    then_ok (conv_call line call known)
    (λ first. convs_of_calls line calls first.known >>= with_first first) first convs
    (conv_read line call known first writes)
    (then_ok (convs_of_calls line calls first.known) (with_first first) others convs
    (convs_read line calls first.known others write) (ap (λ c. Ok c) (sym is)))

-- ---- criteria

abbrev with_convs :
    Result (Reading (List Conv)) SpellFault → MethodFetch → Result (Reading Criterion) SpellFault
with_convs convs first = convs >>= (λ c. Ok (criterion first c))

-- the criterion of calls
abbrev criterion_of_calls : ℕ → List CallForm → Known → Result (Reading Criterion) SpellFault
criterion_of_calls line [] known = Err unsupported
criterion_of_calls line (call ∷ calls) known =
    fetch_by (fetch_way call.name) call.args >>= with_convs (convs_of_calls line calls known)

criterion_by_calls : (line : ℕ) (steps : List Step) (calls : List CallForm) (rest : List ℕ)
    (known : Known) → IsReading steps → calls_of_steps steps ≡ read_as calls rest
    → criterion_of_steps line steps known ≡ criterion_of_calls line calls known
criterion_by_calls line [] calls rest known reading is =
    ap (λ c. criterion_of_calls line c known) (same_calls [] calls [] rest is)
criterion_by_calls line (Last call left ∷ steps) calls rest known reading is =
    ap (λ s. fetch_by (fetch_way call.name) call.args >>= with_convs (convs_after line s known))
    reading
    ∙ ap (λ c. criterion_of_calls line c known) (same_calls (call ∷ []) calls left rest is)
criterion_by_calls line (More call left ∷ steps) calls rest known reading is =
    let (more, found, all) = longer_is call (calls_of_steps steps) calls rest is in
    ap (λ r. fetch_by (fetch_way call.name) call.args >>= with_convs r)
    (convs_by_calls line steps more rest known reading found)
    ∙ ap (λ c. criterion_of_calls line c known) all
criterion_by_calls line (Faulty name fault ∷ steps) calls rest known reading is =
    absurd (let no : ⊥ = cc in no)

criterion_called : (line : ℕ) (steps : List Step) (known : Known) (read : Reading Criterion)
    → criterion_of_steps line steps known ≡ Ok read → Called steps
criterion_called line [] known read is = ([], ([], refl))
criterion_called line (Last call rest ∷ steps) known read is = (call ∷ [], (rest, refl))
criterion_called line (More call rest ∷ steps) known read is =
    let (first, fetched, after) =
    and_then_ok (fetch_by (fetch_way call.name) call.args)
    (with_convs (convs_after line steps known)) read is in
    let (convs, converted, whole) =
    and_then_ok (convs_after line steps known) (λ c. Ok (criterion first c)) read after in
    longer_called call rest steps (convs_called line steps known convs converted)
criterion_called line (Faulty name fault ∷ steps) known read is = absurd (let no : ⊥ = cc in no)

criterion_of_whole : (line : ℕ) (text : List ℕ) (known : Known) (calls : List CallForm)
    → AreOf calls (steps_of None text)
    → criterion_of line text known ≡ criterion_of_calls line calls known
unfolding criterion_of
criterion_of_whole line text known calls (rest, are) =
    criterion_by_calls line (steps_of None text) calls rest known (is_reading None text) are

written : (line : ℕ) (text : List ℕ) (before : Known) (calls : List CallForm)
    (read : Reading Criterion) → SpellsCalls None calls text
    → criterion_of_calls line calls before ≡ Ok read → WritesCriterion line before text read
written line text before [] read spelled is = absurd (let no : ⊥ = cc in no)
written line text before (first ∷ others) read spelled is =
    let (fetch, fetched, after) =
    and_then_ok (fetch_by (fetch_way first.name) first.args)
    (with_convs (convs_of_calls line others before)) read is in
    let (convs, converted, whole) =
    and_then_ok (convs_of_calls line others before) (λ c. Ok (criterion fetch c)) read after in
    record {
      first = first;
      others = others;
      spelled = spelled;
      fetch = fetch;
      fetched = method_fetch_writes first fetch fetched;
      convs = convs;
      converted = convs_written line others before convs converted;
      is = cc;
    }

criterion_calls : (line : ℕ) (text : List ℕ) (before : Known) (read : Reading Criterion)
    → criterion_of line text before ≡ Ok read → Called (steps_of None text)
unfolding criterion_of
criterion_calls line text before read is =
    criterion_called line (steps_of None text) before read is

criterion_writes : (line : ℕ) (text : List ℕ) (before : Known) (read : Reading Criterion)
    → criterion_of line text before ≡ Ok read → WritesCriterion line before text read
criterion_writes line text before read is =
    let (calls, are) = criterion_calls line text before read is in
    written line text before calls read (steps_spelled text calls are)
    (sym (criterion_of_whole line text before calls are) ∙ is)

criterion_read : (line : ℕ) (text : List ℕ) (before : Known) (read : Reading Criterion)
    → WritesCriterion line before text read → criterion_of line text before ≡ Ok read
criterion_read line text before read w =
    criterion_of_whole line text before (w.first ∷ w.others)
    (spelled_steps text (w.first ∷ w.others) w.spelled)
    ∙ then_ok (fetch_by (fetch_way w.first.name) w.first.args)
    (with_convs (convs_of_calls line w.others before)) w.fetch read
    (method_fetch_read w.first w.fetch w.fetched)
    (then_ok (convs_of_calls line w.others before) (λ c. Ok (criterion w.fetch c)) w.convs read
    (convs_read line w.others before w.convs w.converted) (ap (λ c. Ok c) (sym w.is)))

-- a text is read as the criterion that it writes, and as no other
pub criterion_law : (line : ℕ) (text : List ℕ) (before : Known) (read : Reading Criterion)
    → (criterion_of line text before ≡ Ok read) ↔ WritesCriterion line before text read
criterion_law line text before read =
    (criterion_writes line text before read, criterion_read line text before read)

-- a text that is refused is refused by a code
pub criterion_coded : (line : ℕ) (text : List ℕ) (before : Known)
    → IsCoded (criterion_of line text before)
unfolding criterion_of
criterion_coded line text before =
    steps_coded line (steps_of None text) before (is_reading None text) (steps_never_lack None text)
