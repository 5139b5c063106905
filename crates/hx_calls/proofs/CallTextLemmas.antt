-- The calls of a text, as the steps of its reading have them, are those that spell it, up to the
-- stop byte, if there is one.
use Rattle.std.proofs.Common.{◌≡◌, ◌≢◌, ℕ, zero, suc, ◌-◌, List, [], ◌∷◌, ◌++◌, length, Option, None, Ok, Err, refl, sym, ◌∙◌, ap, subst, append-nil, append_assoc}
use Rattle.std.specs.Prelude.{option_to_list}
use Rattle.hx_base.specs.Bytes.{ascii}
use Rattle.hx_words.specs.CallForm.{CallForm, CallList}
use Rattle.hx_words.specs.Calls.{Step, step_of, steps_of, steps_within, further_steps, calls_of, calls_of_steps, longer_calls, call_list, CallsAndRest}
use Rattle.hx_words.specs.Calls.Step.{Last, More, Faulty}
use Rattle.hx_words.specs.Spelling.{SpellsCall, SpellsCalls}
use Rattle.hx_words.specs.Spelling.SpellsCalls.{LastCall, FirstCall}
use Rattle.hx_words.specs.declared.ArgFault.TheVariants as arg
use Rattle.hx_words.proofs.CallLemmas.{calls_never_out_of_memory, calls_of_steps-by}
use Rattle.hx_words.proofs.OneSpellingLemmas.{last_only, more_only}
use Rattle.hx_words.proofs.SpelledCallLemmas.{calls_spelled, last_spelled}

-- ---- the steps of a reading

-- nothing follows the last
abbrev pub IsReading : List Step → Type 0
IsReading [] = Unit {0}
IsReading (Last call rest ∷ steps) = steps ≡ []
IsReading (More call rest ∷ steps) = IsReading steps
IsReading (Faulty name fault ∷ steps) = Unit {0}

alone : (step : Step) → IsReading (step ∷ [])
alone (Last call rest) = refl
alone (More call rest) = tt
alone (Faulty name fault) = tt

reading_step : (step : Step) (further : List ℕ → List Step)
    → ((rest : List ℕ) → IsReading (further rest))
    → IsReading (step ∷ further_steps (λ rest. further rest) step)
reading_step (Last call rest) further all = refl
reading_step (More call rest) further all = all rest
reading_step (Faulty name fault) further all = tt

reading_within : (n : ℕ) (stop : Option ℕ) (text : List ℕ) → IsReading (steps_within n stop text)
unfolding steps_within
reading_within zero stop text = alone (step_of stop text)
reading_within (suc n) stop text =
    reading_step (step_of stop text) (λ rest. steps_within n stop rest)
    (λ rest. reading_within n stop rest)

pub is_reading : (stop : Option ℕ) (text : List ℕ) → IsReading (steps_of stop text)
unfolding steps_of
is_reading stop text = reading_within (length text) stop text

-- ---- their calls

abbrev pub read_as : List CallForm → List ℕ → CallsAndRest
read_as calls rest = Ok (calls, rest)

-- the steps are of these calls
abbrev pub AreOf : List CallForm → List Step → Type 0
AreOf calls steps = (rest : List ℕ) × (calls_of_steps steps ≡ read_as calls rest)

pub same_calls : (calls others : List CallForm) (left rest : List ℕ)
    → read_as calls left ≡ read_as others rest → calls ≡ others
same_calls calls others left rest is =
    let first : List CallForm × List ℕ = (calls, left) in
    let second : List CallForm × List ℕ = (others, rest) in
    let same : first ≡ second = cc in ap (λ (f : List CallForm × List ℕ). f.0) same

pub same_rest : (calls others : List CallForm) (left rest : List ℕ)
    → read_as calls left ≡ read_as others rest → left ≡ rest
same_rest calls others left rest is =
    let first : List CallForm × List ℕ = (calls, left) in
    let second : List CallForm × List ℕ = (others, rest) in
    let same : first ≡ second = cc in ap (λ (f : List CallForm × List ℕ). f.1) same

pub longer_is : (call : CallForm) (after : CallsAndRest) (calls : List CallForm) (rest : List ℕ)
    → longer_calls call after ≡ read_as calls rest
    → (more : List CallForm) × (after ≡ read_as more rest) × (call ∷ more ≡ calls)
longer_is call (Ok found) calls rest is =
    let same : (call ∷ found.0, found.1) ≡ (calls, rest) = cc in (
      found.0,
      ap (λ r. Ok (found.0, r)) (ap (λ (f : List CallForm × List ℕ). f.1) same),
      ap (λ (f : List CallForm × List ℕ). f.0) same,
    )
longer_is call (Err fault) calls rest is = absurd (let no : ⊥ = cc in no)

-- ---- the calls of a text

-- calls that spell a text are read of it, and what follows is left
pub spelled_read : (stop : Option ℕ) (calls : List CallForm) (text : List ℕ)
    → SpellsCalls stop calls text → (rest : List ℕ) → (stop ≡ None → rest ≡ [])
    → calls_of_steps (steps_of stop (text ++ rest)) ≡ read_as calls rest
spelled_read stop _ _ (LastCall call text spelled) rest to_end =
    calls_of_steps-by stop (text ++ option_to_list stop ++ rest) (Last call rest)
    (sym (last_only stop (text ++ option_to_list stop ++ rest) call rest
    (text, spelled, append_assoc text (option_to_list stop) rest, to_end)))
spelled_read stop _ _ (FirstCall call calls text later spelled no_stop follows) rest to_end =
    calls_of_steps-by stop ((text ++ ascii "," ∷ later) ++ rest) (More call (later ++ rest))
    (sym (more_only stop ((text ++ ascii "," ∷ later) ++ rest) call (later ++ rest)
    (text, spelled, append_assoc text (ascii "," ∷ later) rest, no_stop)))
    ∙ ap (longer_calls call) (spelled_read stop calls later follows rest to_end)

-- what is read before a rest
pub record SpelledBefore (stop : Option ℕ) (calls : List CallForm) (text rest : List ℕ)
    : Type 0 where
  pub prefix : List ℕ
  pub spelled : SpellsCalls stop calls prefix
  pub whole : text ≡ prefix ++ rest
  pub to_end : stop ≡ None → rest ≡ []

calls_are : (stop : Option ℕ) (text : List ℕ) (calls : List CallForm) (rest : List ℕ)
    → calls_of_steps (steps_of stop text) ≡ read_as calls rest
    → calls_of stop text ≡ Ok (record { calls = calls; used = length text - length rest })
unfolding calls_of
calls_are stop text calls rest is = ap (λ r. call_list text r) is

-- calls that are read spell the text up to what is left
pub read_spelled : (stop : Option ℕ) (text : List ℕ) (calls : List CallForm) (rest : List ℕ)
    → calls_of_steps (steps_of stop text) ≡ read_as calls rest
    → SpelledBefore stop calls text rest
read_spelled stop text calls rest is =
    let list : CallList = record { calls = calls; used = length text - length rest } in
    let b = calls_spelled stop text list (calls_are stop text calls rest is) in
    let again : calls_of_steps (steps_of stop text) ≡ read_as calls b.rest =
    ap (λ t. calls_of_steps (steps_of stop t)) b.whole
    ∙ spelled_read stop calls b.prefix b.spelled b.rest b.to_end in
    let same : b.rest ≡ rest = same_rest calls calls b.rest rest (sym again ∙ is) in
    record {
      prefix = b.prefix;
      spelled = b.spelled;
      whole = b.whole ∙ ap (λ r. b.prefix ++ r) same;
      to_end = λ none. sym same ∙ b.to_end none;
    }

-- the calls that are read spell the text
pub steps_spelled : (text : List ℕ) (calls : List CallForm) → AreOf calls (steps_of None text)
    → SpellsCalls None calls text
steps_spelled text calls (rest, are) =
    let b = read_spelled None text calls rest are in
    let whole : text ≡ b.prefix =
    b.whole ∙ ap (λ r. b.prefix ++ r) (b.to_end refl) ∙ append-nil b.prefix in
    subst (λ (t : List ℕ). SpellsCalls None calls t) (sym whole) b.spelled

-- the calls that spell a text are read
pub spelled_steps : (text : List ℕ) (calls : List CallForm) → SpellsCalls None calls text
    → AreOf calls (steps_of None text)
spelled_steps text calls spelled =
    let read = spelled_read None calls text spelled [] (λ none. refl) in (
      [],
      subst (λ (t : List ℕ). calls_of_steps (steps_of None t) ≡ read_as calls [])
          (append-nil text) read,
    )

pub steps_never_lack : (stop : Option ℕ) (text : List ℕ)
    → calls_of_steps (steps_of stop text) ≢ Err arg.NoMemory
unfolding calls_of
steps_never_lack stop text is =
    calls_never_out_of_memory stop text (ap (λ r. call_list text r) is)

-- ---- a text of one call

pub last_is : (text : List ℕ) (call : CallForm) → SpellsCall None call text
    → step_of None text ≡ Last call []
last_is text call spelled =
    last_only None text call [] (text, spelled, sym (append-nil text), λ none. refl)

pub last_spells : (text : List ℕ) (call : CallForm) (rest : List ℕ)
    → step_of None text ≡ Last call rest → SpellsCall None call text
last_spells text call rest is =
    let (prefix, spelled, whole, to_end) = last_spelled None text call rest is in
    let same : text ≡ prefix =
    whole ∙ (ap (λ r. prefix ++ ([] ++ r)) (to_end refl) ∙ append-nil prefix) in
    subst (λ (t : List ℕ). SpellsCall None call t) (sym same) spelled
