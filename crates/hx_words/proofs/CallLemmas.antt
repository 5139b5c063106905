-- The calls so far, with those of what is left, are the calls of the text.
use Rattle.std.proofs.Common.{◌≡◌, ◌≢◌, ℕ, zero, suc, ◌-◌, ◌<◌, ◌≤◌, List, [], ◌∷◌, ◌++◌, length, Option, Ok, Err, refl, sym, ap, ◌∙◌, append_assoc, subst, arith}
use Rattle.hx_words.specs.declared.fault.ArgFault.{ArgFault}
use Rattle.hx_words.specs.declared.fault.ArgFault.TheVariants.{NoMemory}
use Rattle.hx_words.specs.CallForm.{CallForm}
use Rattle.hx_words.specs.Calls.{Step, step_of, further_steps, steps_within, steps_of, longer_calls, calls_of_steps, CallsAndRest, call_list, calls_of}
use Rattle.hx_words.specs.Calls.Step.{Last, More, Faulty}
use Rattle.hx_words.proofs.StepLemmas.{IsProperStep, step-proper, steps_repeat}

abbrev calls_before : List CallForm → CallsAndRest → CallsAndRest
calls_before done (Ok read) = Ok (done ++ read.0, read.1)
calls_before done (Err fault) = Err fault

before-none : (read : CallsAndRest) → calls_before [] read ≡ read
before-none (Ok read) = refl
before-none (Err fault) = refl

before-one : (done : List CallForm) (call : CallForm) (read : CallsAndRest)
    → calls_before done (longer_calls call read) ≡ calls_before (done ++ call ∷ []) read
before-one done call (Ok read) = ap (λ (calls : List CallForm). Ok (calls, read.1))
    (sym (append_assoc done (call ∷ []) read.0))
before-one done call (Err fault) = refl

-- what is known between two calls
pub record KeepsCalls (stop : Option ℕ) (text rest : List ℕ) (done : List CallForm) : Type 0 where
  pub within : length rest ≤ length text
  pub same : calls_before done (calls_of_steps (steps_of stop rest)) ≡ calls_of_steps
      (steps_of stop text)

pub calls_start : (stop : Option ℕ) (text : List ℕ) → KeepsCalls stop text text []
calls_start stop text =
    record { within = omega arith; same = before-none (calls_of_steps (steps_of stop text)) }

-- the calls of a text by its first step
pub calls_of_steps-by : (stop : Option ℕ) (text : List ℕ) (step : Step) → step ≡ step_of stop text
    → calls_of_steps (steps_of stop text) ≡ calls_of_steps
    (step ∷ further_steps (steps_of stop) step)
calls_of_steps-by stop text step is = ap calls_of_steps (steps_repeat stop text)
    ∙ ap (λ (s : Step). calls_of_steps (s ∷ further_steps (steps_of stop) s)) (sym is)

left-of : (stop : Option ℕ) (text : List ℕ) (step : Step) → step ≡ step_of stop text
    → IsProperStep (length text) step
left-of stop text step is = let P : Step → Type 0 = IsProperStep (length text) in subst P (sym is)
    (step-proper stop text)

pub calls_more : (stop : Option ℕ) (text rest after : List ℕ) (done : List CallForm)
    (call : CallForm) → KeepsCalls stop text rest done → More call after ≡ step_of stop rest
    → KeepsCalls stop text after (done ++ call ∷ [])
calls_more stop text rest after done call keeps is =
    let less : length after < length rest = left-of stop rest (More call after) is in
    let was = keeps.within in
    record {
      within = omega arith;
      same = sym (before-one done call (calls_of_steps (steps_of stop after)))
          ∙ ap (calls_before done) (sym (calls_of_steps-by stop rest (More call after) is))
          ∙ keeps.same;
    }

-- the last call
pub calls_last : (stop : Option ℕ) (text rest after : List ℕ) (done : List CallForm)
    (call : CallForm) → KeepsCalls stop text rest done → Last call after ≡ step_of stop rest
    → calls_of stop text ≡ Ok
    (record { calls = done ++ call ∷ []; used = length text - length after })
unfolding calls_of
calls_last stop text rest after done call keeps is =
    ap (call_list text)
    (sym keeps.same ∙ ap (calls_before done) (calls_of_steps-by stop rest (Last call after) is))

pub last_within : (stop : Option ℕ) (text rest after : List ℕ) (done : List CallForm)
    (call : CallForm) → KeepsCalls stop text rest done → Last call after ≡ step_of stop rest
    → length after ≤ length text
last_within stop text rest after done call keeps is =
    let less : length after ≤ length rest = left-of stop rest (Last call after) is in
    let was = keeps.within in
    omega arith

-- a faulty call
pub calls_faulty : (stop : Option ℕ) (text rest name : List ℕ) (done : List CallForm)
    (fault : ArgFault) → KeepsCalls stop text rest done → Faulty name fault ≡ step_of stop rest
    → calls_of stop text ≡ Err fault
unfolding calls_of
calls_faulty stop text rest name done fault keeps is =
    ap (call_list text)
    (sym keeps.same ∙ ap (calls_before done) (calls_of_steps-by stop rest (Faulty name fault) is))

-- out of memory is no fault of a text
pub step_never_out_of_memory : (stop : Option ℕ) (text name : List ℕ)
    → step_of stop text ≢ Faulty name NoMemory
step_never_out_of_memory stop text name is = left-of stop text (Faulty name NoMemory) (sym is) refl

longer-memory : (call : CallForm) (read : CallsAndRest) → read ≢ Err NoMemory
    → longer_calls call read ≢ Err NoMemory
longer-memory call (Ok read) well is = cc
longer-memory call (Err fault) well is = well cc

first-memory : (n : ℕ) (step : Step) (more : List Step) → IsProperStep n step
    → calls_of_steps more ≢ Err NoMemory → calls_of_steps (step ∷ more) ≢ Err NoMemory
first-memory n (Last call rest) more proper well is = cc
first-memory n (More call rest) more proper well is =
    longer-memory call (calls_of_steps more) well is
first-memory n (Faulty name fault) more proper well is = proper cc

further_steps-memory : (rest_of : List ℕ → List Step) (step : Step)
    → ((rest : List ℕ) → calls_of_steps (rest_of rest) ≢ Err NoMemory)
    → calls_of_steps (further_steps rest_of step) ≢ Err NoMemory
further_steps-memory rest_of (Last call rest) well is = cc
further_steps-memory rest_of (More call rest) well is = well rest is
further_steps-memory rest_of (Faulty name fault) well is = cc

steps-memory : (n : ℕ) (stop : Option ℕ) (text : List ℕ)
    → calls_of_steps (steps_within n stop text) ≢ Err NoMemory
unfolding steps_within
steps-memory zero stop text = first-memory (length text)
    (step_of stop text) [] (step-proper stop text) (λ is. cc)
steps-memory (suc n) stop text = first-memory (length text) (step_of stop text)
    (further_steps (λ rest. steps_within n stop rest) (step_of stop text)) (step-proper stop text)
    (further_steps-memory (λ rest. steps_within n stop rest) (step_of stop text)
    (λ rest. steps-memory n stop rest))

call_list-memory : (text : List ℕ) (read : CallsAndRest) → read ≢ Err NoMemory
    → call_list text read ≢ Err NoMemory
call_list-memory text (Ok read) well is = cc
call_list-memory text (Err fault) well is = well cc

pub calls_never_out_of_memory : (stop : Option ℕ) (text : List ℕ)
    → calls_of stop text ≢ Err NoMemory
unfolding calls_of steps_of
calls_never_out_of_memory stop text =
    call_list-memory text (calls_of_steps (steps_within (length text) stop text))
    (steps-memory (length text) stop text)
