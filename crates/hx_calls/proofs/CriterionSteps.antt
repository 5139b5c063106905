-- A loop over the calls of a text, which may bring references.
use Rattle.std.proofs.Common.{◌≡◌, ℕ, List, [], ◌∷◌, ◌++◌, Option, None, Ok, Err, refl, ap, sym, append_assoc}
use Rattle.std.specs.Prelude.{Result}
use Rattle.hx_words.specs.Calls.{Step, step_of, steps_of, further_steps}
use Rattle.hx_words.specs.Calls.Step.{Last, More, Faulty}
use Rattle.hx_words.specs.CallForm.{CallForm}
use Rattle.hx_words.specs.declared.ArgFault.{ArgFault}
use Rattle.hx_ast.specs.declared.Conv.{Conv}
use Rattle.hx_calls.specs.declared.fault.SpellFault.{SpellFault}
use Rattle.hx_base.specs.Results.{◌>>=◌}
use Rattle.hx_calls.specs.Criteria.{conv_call, conv_fault, convs_after, criterion_of, criterion_of_steps, expr_of, expr_of_steps}
use Rattle.hx_calls.specs.Formats.{rest_after}
use Rattle.hx_calls.specs.Known.{Known, Reading}
use Rattle.hx_calls.proofs.KnownLemmas.{extends_refl, extends_trans}

-- these converters, and those that are read after them
abbrev pub longer_reading :
    List Conv → Result (Reading (List Conv)) SpellFault → Result (Reading (List Conv)) SpellFault
longer_reading before (Ok after) =
    Ok (record { value = before ++ after.value; known = after.known })
longer_reading before (Err fault) = Err fault

pub no_longer : (after : Result (Reading (List Conv)) SpellFault) → longer_reading [] after ≡ after
no_longer (Ok after) = refl
no_longer (Err fault) = refl

pub longer_by : (before : List Conv) (conv : Conv) (after : Result (Reading (List Conv)) SpellFault)
    → longer_reading before (after >>= (λ others. Ok
    (record { value = conv ∷ others.value; known = others.known })))
    ≡ longer_reading (before ++ conv ∷ []) after
longer_by before conv (Ok after) =
    ap (λ convs. Ok (record { value = convs; known = after.known }))
    (sym (append_assoc before (conv ∷ []) after.value))
longer_by before conv (Err fault) = refl

-- what reading a text again after its first call amounts to
abbrev pub Repeats : Option ℕ → List ℕ → Type 0
Repeats stop text =
    steps_of stop text ≡ step_of stop text ∷ further_steps (λ rest. steps_of stop rest)
    (step_of stop text)

pub from_step : (stop : Option ℕ) (text : List ℕ) (step : Step) → step ≡ step_of stop text
    → Repeats stop text
    → steps_of stop text ≡ step ∷ further_steps (λ rest. steps_of stop rest) step
from_step stop text step is repeats = rw is repeats

pub more_convs : (line : ℕ) (before : List Conv) (stop : Option ℕ) (text : List ℕ)
    (known : Known) (call : CallForm) (rest : List ℕ) (conv : Conv) (after : Known)
    → More call rest ≡ step_of stop text → Repeats stop text
    → conv_call line call known ≡ Ok (record { value = conv; known = after })
    → longer_reading before (convs_after line (steps_of stop text) known)
    ≡ longer_reading (before ++ conv ∷ []) (convs_after line (steps_of stop rest) after)
more_convs line before stop text known call rest conv after is repeats made =
    rw (from_step stop text (More call rest) is repeats, made)
    (longer_by before conv (convs_after line (steps_of stop rest) after))

pub last_convs : (line : ℕ) (before : List Conv) (stop : Option ℕ) (text : List ℕ)
    (known : Known) (call : CallForm) (rest : List ℕ) (conv : Conv) (after : Known)
    → Last call rest ≡ step_of stop text → Repeats stop text
    → conv_call line call known ≡ Ok (record { value = conv; known = after })
    → longer_reading before (convs_after line (steps_of stop text) known)
    ≡ Ok (record { value = before ++ conv ∷ []; known = after })
last_convs line before stop text known call rest conv after is repeats made =
    rw (from_step stop text (Last call rest) is repeats, made) refl

pub refused_more : (line : ℕ) (before : List Conv) (stop : Option ℕ) (text : List ℕ)
    (known : Known) (call : CallForm) (rest : List ℕ) (fault : SpellFault)
    → More call rest ≡ step_of stop text → Repeats stop text
    → conv_call line call known ≡ Err fault
    → longer_reading before (convs_after line (steps_of stop text) known) ≡ Err fault
refused_more line before stop text known call rest fault is repeats wrong =
    rw (from_step stop text (More call rest) is repeats, wrong) refl

pub refused_last : (line : ℕ) (before : List Conv) (stop : Option ℕ) (text : List ℕ)
    (known : Known) (call : CallForm) (rest : List ℕ) (fault : SpellFault)
    → Last call rest ≡ step_of stop text → Repeats stop text
    → conv_call line call known ≡ Err fault
    → longer_reading before (convs_after line (steps_of stop text) known) ≡ Err fault
refused_last line before stop text known call rest fault is repeats wrong =
    rw (from_step stop text (Last call rest) is repeats, wrong) refl

pub faulty_convs : (line : ℕ) (before : List Conv) (stop : Option ℕ) (text : List ℕ)
    (known : Known) (name : List ℕ) (cause : ArgFault) (fault : SpellFault)
    → Faulty name cause ≡ step_of stop text → Repeats stop text
    → fault ≡ conv_fault name cause
    → longer_reading before (convs_after line (steps_of stop text) known) ≡ Err fault
faulty_convs line before stop text known name cause fault is repeats wrong =
    rw (from_step stop text (Faulty name cause) is repeats, wrong) refl

-- what follows the calls of a text, by its first call
pub more_rest : (stop : Option ℕ) (text : List ℕ) (call : CallForm) (rest : List ℕ)
    → More call rest ≡ step_of stop text → Repeats stop text
    → rest_after (steps_of stop text) ≡ rest_after (steps_of stop rest)
more_rest stop text call rest is repeats =
    rw (from_step stop text (More call rest) is repeats) refl

pub last_rest : (stop : Option ℕ) (text : List ℕ) (call : CallForm) (rest : List ℕ)
    → Last call rest ≡ step_of stop text → Repeats stop text
    → rest_after (steps_of stop text) ≡ rest
last_rest stop text call rest is repeats =
    rw (from_step stop text (Last call rest) is repeats) refl

pub criterion_by_step : (line : ℕ) (text : List ℕ) (known : Known) (step : Step)
    → step ≡ step_of None text → Repeats None text
    → criterion_of line text known
    ≡ criterion_of_steps line (step ∷ further_steps (λ rest. steps_of None rest) step) known
unfolding criterion_of
criterion_by_step line text known step is repeats =
    ap (λ steps. criterion_of_steps line steps known) (from_step None text step is repeats)

pub expr_by_step : (stop : Option ℕ) (line : ℕ) (text : List ℕ) (known : Known) (step : Step)
    → step ≡ step_of stop text → Repeats stop text
    → expr_of stop line text known
    ≡ expr_of_steps line (step ∷ further_steps (λ rest. steps_of stop rest) step) known
unfolding expr_of
expr_by_step stop line text known step is repeats =
    ap (λ steps. expr_of_steps line steps known) (from_step stop text step is repeats)

-- what a loop over the calls of a text rests on
pub ruleset steps_of_criterion = (
  no_longer,
  more_convs,
  last_convs,
  refused_more,
  refused_last,
  faulty_convs,
  more_rest,
  last_rest,
  extends_refl,
  extends_trans,
)
