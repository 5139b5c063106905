-- A call takes some of the text, and the calls of a text are its first call and those after the
-- comma.
use Rattle.std.proofs.Common.{◌≡◌, ◌≢◌, ℕ, zero, suc, ◌<◌, ◌≤◌, ◌==◌, ◌&&◌, not, Bool, true, false, if◌then◌else◌, List, [], ◌∷◌, length, take, drop, Option, Some, None, refl, sym, ap, ◌∙◌, subst, arith, length-drop}
use Rattle.hx_words.specs.declared.fault.ArgFault.TheVariants.{AfterClose, BadEscape, NoMemory}
use Rattle.hx_words.specs.TextItems.{QuoteState}
use Rattle.hx_words.specs.TextItems.QuoteState.{Outside, Single, Double}
use Rattle.hx_words.specs.Quoting.{escape_of}
use Rattle.hx_words.specs.TextItems.{TextItem}
use Rattle.hx_base.specs.Bytes.{ascii, is_given}
use Rattle.hx_words.specs.CallForm.{CallForm}
use Rattle.hx_words.specs.Arguments.{ArgumentsEnd, argument_item, arguments_end, argument_items, arguments}
use Rattle.hx_words.specs.Arguments.ArgumentsEnd.{AtParenthesis, AtFault}
use Rattle.hx_words.specs.Calls.{Step, step_at_end, step_after_call, step_after_arguments, step_with_arguments, step_after_name, call_name_length, step_of, further_steps, steps_within, steps_of}
use Rattle.hx_words.specs.Calls.Step.{Last, More, Faulty}
use Rattle.hx_words.proofs.EndingLemmas.{StopsBy, stops-either, stops-part, ending-by}

-- less than the text stands after `)`, and out of memory is no fault of a text
abbrev pub IsProperEnd : ℕ → ArgumentsEnd → Type 0
IsProperEnd n (AtParenthesis after) = length after < n
IsProperEnd n (AtFault fault) = fault ≢ NoMemory

proper-more : (n : ℕ) (e : ArgumentsEnd) → IsProperEnd n e → IsProperEnd (suc n) e
proper-more n (AtParenthesis after) h = omega arith
proper-more n (AtFault fault) h = h

proper-either : (n : ℕ) (b : Bool) (x y : TextItem ArgumentsEnd) → StopsBy (IsProperEnd n) x
    → StopsBy (IsProperEnd n) y → StopsBy (IsProperEnd n) (if b then x else y)
proper-either n = stops-either (IsProperEnd n)

proper-item : (state : QuoteState) (b : ℕ) (bs : List ℕ)
    → StopsBy (IsProperEnd (suc (length bs))) (argument_item state b bs)
unfolding argument_item
proper-item Outside b bs =
    let escape = stops-part (IsProperEnd (suc (length bs)))
    (AtFault BadEscape) Outside (escape_of bs) (λ is. cc) in
    let well : Unit {0} = tt in
    let less : length bs < suc (length bs) = omega arith in
    search (proper-either, escape, well, less) depth 9
proper-item Single b bs = let well : Unit {0} = tt in search (proper-either, well) depth 9
proper-item Double b bs =
    let escape = stops-part (IsProperEnd (suc (length bs)))
    (AtFault BadEscape) Double (escape_of bs) (λ is. cc) in
    let well : Unit {0} = tt in
    search (proper-either, escape, well) depth 9

proper-end : (state : QuoteState) → IsProperEnd 0 (arguments_end state)
proper-end Outside = λ is. cc
proper-end Single = λ is. cc
proper-end Double = λ is. cc

proper-ending : (bs : List ℕ) → IsProperEnd (length bs) (argument_items bs).ending
proper-ending bs =
    ending-by IsProperEnd argument_item arguments_end proper-more proper-item proper-end bs
    Outside 0

pub closed_shorter : (bs after : List ℕ) → (argument_items bs).ending ≡ AtParenthesis after
    → length after < length bs
closed_shorter bs after is = let proper = proper-ending bs in let P : ArgumentsEnd
    → Type 0 = IsProperEnd (length bs) in subst P is proper

-- what a step leaves of a text of this length is no longer, and shorter where another call follows
abbrev pub IsProperStep : ℕ → Step → Type 0
IsProperStep n (Last call rest) = length rest ≤ n
IsProperStep n (More call rest) = length rest < n
IsProperStep n (Faulty name fault) = fault ≢ NoMemory

step-longer : (m n : ℕ) (step : Step) → m ≤ n → IsProperStep m step → IsProperStep n step
step-longer m n (Last call rest) h p = omega arith
step-longer m n (More call rest) h p = omega arith
step-longer m n (Faulty name fault) h p = p

step-either : (n : ℕ) (b : Bool) (x y : Step) → IsProperStep n x → IsProperStep n y
    → IsProperStep n (if b then x else y)
step-either n true x y p q = p
step-either n false x y p q = q

end-proper : (stop : Option ℕ) (call : CallForm) → IsProperStep 0 (step_at_end stop call)
end-proper None call = omega arith
end-proper (Some stop) call = λ is. cc

call-proper : (stop : Option ℕ) (call : CallForm) (rest : List ℕ)
    → IsProperStep (length rest) (step_after_call stop call rest)
call-proper stop call [] = end-proper stop call
call-proper stop call (b ∷ bs) =
    step-either (length (b ∷ bs)) (is_given stop b) (Last call bs) _ (omega arith)
    (step-either (length (b ∷ bs)) (b == ascii ",") (More call bs) (Faulty call.name AfterClose)
    (omega arith) (λ is. cc))

step_after_arguments-proper : (stop : Option ℕ) (name : List ℕ) (args : List (List ℕ)) (n : ℕ)
    (ending : ArgumentsEnd) → IsProperEnd n ending
    → IsProperStep n (step_after_arguments stop name args ending)
step_after_arguments-proper stop name args n (AtParenthesis after) h =
    step-longer (length after) n (step_after_call stop (record { name = name; args = args }) after)
    (omega arith) (call-proper stop (record { name = name; args = args }) after)
step_after_arguments-proper stop name args n (AtFault fault) h = h

name-proper : (stop : Option ℕ) (name rest : List ℕ)
    → IsProperStep (length rest) (step_after_name stop name rest)
name-proper stop name [] = call-proper stop (record { name = name; args = [] }) []
name-proper stop name (b ∷ bs) =
    let reading = argument_items bs in
    step-either (length (b ∷ bs)) (b == ascii "(" && not (is_given stop b))
    (step_with_arguments stop name bs)
    (step_after_call stop (record { name = name; args = [] }) (b ∷ bs))
    (step-longer (length bs) (length (b ∷ bs)) (step_with_arguments stop name bs) (omega arith)
    (step_after_arguments-proper stop name (arguments reading.items) (length bs) reading.ending
    (proper-ending bs)))
    (call-proper stop (record { name = name; args = [] }) (b ∷ bs))

pub step-proper : (stop : Option ℕ) (text : List ℕ) → IsProperStep (length text) (step_of stop text)
unfolding step_of
step-proper stop text =
    let n = call_name_length stop text in
    step-longer (length (drop n text)) (length text)
    (step_after_name stop (take n text) (drop n text)) (omega (arith, length-drop n text))
    (name-proper stop (take n text) (drop n text))

none-follows : (f : List ℕ → List Step) (step : Step) → IsProperStep 0 step
    → further_steps f step ≡ []
none-follows f (Last call rest) h = refl
none-follows f (More call rest) h = absurd (omega arith)
none-follows f (Faulty name fault) h = refl

same-follows : (n : ℕ) (f g : List ℕ → List Step) (step : Step) → IsProperStep n step
    → ((rest : List ℕ) → length rest < n → f rest ≡ g rest)
    → further_steps f step ≡ further_steps g step
same-follows n f g (Last call rest) h same = refl
same-follows n f g (More call rest) h same = same rest h
same-follows n f g (Faulty name fault) h same = refl

-- no text has more calls after its first than it has bytes
steps-enough : (m n : ℕ) (stop : Option ℕ) (text : List ℕ) → length text ≤ m → length text ≤ n
    → steps_within m stop text ≡ steps_within n stop text
unfolding steps_within
steps-enough zero zero stop text h k = refl
steps-enough zero (suc n) stop text h k =
    ap (λ (more : List Step). step_of stop text ∷ more)
    (sym (none-follows (λ rest. steps_within n stop rest) (step_of stop text)
    (step-longer (length text) 0 (step_of stop text) h (step-proper stop text))))
steps-enough (suc m) zero stop text h k =
    ap (λ (more : List Step). step_of stop text ∷ more)
    (none-follows (λ rest. steps_within m stop rest) (step_of stop text)
    (step-longer (length text) 0 (step_of stop text) k (step-proper stop text)))
steps-enough (suc m) (suc n) stop text h k =
    ap (λ (more : List Step). step_of stop text ∷ more)
    (same-follows (length text) (λ rest. steps_within m stop rest)
    (λ rest. steps_within n stop rest) (step_of stop text) (step-proper stop text)
    (λ rest less. steps-enough m n stop rest (omega arith) (omega arith)))

pub steps_repeat : (stop : Option ℕ) (text : List ℕ)
    → steps_of stop text ≡ step_of stop text ∷ further_steps (steps_of stop) (step_of stop text)
unfolding steps_of steps_within
steps_repeat stop text =
    steps-enough (length text) (suc (length text)) stop text (omega arith) (omega arith)
    ∙ ap (λ (more : List Step). step_of stop text ∷ more)
    (same-follows (length text) (λ rest. steps_within (length text) stop rest) (steps_of stop)
    (step_of stop text) (step-proper stop text)
    (λ rest less. steps-enough (length text) (length rest) stop rest (omega arith) (omega arith)))
