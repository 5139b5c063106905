-- The calls that are read spell what is read of the text.
use Rattle.std.proofs.Common.{◌≡◌, ℕ, zero, suc, ◌+◌, ◌≤◌, ◌<◌, ◌==◌, ◌&&◌, ◌||◌, not, Bool, true, false, if◌then◌else◌, List, [], ◌∷◌, ◌++◌, length, take, drop, Option, Some, None, Result, Ok, Err, refl, sym, ap, ◌∙◌, subst, arith, append_assoc, length-append}
use Rattle.std.proofs.lemmas.Bool.{eqb-true}
use Rattle.std.proofs.lemmas.List.{take-append-drop}
use Rattle.std.specs.Prelude.{option_to_list}
use Rattle.std.specs.List.{list_any, prefix_len}
use Rattle.hx_base.specs.Bytes.{ascii, is_given}
use Rattle.hx_words.specs.declared.fault.ArgFault.{ArgFault}
use Rattle.hx_words.specs.TextItems.{AreTextItems}
use Rattle.hx_words.specs.TextItems.QuoteState.{Outside}
use Rattle.hx_words.specs.CallForm.{CallForm, CallList}
use Rattle.hx_words.specs.Arguments.{ArgumentsEnd, argument_item, arguments_end, argument_items, arguments}
use Rattle.hx_words.specs.Arguments.ArgumentsEnd.{AtParenthesis, AtFault}
use Rattle.hx_words.specs.Calls.{Step, ends_name, step_after_call, step_after_arguments, step_with_arguments, step_after_name, call_name_length, step_of, steps_of, further_steps, calls_of_steps, CallsAndRest, longer_calls, call_list, calls_of}
use Rattle.hx_words.specs.Calls.Step.{Last, More, Faulty}
use Rattle.hx_words.specs.Spelling.{SpellsCall, SpellsCalls, BeginsWithCalls, BeginsWithLast, BeginsWithCall}
use Rattle.hx_words.specs.Spelling.SpellsCall.{NameAlone, WithArguments}
use Rattle.hx_words.specs.Spelling.SpellsCalls.{LastCall, FirstCall}
use Rattle.hx_words.proofs.ItemLengthLemmas.{argument-within}
use Rattle.hx_words.proofs.OneCutLemmas.{is_list}
use Rattle.hx_words.proofs.SpellingLemmas.{either, inside-of}
use Rattle.hx_words.proofs.StepLemmas.{IsProperStep, step-proper, steps_repeat}

-- what a step says of the text that it is a step of
abbrev pub IsFirstCall : Option ℕ → List ℕ → Step → Type 0
IsFirstCall stop text (Last call rest) = BeginsWithLast stop text call rest
IsFirstCall stop text (More call rest) = BeginsWithCall stop text call rest
IsFirstCall stop text (Faulty name fault) = Unit {0}

any-cons : (p : ℕ → Bool) (x : ℕ) (xs : List ℕ) (k : ℕ) (b : Bool) → p x ≡ b
    → list_any p (take k xs) ≡ false
    → list_any p (take (if not b then 1 + k else 0) (x ∷ xs)) ≡ false
any-cons p x xs k true is rest = refl
any-cons p x xs k false is rest =
    let more : 1 + k ≡ suc k = omega arith in
    ap (λ (n : ℕ). list_any p (take n (x ∷ xs))) more
    ∙ ap (λ (c : Bool). c || list_any p (take k xs)) is ∙ rest

none-before : (p : ℕ → Bool) (xs : List ℕ)
    → list_any p (take (prefix_len (λ b. not (p b)) xs) xs) ≡ false
none-before p [] = refl
none-before p (x ∷ xs) = any-cons p x xs (prefix_len (λ b. not (p b)) xs)
    (p x) refl (none-before p xs)

at-stop : (stop : Option ℕ) (b : ℕ) (bs : List ℕ) (call : CallForm) (text : List ℕ)
    → SpellsCall stop call text → is_given stop b ≡ true
    → BeginsWithLast stop (text ++ b ∷ bs) call bs
at-stop None b bs call text spelled is = cc
at-stop (Some stop) b bs call text spelled is =
    (text, spelled, ap (λ (c : ℕ). text ++ c ∷ bs) (eqb-true b stop is), λ none. cc)

after-call : (stop : Option ℕ) (call : CallForm) (text rest : List ℕ) → SpellsCall stop call text
    → IsFirstCall stop (text ++ rest) (step_after_call stop call rest)
after-call None call text [] spelled = (text, spelled, refl, λ none. refl)
after-call (Some stop) call text [] spelled = tt
after-call stop call text (b ∷ bs) spelled =
    let P : Step → Type 0 = IsFirstCall stop (text ++ b ∷ bs) in
    either P (is_given stop b) _ _ (λ t. at-stop stop b bs call text spelled t) (λ f.
    either P (b == ascii ",") _ _ (λ t.
    let is = eqb-true b (ascii ",") t in
    (text, spelled, ap (λ (c : ℕ). text ++ c ∷ bs) is, ap (is_given stop) (sym is) ∙ f)) (λ g. tt))

arguments-are : (bs : List ℕ)
    → AreTextItems argument_item arguments_end Outside bs (argument_items bs)
arguments-are bs = is_list argument_item arguments_end argument-within bs Outside 0 (omega arith)

after-arguments : (stop : Option ℕ) (name bs : List ℕ) → list_any (ends_name stop) name ≡ false
    → is_given stop (ascii "(") ≡ false → (ending : ArgumentsEnd)
    → (argument_items bs).ending ≡ ending
    → IsFirstCall stop (name ++ ascii "(" ∷ bs)
    (step_after_arguments stop name (arguments (argument_items bs).items) ending)
after-arguments stop name bs plain opens (AtFault fault) is = tt
after-arguments stop name bs plain opens (AtParenthesis rest) is =
    let inside = inside-of Outside bs rest (argument_items bs) (arguments-are bs) is in
    let args = arguments (argument_items bs).items in
    let call : CallForm = record { name = name; args = args } in
    let text = name ++ (ascii "(" ∷ (inside.inside ++ ascii ")" ∷ [])) in
    let spelled : SpellsCall stop call text =
    WithArguments name args inside.inside plain opens inside.called in
    let whole : text ++ rest ≡ name ++ ascii "(" ∷ bs =
    append_assoc name (ascii "(" ∷ (inside.inside ++ ascii ")" ∷ [])) rest
    ∙ ap (λ (r : List ℕ). name ++ ascii "(" ∷ r)
    (append_assoc inside.inside (ascii ")" ∷ []) rest ∙ sym inside.whole) in
    subst (λ (t : List ℕ). IsFirstCall stop t (step_after_call stop call rest)) whole
    (after-call stop call text rest spelled)

and-both : (x y : Bool) → (x && y) ≡ true → (x ≡ true) × (y ≡ true)
and-both true y is = (refl, is)
and-both false y is = cc

not-true : (x : Bool) → not x ≡ true → x ≡ false
not-true true is = cc
not-true false is = refl

after-name : (stop : Option ℕ) (name rest : List ℕ) → list_any (ends_name stop) name ≡ false
    → IsFirstCall stop (name ++ rest) (step_after_name stop name rest)
after-name stop name [] plain =
    after-call stop (record { name = name; args = [] }) name [] (NameAlone name plain)
after-name stop name (b ∷ bs) plain =
    let P : Step → Type 0 = IsFirstCall stop (name ++ b ∷ bs) in
    either P (b == ascii "(" && not (is_given stop b)) _ _
    (λ t.
    let both = and-both (b == ascii "(") (not (is_given stop b)) t in
    let is = eqb-true b (ascii "(") both.0 in
    let opens : is_given stop (ascii "(") ≡ false = ap (is_given stop) (sym is)
    ∙ not-true (is_given stop b) both.1 in
    subst (λ (c : ℕ). IsFirstCall stop (name ++ c ∷ bs) (step_with_arguments stop name bs)) (sym is)
    (after-arguments stop name bs plain opens (argument_items bs).ending refl))
    (λ f. after-call stop (record { name = name; args = [] }) name (b ∷ bs) (NameAlone name plain))

pub first_call : (stop : Option ℕ) (text : List ℕ) → IsFirstCall stop text (step_of stop text)
unfolding step_of
first_call stop text =
    let n = call_name_length stop text in
    subst (λ (t : List ℕ). IsFirstCall stop t (step_after_name stop (take n text) (drop n text)))
    (take-append-drop n text)
    (after-name stop (take n text) (drop n text) (none-before (ends_name stop) text))

pub last_spelled : (stop : Option ℕ) (text : List ℕ) (call : CallForm) (rest : List ℕ)
    → step_of stop text ≡ Last call rest → BeginsWithLast stop text call rest
last_spelled stop text call rest is =
    let P : Step → Type 0 = IsFirstCall stop text in subst P is (first_call stop text)

pub more_spelled : (stop : Option ℕ) (text : List ℕ) (call : CallForm) (rest : List ℕ)
    → step_of stop text ≡ More call rest → BeginsWithCall stop text call rest
more_spelled stop text call rest is =
    let P : Step → Type 0 = IsFirstCall stop text in subst P is (first_call stop text)

-- these calls are a prefix of the text, and this is the rest
record SpellsPrefix (stop : Option ℕ) (text : List ℕ) (calls : List CallForm)
    (rest : List ℕ) : Type 0 where
  prefix : List ℕ
  whole : text ≡ prefix ++ rest
  spelled : SpellsCalls stop calls prefix
  to_end : stop ≡ None → rest ≡ []

abbrev found_of : CallsAndRest → List CallForm × List ℕ
found_of (Ok found) = found
found_of (Err fault) = ([], [])

last-prefix : (stop : Option ℕ) (text : List ℕ) (call : CallForm) (rest : List ℕ)
    → BeginsWithLast stop text call rest → SpellsPrefix stop text (call ∷ []) rest
last-prefix stop text call rest (prefix, spelled, whole, to_end) = record {
  prefix = prefix ++ option_to_list stop;
  whole = whole ∙ sym (append_assoc prefix (option_to_list stop) rest);
  spelled = LastCall call prefix spelled;
  to_end = to_end;
}

more-prefix : (stop : Option ℕ) (text : List ℕ) (call : CallForm) (left : List ℕ)
    (calls : List CallForm) (rest : List ℕ)
    → BeginsWithCall stop text call left → SpellsPrefix stop left calls rest
    → SpellsPrefix stop text (call ∷ calls) rest
more-prefix stop text call left calls rest (prefix, spelled, whole, no_stop) later = record {
  prefix = prefix ++ ascii "," ∷ later.prefix;
  whole = whole ∙ ap (λ (r : List ℕ). prefix ++ ascii "," ∷ r) later.whole
      ∙ sym (append_assoc prefix (ascii "," ∷ later.prefix) rest);
  spelled = FirstCall call calls prefix later.prefix spelled no_stop later.spelled;
  to_end = later.to_end;
}

-- what is known of shorter texts
abbrev Shorter : Option ℕ → List ℕ → Type 0
Shorter stop text = (left : List ℕ) (calls : List CallForm) (rest : List ℕ)
    → length left < length text → calls_of_steps (steps_of stop left) ≡ Ok (calls, rest)
    → SpellsPrefix stop left calls rest

by-rest : (stop : Option ℕ) (text : List ℕ) (call : CallForm) (left : List ℕ)
    (calls : List CallForm) (rest : List ℕ) → Shorter stop text → BeginsWithCall stop text call left
    → length left < length text → (found : CallsAndRest)
    → calls_of_steps (steps_of stop left) ≡ found → longer_calls call found ≡ Ok (calls, rest)
    → SpellsPrefix stop text calls rest
by-rest stop text call left calls rest shorter begins less (Err fault) same is = cc
by-rest stop text call left calls rest shorter begins less (Ok found) same is =
    subst (λ (p : List CallForm × List ℕ). SpellsPrefix stop text p.0 p.1) (ap found_of is)
    (more-prefix stop text call left found.0 found.1 begins
    (shorter left found.0 found.1 less same))

by-step : (stop : Option ℕ) (text : List ℕ) (calls : List CallForm) (rest : List ℕ)
    → Shorter stop text → (step : Step) → IsFirstCall stop text step
    → IsProperStep (length text) step
    → calls_of_steps (step ∷ further_steps (steps_of stop) step) ≡ Ok (calls, rest)
    → SpellsPrefix stop text calls rest
by-step stop text calls rest shorter (Last call left) begins proper is =
    subst (λ (p : List CallForm × List ℕ). SpellsPrefix stop text p.0 p.1) (ap found_of is)
    (last-prefix stop text call left begins)
by-step stop text calls rest shorter (More call left) begins proper is =
    by-rest stop text call left calls rest shorter begins proper
    (calls_of_steps (steps_of stop left)) refl is
by-step stop text calls rest shorter (Faulty name fault) begins proper is = cc

spells-prefix : (n : ℕ) (stop : Option ℕ) (text : List ℕ) (calls : List CallForm) (rest : List ℕ)
    → length text ≤ n → calls_of_steps (steps_of stop text) ≡ Ok (calls, rest)
    → SpellsPrefix stop text calls rest
spells-prefix zero stop text calls rest small is =
    by-step stop text calls rest (λ left cs r less found. absurd (omega arith)) (step_of stop text)
    (first_call stop text) (step-proper stop text)
    (sym (ap calls_of_steps (steps_repeat stop text)) ∙ is)
spells-prefix (suc n) stop text calls rest small is =
    by-step stop text calls rest
    (λ left cs r less found. spells-prefix n stop left cs r (omega arith) found) (step_of stop text)
    (first_call stop text) (step-proper stop text)
    (sym (ap calls_of_steps (steps_repeat stop text)) ∙ is)

abbrev list_of : Result CallList ArgFault → CallList
list_of (Ok list) = list
list_of (Err fault) = record { calls = []; used = 0 }

by-found : (stop : Option ℕ) (text : List ℕ) (list : CallList) (found : CallsAndRest)
    → calls_of_steps (steps_of stop text) ≡ found → call_list text found ≡ Ok list
    → BeginsWithCalls stop text list
by-found stop text list (Err fault) same is = cc
by-found stop text list (Ok found) same is =
    let spells = spells-prefix (length text) stop text found.0 found.1 (omega arith) same in
    subst (λ (l : CallList). BeginsWithCalls stop text l) (ap list_of is) (record {
      prefix = spells.prefix;
      rest = found.1;
      whole = spells.whole;
      used = omega (arith, ap length spells.whole ∙ length-append spells.prefix found.1);
      spelled = spells.spelled;
      to_end = spells.to_end;
    })

pub calls_spelled : (stop : Option ℕ) (text : List ℕ) (list : CallList)
    → calls_of stop text ≡ Ok list → BeginsWithCalls stop text list
unfolding calls_of
calls_spelled stop text list is =
    by-found stop text list (calls_of_steps (steps_of stop text)) refl is
