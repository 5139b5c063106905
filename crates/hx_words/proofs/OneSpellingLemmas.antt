-- A text that calls spell is read as these calls.
use Rattle.std.proofs.Common.{◌≡◌, ℕ, ◌+◌, ◌-◌, ◌==◌, ◌&&◌, ◌||◌, not, Bool, true, false, if◌then◌else◌, List, [], ◌∷◌, ◌++◌, map, length, take, drop, Option, Some, None, Ok, refl, sym, ap, ◌∙◌, subst, arith, append_assoc, length-append}
use Rattle.std.proofs.Math.Seq.{take-append_seam, drop-append_seam}
use Rattle.std.specs.Prelude.{is_none, option_to_list}
use Rattle.std.specs.List.{slice_split, onto_first, list_any, prefix_len}
use Rattle.hx_base.specs.Bytes.{ascii, is_given}
use Rattle.hx_words.specs.declared.fault.ArgFault.TheVariants.{AfterClose}
use Rattle.hx_words.specs.TextItems.{QuoteState, TextItems, no_items, longer_items, AreTextItems}
use Rattle.hx_words.specs.TextItems.AreTextItems.{FirstGap, FirstPart, FirstNone}
use Rattle.hx_words.specs.TextItems.TextItem.{Gap, NoItem}
use Rattle.hx_words.specs.TextItems.QuoteState.{Outside}
use Rattle.hx_words.specs.Words.{joint_value}
use Rattle.hx_words.specs.CallForm.{CallForm, CallList}
use Rattle.hx_words.specs.Arguments.{ArgumentsEnd, argument_item, arguments_end, argument_items, arguments}
use Rattle.hx_words.specs.Arguments.ArgumentsEnd.{AtParenthesis}
use Rattle.hx_words.specs.Calls.{ends_name, step_after_call, step_after_arguments, step_with_arguments, step_after_name, step_of, steps_of, calls_of_steps, longer_calls, call_list, calls_of}
use Rattle.hx_words.specs.Calls.Step.{Last, More, Faulty}
use Rattle.hx_words.specs.Spelling.{SpellsArguments, SpellsInside, SpellsCall, SpellsCalls, BeginsWithCalls, BeginsWithLast, BeginsWithCall}
use Rattle.hx_words.specs.Spelling.SpellsArguments.{LastArgument, NextArgument, PartOfArgument}
use Rattle.hx_words.specs.Spelling.SpellsCall.{NameAlone, WithArguments}
use Rattle.hx_words.specs.Spelling.SpellsCalls.{LastCall, FirstCall}
use Rattle.hx_words.proofs.CallLemmas.{calls_of_steps-by}
use Rattle.hx_words.proofs.OneCutLemmas.{one_list}
use Rattle.hx_words.proofs.SpellingLemmas.{split_values}

-- where a text isn't empty, its items are these arguments
abbrev AreCalled : List ℕ → List (List ℕ) → List (Option (List ℕ)) → Type 0
AreCalled [] args items = Unit {0}
AreCalled (b ∷ bs) args items = arguments items ≡ args

-- how a text that spells arguments is read, where `)` and a rest follow it
record Reads (state : QuoteState) (args : List (List ℕ)) (text rest : List ℕ) : Type 0 where
  list : TextItems ArgumentsEnd
  are : AreTextItems argument_item arguments_end state (text ++ ascii ")" ∷ rest) list
  ending : list.ending ≡ AtParenthesis rest
  values : split_values list.items ≡ args
  called : AreCalled text args list.items

at-close : (rest : List ℕ)
    → argument_item Outside (ascii ")") rest ≡ NoItem (AtParenthesis rest)
unfolding argument_item
at-close rest = refl

at-comma : (rest : List ℕ) → argument_item Outside (ascii ",") rest ≡ Gap 0
unfolding argument_item
at-comma rest = refl

abbrev onto_value : List ℕ → List (List ℕ) → List (List ℕ)
onto_value value [] = []
onto_value value (arg ∷ args) = (value ++ arg) ∷ args

onto-first : (value arg : List ℕ) (args : List (List ℕ)) (parts : List (List (Option (List ℕ))))
    → map joint_value parts ≡ arg ∷ args
    → map joint_value (onto_first (Some value) parts) ≡ (value ++ arg) ∷ args
onto-first value arg args [] is = cc
onto-first value arg args (part ∷ parts) is = ap (onto_value value) is

reads : (state : QuoteState) (args : List (List ℕ)) (text : List ℕ)
    → SpellsArguments state args text → (rest : List ℕ) → Reads state args text rest
reads _ _ _ LastArgument rest = record {
  list = no_items (AtParenthesis rest);
  are = FirstNone Outside (ascii ")") rest (AtParenthesis rest) (at-close rest);
  ending = refl;
  values = refl;
  called = tt;
}
reads _ _ _ (NextArgument args text spelled) rest =
    let later = reads Outside args text spelled rest in
    let values : split_values (None ∷ later.list.items) ≡ [] ∷ args =
    ap (λ (a : List (List ℕ)). [] ∷ a) later.values in
    record {
      list = longer_items None later.list;
      are = FirstGap Outside (ascii ",") [] (text ++ ascii ")" ∷ rest) later.list
          (at-comma (text ++ ascii ")" ∷ rest)) later.are;
      ending = later.ending;
      values = values;
      called = values;
    }
reads _ _ _ (PartOfArgument state after b bs value arg args text is spelled) rest =
    let later = reads after (arg ∷ args) text spelled rest in
    let tail = text ++ ascii ")" ∷ rest in
    let list = longer_items (Some value) later.list in
    let whole : b ∷ (bs ++ tail) ≡ b ∷ (bs ++ text ++ ascii ")" ∷ rest) =
    ap (λ (r : List ℕ). b ∷ r) (sym (append_assoc bs text (ascii ")" ∷ rest))) in
    let values : split_values (Some value ∷ later.list.items) ≡ (value ++ arg) ∷ args =
    onto-first value arg args (slice_split is_none later.list.items) later.values in
    record {
      list = list;
      are = subst (λ (t : List ℕ). AreTextItems argument_item arguments_end state t list) whole
          (FirstPart state after b bs tail value later.list (is tail) later.are);
      ending = later.ending;
      values = values;
      called = values;
    }

-- what is read after `(`: these arguments, up to `)`
abbrev ReadsInside : List (List ℕ) → List ℕ → List ℕ → Type 0
ReadsInside args text rest =
    let list = argument_items (text ++ ascii ")" ∷ rest) in
    (arguments list.items ≡ args) × (list.ending ≡ AtParenthesis rest)

inside-by : (args : List (List ℕ)) (text rest : List ℕ) (list : TextItems ArgumentsEnd)
    → AreTextItems argument_item arguments_end Outside (text ++ ascii ")" ∷ rest) list
    → arguments list.items ≡ args → list.ending ≡ AtParenthesis rest → ReadsInside args text rest
inside-by args text rest list are called ending =
    let one : list ≡ argument_items (text ++ ascii ")" ∷ rest) =
    one_list argument_item arguments_end Outside (text ++ ascii ")" ∷ rest) list are in (
      ap (λ (l : TextItems ArgumentsEnd). arguments l.items) (sym one) ∙ called,
      ap (λ (l : TextItems ArgumentsEnd). l.ending) (sym one) ∙ ending,
    )

reads-inside : (args : List (List ℕ)) (text rest : List ℕ) → SpellsInside Outside args text
    → ReadsInside args text rest
reads-inside args [] rest is =
    inside-by args [] rest (no_items (AtParenthesis rest))
    (FirstNone Outside (ascii ")") rest (AtParenthesis rest) (at-close rest)) (sym is) refl
reads-inside args (b ∷ bs) rest spelled =
    let all = reads Outside args (b ∷ bs) spelled rest in
    inside-by args (b ∷ bs) rest all.list all.are all.called all.ending

or-true : (x : Bool) → (x || true) ≡ true
or-true true = refl
or-true false = refl

and-false : (x : Bool) → (x && false) ≡ false
and-false true = refl
and-false false = refl

cons-nil : (b : ℕ) (bs : List ℕ) → b ∷ bs ≡ [] → ⊥
cons-nil b bs is = cc

-- what stands after a name ends it
abbrev EndsName : (ℕ → Bool) → List ℕ → Type 0
EndsName p [] = Unit {0}
EndsName p (b ∷ bs) = p b ≡ true

or-both : (x y : Bool) → (x || y) ≡ false → (x ≡ false) × (y ≡ false)
or-both true y is = cc
or-both false y is = (refl, is)

name-length : (p : ℕ → Bool) (name rest : List ℕ) → list_any p name ≡ false → EndsName p rest
    → prefix_len (λ b. not (p b)) (name ++ rest) ≡ length name
name-length p [] [] plain ends = refl
name-length p [] (b ∷ bs) plain ends =
    ap (λ (c : Bool). if not c then 1 + prefix_len (λ b. not (p b)) bs else 0) ends
name-length p (x ∷ name) rest plain ends =
    let both = or-both (p x) (list_any p name) plain in
    let later = name-length p name rest both.1 ends in
    ap (λ (c : Bool). if not c then 1 + prefix_len (λ b. not (p b)) (name ++ rest) else 0) both.0
    ∙ omega (arith, later)

after-name : (stop : Option ℕ) (name rest : List ℕ) → list_any (ends_name stop) name ≡ false
    → EndsName (ends_name stop) rest → step_of stop (name ++ rest) ≡ step_after_name stop name rest
unfolding step_of
after-name stop name rest plain ends =
    let text = name ++ rest in
    ap (λ (n : ℕ). step_after_name stop (take n text) (drop n text))
    (name-length (ends_name stop) name rest plain ends)
    ∙ ap (λ (a : List ℕ). step_after_name stop a (drop (length name) text))
    (take-append_seam name rest)
    ∙ ap (λ (d : List ℕ). step_after_name stop name d) (drop-append_seam name rest)

-- what stands after a name opens no arguments
abbrev OpensNone : Option ℕ → List ℕ → Type 0
OpensNone stop [] = Unit {0}
OpensNone stop (b ∷ bs) = (b == ascii "(" && not (is_given stop b)) ≡ false

name-alone : (stop : Option ℕ) (name rest : List ℕ) → OpensNone stop rest
    → step_after_name stop name rest
    ≡ step_after_call stop (record { name = name; args = [] }) rest
name-alone stop name [] none = refl
name-alone stop name (b ∷ bs) none =
    ap (λ (c : Bool). if c then step_with_arguments stop name bs else step_after_call stop
    (record { name = name; args = [] }) (b ∷ bs)) none

opened : (stop : Option ℕ) (name bs : List ℕ) → is_given stop (ascii "(") ≡ false
    → step_after_name stop name (ascii "(" ∷ bs) ≡ step_with_arguments stop name bs
opened stop name bs opens =
    ap (λ (c : Bool). if not c then step_with_arguments stop name bs else step_after_call stop
    (record { name = name; args = [] }) (ascii "(" ∷ bs)) opens

opens-name : (stop : Option ℕ) → ends_name stop (ascii "(") ≡ true
opens-name stop = ap (λ (c : Bool). c || false) (or-true (is_given stop (ascii "(")))

comma-ends : (stop : Option ℕ) → ends_name stop (ascii ",") ≡ true
comma-ends stop = or-true (is_given stop (ascii ",") || false)

-- a call, and what may follow it
by-call : (stop : Option ℕ) (call : CallForm) (text rest : List ℕ) → SpellsCall stop call text
    → EndsName (ends_name stop) rest → OpensNone stop rest
    → step_of stop (text ++ rest) ≡ step_after_call stop call rest
by-call stop _ _ rest (NameAlone name plain) ends none =
    after-name stop name rest plain ends ∙ name-alone stop name rest none
by-call stop _ _ rest (WithArguments name args text plain opens spelled) ends none =
    let tail = text ++ ascii ")" ∷ rest in
    let read = reads-inside args text rest spelled in
    let whole : (name ++ (ascii "(" ∷
    (text ++ ascii ")" ∷ []))) ++ rest ≡ name ++ ascii "(" ∷ tail =
    append_assoc name (ascii "(" ∷ (text ++ ascii ")" ∷ [])) rest
    ∙ ap (λ (r : List ℕ). name ++ ascii "(" ∷ r)
    (append_assoc text (ascii ")" ∷ []) rest) in
    ap (step_of stop) whole
    ∙ after-name stop name (ascii "(" ∷ tail) plain (opens-name stop)
    ∙ opened stop name tail opens
    ∙ ap (λ (a : List (List ℕ)). step_after_arguments stop name a
    (argument_items tail).ending) read.0
    ∙ ap (step_after_arguments stop name args) read.1

same-byte : (b : ℕ) → (b == b) ≡ true
same-byte b = grind arith

last-ends : (stop : Option ℕ) (rest : List ℕ) → (stop ≡ None → rest ≡ [])
    → EndsName (ends_name stop) (option_to_list stop ++ rest)
last-ends None [] to_end = tt
last-ends None (b ∷ bs) to_end = absurd (cons-nil b bs (to_end refl))
last-ends (Some stop) rest to_end =
    ap (λ (c : Bool). c || stop == ascii "(" || stop == ascii ",") (same-byte stop)

last-opens-none : (stop : Option ℕ) (rest : List ℕ) → (stop ≡ None → rest ≡ [])
    → OpensNone stop (option_to_list stop ++ rest)
last-opens-none None [] to_end = tt
last-opens-none None (b ∷ bs) to_end = absurd (cons-nil b bs (to_end refl))
last-opens-none (Some stop) rest to_end =
    ap (λ (c : Bool). stop == ascii "(" && not c) (same-byte stop)
    ∙ and-false (stop == ascii "(")

last-step : (stop : Option ℕ) (call : CallForm) (rest : List ℕ) → (stop ≡ None → rest ≡ [])
    → step_after_call stop call (option_to_list stop ++ rest) ≡ Last call rest
last-step None call [] to_end = refl
last-step None call (b ∷ bs) to_end = absurd (cons-nil b bs (to_end refl))
last-step (Some stop) call rest to_end =
    ap (λ (c : Bool). if c then Last call rest else
    (if stop == ascii "," then More call rest else Faulty call.name AfterClose)) (same-byte stop)

pub last_only : (stop : Option ℕ) (text : List ℕ) (call : CallForm) (rest : List ℕ)
    → BeginsWithLast stop text call rest → step_of stop text ≡ Last call rest
last_only stop text call rest (prefix, spelled, whole, to_end) =
    ap (step_of stop) whole
    ∙ by-call stop call prefix (option_to_list stop ++ rest) spelled (last-ends stop rest to_end)
    (last-opens-none stop rest to_end)
    ∙ last-step stop call rest to_end

more-step : (stop : Option ℕ) (call : CallForm) (rest : List ℕ) → is_given stop (ascii ",") ≡ false
    → step_after_call stop call (ascii "," ∷ rest) ≡ More call rest
more-step stop call rest no_stop =
    ap (λ (c : Bool). if c then Last call rest else More call rest) no_stop

pub more_only : (stop : Option ℕ) (text : List ℕ) (call : CallForm) (rest : List ℕ)
    → BeginsWithCall stop text call rest → step_of stop text ≡ More call rest
more_only stop text call rest (prefix, spelled, whole, no_stop) =
    ap (step_of stop) whole
    ∙ by-call stop call prefix (ascii "," ∷ rest) spelled (comma-ends stop) refl
    ∙ more-step stop call rest no_stop

by-spelling : (stop : Option ℕ) (calls : List CallForm) (text : List ℕ)
    → SpellsCalls stop calls text → (rest : List ℕ) → (stop ≡ None → rest ≡ [])
    → calls_of_steps (steps_of stop (text ++ rest)) ≡ Ok (calls, rest)
by-spelling stop _ _ (LastCall call text spelled) rest to_end =
    calls_of_steps-by stop (text ++ option_to_list stop ++ rest) (Last call rest)
    (sym (last_only stop (text ++ option_to_list stop ++ rest) call rest
    (text, spelled, append_assoc text (option_to_list stop) rest, to_end)))
by-spelling stop _ _ (FirstCall call calls text later spelled no_stop follows) rest to_end =
    calls_of_steps-by stop ((text ++ ascii "," ∷ later) ++ rest) (More call (later ++ rest))
    (sym (more_only stop ((text ++ ascii "," ∷ later) ++ rest) call (later ++ rest)
    (text, spelled, append_assoc text (ascii "," ∷ later) rest, no_stop)))
    ∙ ap (longer_calls call) (by-spelling stop calls later follows rest to_end)

pub calls_only : (stop : Option ℕ) (text : List ℕ) (list : CallList)
    → BeginsWithCalls stop text list → calls_of stop text ≡ Ok list
unfolding calls_of
calls_only stop text list begins =
    let used : length text - length begins.rest ≡ list.used =
    omega (arith, ap length begins.whole ∙ length-append begins.prefix begins.rest, begins.used) in
    ap (λ (t : List ℕ). call_list text (calls_of_steps (steps_of stop t))) begins.whole
    ∙ ap (call_list text)
    (by-spelling stop list.calls begins.prefix begins.spelled begins.rest begins.to_end)
    ∙ ap (λ (u : ℕ). Ok (record { calls = list.calls; used = u })) used
