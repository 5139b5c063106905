-- A text of calls: one or more calls with commas between, as `req.hdr(host),lower`. A call is a
-- name, or a name with arguments in parentheses. The text is read up to its end, or up to a stop
-- byte outside parentheses, which then has to be there. The relation between calls and their texts
-- is `SpellsCalls` of `Spelling`, to be read first; here the same stands as functions, with what is
-- wrong with any other text.
use Rattle.std.specs.Prelude.{ℕ, zero, suc, ◌-◌, Bool, not, ◌==◌, ◌&&◌, ◌||◌, if◌then◌else◌, List, [], ◌∷◌, length, take, drop, Option, Some, None, Result, Ok, Err}
use Rattle.std.specs.List.{prefix_len}
use Rattle.hx_base.specs.Bytes.{ascii, is_given}
use Rattle.hx_words.specs.declared.fault.ArgFault.{ArgFault}
use Rattle.hx_words.specs.declared.fault.ArgFault.TheVariants.{Unclosed, AfterClose}
use Rattle.hx_words.specs.CallForm.{CallForm, CallList}
use Rattle.hx_words.specs.Arguments.{ArgumentsEnd, argument_items, arguments}
use Rattle.hx_words.specs.Arguments.ArgumentsEnd.{AtParenthesis, AtFault}

-- what a text of calls begins with
pub data Step : Type 0 where
  -- the last call, and what follows the stop byte, if there is one
  Last : (call : CallForm) (rest : List ℕ) → Step
  -- a call with a comma after it, and what follows the comma
  More : (call : CallForm) (rest : List ℕ) → Step
  -- a call of this name, and what is wrong after the name
  Faulty : (name : List ℕ) (fault : ArgFault) → Step

-- the stop byte, `(` and a comma end a name
abbrev pub ends_name : Option ℕ → ℕ → Bool
ends_name stop b = is_given stop b || b == ascii "(" || b == ascii ","

abbrev pub step_at_end : Option ℕ → CallForm → Step
step_at_end None call = Last call []
step_at_end (Some stop) call = Faulty call.name Unclosed

-- a whole call with these bytes after it. A stop byte that is a comma stops
abbrev pub step_after_call : Option ℕ → CallForm → List ℕ → Step
step_after_call stop call [] = step_at_end stop call
step_after_call stop call (b ∷ bs) =
    if is_given stop b then Last call bs else
    (if b == ascii "," then More call bs else Faulty call.name AfterClose)

abbrev pub step_after_arguments : Option ℕ → List ℕ → List (List ℕ) → ArgumentsEnd → Step
step_after_arguments stop name args (AtParenthesis rest) =
    step_after_call stop (record { name = name; args = args }) rest
step_after_arguments stop name args (AtFault fault) = Faulty name fault

-- a name with `(` after it, and these bytes after that
abbrev pub step_with_arguments : Option ℕ → List ℕ → List ℕ → Step
step_with_arguments stop name bs =
    let items = argument_items bs in
    step_after_arguments stop name (arguments items.items) items.ending

-- a name with these bytes after it
abbrev pub step_after_name : Option ℕ → List ℕ → List ℕ → Step
step_after_name stop name [] = step_after_call stop (record { name = name; args = [] }) []
step_after_name stop name (b ∷ bs) =
    if b == ascii "(" && not (is_given stop b) then step_with_arguments stop name bs else
    step_after_call stop (record { name = name; args = [] }) (b ∷ bs)

abbrev pub call_name_length : Option ℕ → List ℕ → ℕ
call_name_length stop text = prefix_len (λ b. not (ends_name stop b)) text

-- the first call of a text: a name, which may be empty, and what follows it
unfoldable pub step_of : Option ℕ → List ℕ → Step
step_of stop text =
    let n = call_name_length stop text in step_after_name stop (take n text) (drop n text)

-- what is given for the rest after a comma, and nothing where no comma follows
abbrev pub further_steps : {A : Type 0} → (List ℕ → List A) → Step → List A
further_steps steps (Last call rest) = []
further_steps steps (More call rest) = steps rest
further_steps steps (Faulty name fault) = []

-- the first call, and up to n calls after it
unfoldable pub steps_within : ℕ → Option ℕ → List ℕ → List Step
steps_within zero stop text = step_of stop text ∷ []
steps_within (suc n) stop text =
    step_of stop text ∷ further_steps (λ rest. steps_within n stop rest) (step_of stop text)

-- the calls of a text, up to the first that is last or faulty: each takes a byte of the text at
-- least, so no more than its length follow the first
unfoldable pub steps_of : Option ℕ → List ℕ → List Step
steps_of stop text = steps_within (length text) stop text

-- calls, and the bytes that are left unread after them; or a fault
abbrev pub CallsAndRest : Type 0
CallsAndRest = Result (List CallForm × List ℕ) ArgFault

abbrev pub longer_calls : CallForm → CallsAndRest → CallsAndRest
longer_calls call (Ok found) = Ok (call ∷ found.0, found.1)
longer_calls call (Err fault) = Err fault

-- the calls of these steps and what is left unread, or the fault of the faulty step
abbrev pub calls_of_steps : List Step → CallsAndRest
calls_of_steps [] = Ok ([], [])
calls_of_steps (Last call rest ∷ steps) = Ok (call ∷ [], rest)
calls_of_steps (More call rest ∷ steps) = longer_calls call (calls_of_steps steps)
calls_of_steps (Faulty name fault ∷ steps) = Err fault

abbrev pub call_list : List ℕ → CallsAndRest → Result CallList ArgFault
call_list text (Ok found) =
    Ok (record { calls = found.0; used = length text - length found.1 })
call_list text (Err fault) = Err fault

-- the calls of a text, and how many bytes were read, the stop byte among them; or its fault: that
-- of the first call that has one
unfoldable pub calls_of : Option ℕ → List ℕ → Result CallList ArgFault
calls_of stop text = call_list text (calls_of_steps (steps_of stop text))
