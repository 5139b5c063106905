-- The replacement of the values of a head, line by line.
use Rattle.std.proofs.Common.{◌≡◌, ℕ, ◌+◌, ◌≤◌, suc, zero, Bool, true, false, List, [], ◌∷◌, Some, None, Ok, Err, Result, cond, length, drop, map, refl, ap, sym, ◌∙◌, inl, inr, arith, add-one}
use Rattle.std.proofs.lemmas.Bool.{cases_Bool}
use Rattle.std.proofs.lemmas.List.{length-set}
use Rattle.std.specs.Prelude.{IfErr, OnOk, Option, slice_get, slice_set, ◌||◌}
use Rattle.std.specs.List.{list_any}
use Rattle.std.specs.Option.{option_map_or}
use Rattle.hx_base.specs.Bytes.{is_bad_value_byte}
use Rattle.hx_http.specs.declared.fault.EditFault.{EditFault}
use Rattle.hx_http.specs.declared.fault.EditFault.TheVariants.{BadBytes, TooMany, NoPath, NoMemory}
use Rattle.hx_http.specs.Edits.{has_name, MayFail, value_fault, with_value}
use Rattle.hx_http.specs.Parts.{Parts}
use Rattle.hx_rules.specs.ReplacingView.{map_from, replacing_from, IsNewValue}
use Rattle.hx_rules.specs.Rewrites.{Edit, is_badly_replaced, line_after, Replacement}

-- ---- lists

-- past the end nothing is changed
map_from_past : {A : Type 0} (f : A → A) (xs : List A) (k : ℕ) → length xs ≤ k → map_from k f xs ≡ xs
map_from_past f [] zero h = refl
map_from_past f [] (suc k) h = refl
map_from_past f (x ∷ xs) zero h = absurd (omega arith)
map_from_past f (x ∷ xs) (suc k) h = ap (λ rest. x ∷ rest) (map_from_past f xs k (omega arith))

drop_past : {A : Type 0} (xs : List A) (k : ℕ) → length xs ≤ k → drop k xs ≡ []
drop_past [] zero h = refl
drop_past [] (suc k) h = refl
drop_past (x ∷ xs) zero h = absurd (omega arith)
drop_past (x ∷ xs) (suc k) h = drop_past xs k (omega arith)

-- the item at a position is changed, and then those after it
map_from_after : {A : Type 0} (f : A → A) (xs : List A) (k : ℕ) (x y : A) → slice_get xs k ≡ Some x → y ≡ f x
    → map_from (suc k) f (slice_set xs k y) ≡ map_from k f xs
map_from_after f [] k x y at new = cc
map_from_after f (z ∷ xs) zero x y at new = let same : z ≡ x = cc in ap (λ w. w ∷ map f xs) (new ∙ ap f (sym same))
map_from_after f (z ∷ xs) (suc k) x y at new = ap (λ rest. z ∷ rest) (map_from_after f xs k x y at new)

-- an item that is no hit is passed over
any_after : {A : Type 0} (test : A → Bool) (xs : List A) (k : ℕ) (x y : A) → slice_get xs k ≡ Some x → test x ≡ false
    → list_any test (drop (suc k) (slice_set xs k y)) ≡ list_any test (drop k xs)
any_after test [] k x y at not_hit = cc
any_after test (z ∷ xs) zero x y at not_hit =
    let same : z ≡ x = cc in
    sym (ap (λ is. is || list_any test xs) (ap test same ∙ not_hit))
any_after test (z ∷ xs) (suc k) x y at not_hit = any_after test xs k x y at not_hit

pub any_here : {A : Type 0} (test : A → Bool) (xs : List A) (k : ℕ) (x : A) → slice_get xs k ≡ Some x → test x ≡ true
    → list_any test (drop k xs) ≡ true
any_here test [] k x at hit = cc
any_here test (z ∷ xs) zero x at hit =
    let same : z ≡ x = cc in
    ap (λ is. is || list_any test xs) (ap test same ∙ hit)
any_here test (z ∷ xs) (suc k) x at hit = any_here test xs k x at hit

-- an item put in its own place changes nothing
set_same : {A : Type 0} (xs : List A) (k : ℕ) (x : A) → slice_get xs k ≡ Some x → slice_set xs k x ≡ xs
set_same [] k x at = refl
set_same (z ∷ xs) zero x at = cc
set_same (z ∷ xs) (suc k) x at = ap (λ rest. z ∷ rest) (set_same xs k x at)

-- an item that is no hit is passed over, and it stays
pub any_passed : {A : Type 0} (test : A → Bool) (xs : List A) (k : ℕ) (x : A) → slice_get xs k ≡ Some x → test x ≡ false
    → list_any test (drop (k + 1) xs) ≡ list_any test (drop k xs)
any_passed test xs k x at not_hit =
    rw add-one
    (ap (λ ys. list_any test (drop (suc k) ys)) (sym (set_same xs k x at)) ∙ any_after test xs k x x at not_hit)

-- ---- heads

abbrev edit_with : (List ℕ × List ℕ → List ℕ × List ℕ) → Parts → Bool → List (List ℕ × List ℕ) → Edit
edit_with f head bad lines =
    record { fault = cond bad (Some BadBytes) None; head = record head { headers = lines } }

-- a line that isn't badly replaced is replaced, and then those after it
line_replaced : (name : List ℕ) (replacement : Replacement) (head : Parts) (at : ℕ) (line new : List ℕ × List ℕ)
    → slice_get head.headers at ≡ Some line → new ≡ line_after name replacement line
    → is_badly_replaced name replacement line ≡ false
    → replacing_from (at + 1) name replacement (record head { headers = slice_set head.headers at new })
    ≡ replacing_from at name replacement head
line_replaced name replacement head at line new is_at is_new is_good =
    rw add-one
    (ap (λ bad. edit_with (line_after name replacement) head bad (map_from (suc at) (line_after name replacement) (slice_set head.headers at new)))
    (any_after (is_badly_replaced name replacement) head.headers at line new is_at is_good)
    ∙ ap (λ lines. edit_with (line_after name replacement) head (list_any (is_badly_replaced name replacement) (drop at head.headers)) lines)
    (map_from_after (line_after name replacement) head.headers at line new is_at is_new))

-- a line that stays is passed over
pub line_kept : (name : List ℕ) (replacement : Replacement) (head : Parts) (at : ℕ) (line : List ℕ × List ℕ)
    → slice_get head.headers at ≡ Some line → line ≡ line_after name replacement line
    → is_badly_replaced name replacement line ≡ false
    → replacing_from (at + 1) name replacement head ≡ replacing_from at name replacement head
line_kept name replacement head at line is_at stays is_good =
    ap (λ lines. replacing_from (at + 1) name replacement (record head { headers = lines })) (sym (set_same head.headers at line is_at))
    ∙ line_replaced name replacement head at line line is_at stays is_good

-- after the last line all is done
pub all_replaced : (name : List ℕ) (replacement : Replacement) (head : Parts) (at : ℕ) → length head.headers ≤ at
    → replacing_from at name replacement head ≡ record { fault = None; head = head }
all_replaced name replacement head at past =
    ap (λ lines. edit_with (line_after name replacement) head (list_any (is_badly_replaced name replacement) lines) (map_from at (line_after name replacement) head.headers)) (drop_past head.headers at past)
    ∙ ap (λ lines. edit_with (line_after name replacement) head false lines) (map_from_past (line_after name replacement) head.headers at past)

-- ---- a line

-- a line of another name stays
pub other_line : (name : List ℕ) (replacement : Replacement) (head : Parts) (at : ℕ) (line : List ℕ × List ℕ)
    → slice_get head.headers at ≡ Some line → has_name name line ≡ false
    → replacing_from (at + 1) name replacement head ≡ replacing_from at name replacement head
other_line name replacement head at line is_at other =
    line_kept name replacement head at line is_at (rw other refl) (rw other refl)

-- a line whose value isn't replaced stays
pub line_unchanged : (name : List ℕ) (replacement : Replacement) (head : Parts) (at : ℕ) (line : List ℕ × List ℕ)
    → slice_get head.headers at ≡ Some line → has_name name line ≡ true → replacement line.1 ≡ None
    → replacing_from (at + 1) name replacement head ≡ replacing_from at name replacement head
line_unchanged name replacement head at line is_at named none =
    line_kept name replacement head at line is_at (rw (named, none) refl) (rw (named, none) refl)

no_fault : (bad : Bool) → cond bad (Some BadBytes) None ≡ None → bad ≡ false
no_fault true h = cc
no_fault false h = refl

good_value : (value : List ℕ) → value_fault value ≡ None → list_any is_bad_value_byte value ≡ false
good_value value h = no_fault (list_any is_bad_value_byte value) h

-- a line gets its new value
pub line_changed : (name : List ℕ) (replacement : Replacement) (head : Parts) (at : ℕ) (line : List ℕ × List ℕ) (value : List ℕ)
    → slice_get head.headers at ≡ Some line → has_name name line ≡ true → replacement line.1 ≡ Some value
    → value_fault value ≡ None
    → replacing_from (at + 1) name replacement (with_value at value head) ≡ replacing_from at name replacement head
line_changed name replacement head at line value is_at named some good =
    ap (λ (got : Option (List ℕ × List ℕ)). replacing_from (at + 1) name replacement
    (record head { headers = option_map_or (λ (line : List ℕ × List ℕ). slice_set head.headers at (line.0, value)) got head.headers })) is_at
    ∙ line_replaced name replacement head at line (line.0, value) is_at (rw (named, some) refl)
    (rw (named, some) (good_value value good))

length_set_at : (lines : List (List ℕ × List ℕ)) (at : ℕ) (value : List ℕ) (got : Option (List ℕ × List ℕ))
    → length (option_map_or (λ (line : List ℕ × List ℕ). slice_set lines at (line.0, value)) got lines) ≡ length lines
length_set_at lines at value None = refl
length_set_at lines at value (Some line) = length-set lines at (line.0, value)

-- the lines stay as many
pub same_length : (head : Parts) (at : ℕ) (value : List ℕ) → length (with_value at value head).headers ≡ length head.headers
same_length head at value = length_set_at head.headers at value (slice_get head.headers at)

refused_with : (bad any : Bool) (fault : EditFault) → (bad ≡ true → any ≡ true)
    → MayFail (cond bad (Some BadBytes) None) fault → MayFail (cond any (Some BadBytes) None) fault
refused_with true any fault if_bad may = rw (if_bad refl) may
refused_with false any NoMemory if_bad may = tt
refused_with false any BadBytes if_bad may = cc
refused_with false any TooMany if_bad may = cc
refused_with false any NoPath if_bad may = cc

-- where the new value is refused, so is the whole
pub line_refused : (name : List ℕ) (replacement : Replacement) (head : Parts) (at : ℕ) (line : List ℕ × List ℕ) (value : List ℕ) (fault : EditFault)
    → slice_get head.headers at ≡ Some line → has_name name line ≡ true → replacement line.1 ≡ Some value
    → MayFail (value_fault value) fault → MayFail (replacing_from at name replacement head).fault fault
line_refused name replacement head at line value fault is_at named some may =
    refused_with (list_any is_bad_value_byte value) (list_any (is_badly_replaced name replacement) (drop at head.headers)) fault
    (λ bad. any_here (is_badly_replaced name replacement) head.headers at line is_at (rw (named, some) bad)) may

-- what the call that gives the line its value answers
pub line_changed_ok : {T : Type 0} (r : Result T EditFault) (name : List ℕ) (replacement : Replacement) (head after : Parts) (at : ℕ) (line : List ℕ × List ℕ) (value : List ℕ)
    → slice_get head.headers at ≡ Some line → has_name name line ≡ true → replacement line.1 ≡ Some value
    → OnOk r (after ≡ with_value at value head) → OnOk r (value_fault value ≡ None)
    → OnOk r (replacing_from (at + 1) name replacement after ≡ replacing_from at name replacement head)
line_changed_ok (Ok x) name replacement head after at line value is_at named some changed good =
    ap (replacing_from (at + 1) name replacement) changed
    ∙ line_changed name replacement head at line value is_at named some good
line_changed_ok (Err e) name replacement head after at line value is_at named some changed good = tt

pub same_length_ok : {T : Type 0} (r : Result T EditFault) (head after : Parts) (at : ℕ) (value : List ℕ)
    → OnOk r (after ≡ with_value at value head) → OnOk r (length after.headers ≡ length head.headers)
same_length_ok (Ok x) head after at value changed =
    ap (λ (made : Parts). length made.headers) changed ∙ same_length head at value
same_length_ok (Err e) head after at value changed = tt

pub line_refused_err : {T : Type 0} (r : Result T EditFault) (name : List ℕ) (replacement : Replacement) (head : Parts) (at : ℕ) (line : List ℕ × List ℕ) (value : List ℕ)
    → slice_get head.headers at ≡ Some line → has_name name line ≡ true → replacement line.1 ≡ Some value
    → IfErr r (MayFail (value_fault value)) → IfErr r (MayFail (replacing_from at name replacement head).fault)
line_refused_err (Ok x) name replacement head at line value is_at named some may = tt
line_refused_err (Err e) name replacement head at line value is_at named some may =
    line_refused name replacement head at line value e is_at named some may

-- ---- what the value of a line becomes

-- a line without a new value stays
pub line_stays : (name : List ℕ) (replacement : Replacement) (head : Parts) (at : ℕ) → IsNewValue name replacement head at None
    → replacing_from (at + 1) name replacement head ≡ replacing_from at name replacement head
line_stays name replacement head at new =
    elim (cases_Bool (has_name name new.line)) [
      | inl named ↦ line_unchanged name replacement head at new.line new.is named (sym (rw named at new.value))
      | inr other ↦ other_line name replacement head at new.line new.is other
    ]

-- a line with a new value has the name, and the value is the replacement of its own
named_line : (name : List ℕ) (replacement : Replacement) (head : Parts) (at : ℕ) (value : List ℕ) (new : IsNewValue name replacement head at (Some value))
    → (has_name name new.line ≡ true) × (replacement new.line.1 ≡ Some value)
named_line name replacement head at value new =
    elim (cases_Bool (has_name name new.line)) [
      | inl named ↦ (named, sym (rw named at new.value))
      | inr other ↦ absurd (let no : Some value ≡ None = rw other at new.value in cc)
    ]

pub new_line_ok : {T : Type 0} (r : Result T EditFault) (name : List ℕ) (replacement : Replacement) (head after : Parts) (at : ℕ) (value : List ℕ)
    → IsNewValue name replacement head at (Some value) → OnOk r (after ≡ with_value at value head) → OnOk r (value_fault value ≡ None)
    → OnOk r (replacing_from (at + 1) name replacement after ≡ replacing_from at name replacement head)
new_line_ok r name replacement head after at value new changed good =
    let line = named_line name replacement head at value new in
    line_changed_ok r name replacement head after at new.line value new.is line.0 line.1 changed good

pub new_line_refused : {T : Type 0} (r : Result T EditFault) (name : List ℕ) (replacement : Replacement) (head : Parts) (at : ℕ) (value : List ℕ)
    → IsNewValue name replacement head at (Some value) → IfErr r (MayFail (value_fault value))
    → IfErr r (MayFail (replacing_from at name replacement head).fault)
new_line_refused r name replacement head at value new may =
    let line = named_line name replacement head at value new in
    line_refused_err r name replacement head at new.line value new.is line.0 line.1 may
