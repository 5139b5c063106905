-- Steps over the texts that readers have left, and the occurrence that an expression takes.
use Rattle.std.proofs.Common.{◌≡◌, ℕ, ◌+◌, ◌<◌, zero, List, [], ◌∷◌, Some, None, Bool, true, false, length, ◌++◌, drop, map, refl, ap, sym, ◌∙◌, arith, add-one, ℤ}
use Rattle.std.specs.Prelude.{Option, slice_get, reverse, is_some, option_and_then, MatchOption}
use Rattle.std.specs.Option.{option_to_list}
use Rattle.std.specs.Borrow.{Bor}
use Rattle.std.proofs.lemmas.List.{map-append, reverse-append}
use Rattle.hx_sample.specs.declared.sample.Value.{Value}
use Rattle.hx_sample.specs.declared.sample.Value.TheVariants as value
use Rattle.hx_sample.specs.Cast.{cast_of}
use Rattle.hx_text.specs.declared.kinds.Kind.{Kind}
use Rattle.hx_fetch.specs.Fetches.{text_occurrences}
use Rattle.hx_fetch.specs.Picks.{occurrence_at, selection, selection_end, first_of, end_of}
use Rattle.hx_fetch.proofs.ListLemmas.{some_left, next_left, back_after}

-- what an iterator over texts gives at a step
abbrev Gives : List (List ℕ) → Option (Bor (List ℕ)) → List (List ℕ) → Type 0
Gives before r after = MatchOption r ((before ≡ []) × (after ≡ [])) (λ x. before ≡ x.now ∷ after)

-- where one reader is so far ahead of another, and both take a step, it stays so far ahead
abbrev StaysAhead : ℕ → List (List ℕ) → List (List ℕ) → List (List ℕ) → Type 0
StaysAhead k ahead texts before =
    (ahead ≡ drop (k + 1) texts) × (k < length texts) × (slice_get (reverse texts) k ≡ slice_get (reverse before) k)

both_step : (y x : List ℕ) (ahead texts texts' : List (List ℕ)) (k : ℕ) → texts ≡ x ∷ texts' → drop (k + 1) texts ≡ y ∷ ahead → StaysAhead k ahead texts' texts
both_step y x ahead texts texts' k e h =
    let left : drop k texts' ≡ y ∷ ahead = (rw add-one at (ap (drop (k + 1)) (sym e) ∙ h)) in
    let within : k < length texts' = some_left texts' ahead k y left in
    (next_left texts' ahead k y left, within, sym (back_after texts texts' k x e within))

pub step_ahead : (r s : Option (Bor (List ℕ))) (ahead ahead' texts texts' : List (List ℕ)) (k : ℕ) → is_some r ≡ true → Gives ahead r ahead' → Gives texts s texts' → ahead ≡ drop (k + 1) texts → StaysAhead k ahead' texts' texts
step_ahead None s ahead ahead' texts texts' k there a t d = cc
step_ahead (Some y) None ahead ahead' texts texts' k there a t d =
    absurd (omega (arith, some_left texts ahead' (k + 1) y.now (sym d ∙ a), ap length t.0))
step_ahead (Some y) (Some x) ahead ahead' texts texts' k there a t d =
    both_step y.now x.now ahead' texts texts' k t (sym d ∙ a)

-- a text as a value of the kind
abbrev read_as : Kind → List ℕ → Option Value
read_as kind text = cast_of (value.Str text) kind

map-reverse : {A B : Type 0} (f : A → B) (xs : List A) → map f (reverse xs) ≡ reverse (map f xs)
map-reverse f [] = refl
map-reverse f (x ∷ xs) =
    ap (map f) (reverse-append (x ∷ []) xs) ∙ map-append f (reverse xs) (x ∷ [])
    ∙ ap (λ ys. ys ++ f x ∷ []) (map-reverse f xs) ∙ sym (reverse-append (f x ∷ []) (map f xs))

first_of-map : {A B : Type 0} (f : A → Option B) (xs : List A) → first_of (map f xs) ≡ option_and_then f (slice_get xs zero)
first_of-map f [] = refl
first_of-map f (x ∷ xs) = refl

end_of-one : {A B : Type 0} (last : Bool) (f : A → Option B) (o : Option A) → end_of last (map f (option_to_list o)) ≡ option_and_then f o
end_of-one true f None = refl
end_of-one true f (Some x) = refl
end_of-one false f None = refl
end_of-one false f (Some x) = refl

end_of-selection : {A B : Type 0} (last : Bool) (f : A → Option B) (at : Option ℤ) (xs : List A) → end_of last (map f (selection at xs)) ≡ option_and_then f (selection_end last at xs)
end_of-selection true f None xs = ap first_of (sym (map-reverse f xs)) ∙ first_of-map f (reverse xs)
end_of-selection false f None xs = first_of-map f xs
end_of-selection last f (Some n) xs = end_of-one last f (occurrence_at n xs)

-- the occurrence at the end of those of a selection of texts
pub end_is : (last : Bool) (at : Option ℤ) (kind : Kind) (texts : List (List ℕ)) (occurrences : List (Option Value)) (text : Option (List ℕ)) → text_occurrences kind (selection at texts) ≡ occurrences → text ≡ selection_end last at texts → option_and_then (λ t. cast_of (value.Str t) kind) text ≡ end_of last occurrences
end_is last at kind texts occurrences text e t =
    ap (option_and_then (read_as kind)) t ∙ sym (end_of-selection last (read_as kind) at texts) ∙ ap (end_of last) e

-- the last of some texts, and before any the one that is given
abbrev pub last_after : Option (List ℕ) → List (List ℕ) → Option (List ℕ)
last_after before [] = before
last_after before (x ∷ xs) = last_after (Some x) xs

option_or : Option (List ℕ) → Option (List ℕ) → Option (List ℕ)
option_or None other = other
option_or (Some x) other = Some x

first-append : (ys : List (List ℕ)) (x : List ℕ) (other : Option (List ℕ)) → option_or (slice_get ys zero) (Some x) ≡ option_or (slice_get (ys ++ x ∷ []) zero) other
unfolding option_or
first-append [] x other = refl
first-append (y ∷ ys) x other = refl

last_is : (before : Option (List ℕ)) (xs : List (List ℕ)) → last_after before xs ≡ option_or (slice_get (reverse xs) zero) before
unfolding option_or
last_is before [] = refl
last_is before (x ∷ xs) =
    last_is (Some x) xs ∙ first-append (reverse xs) x before
    ∙ ap (λ ys. option_or (slice_get ys zero) before) (sym (reverse-append (x ∷ []) xs))

or_none : (o : Option (List ℕ)) → option_or o None ≡ o
unfolding option_or
or_none None = refl
or_none (Some x) = refl

pub last_of_none : (xs : List (List ℕ)) → last_after None xs ≡ slice_get (reverse xs) zero
last_of_none xs = last_is None xs ∙ or_none (slice_get (reverse xs) zero)
