-- A list with its item at a position changed, by recursion on the position.
use Rattle.std.proofs.Common.{◌≡◌, ◌≢◌, ℕ, zero, suc, ◌+◌, ◌<◌, Bool, true, false, cond, List, [], ◌∷◌, ◌++◌, drop, map, not, refl, ap, ◌∙◌, sym, arith}
use Rattle.std.specs.Prelude.{Option, None, Some, IfSome, option_map, slice_get, slice_set}
use Rattle.std.specs.List.{filter, position_or_len}
use Rattle.std.specs.Option.{option_map_or}
use Rattle.hx_refs.specs.References.{changed_at}

abbrev pub changed : {A : Type 0} → ℕ → (A → A) → List A → List A
changed at change [] = []
changed zero change (x ∷ xs) = change x ∷ xs
changed (suc at) change (x ∷ xs) = x ∷ changed at change xs

one_further : {A : Type 0} (at : ℕ) (change : A → A) (x : A) (xs : List A) (found : Option A)
    → option_map_or (λ y. slice_set (x ∷ xs) (suc at) (change y)) found (x ∷ xs)
    ≡ x ∷ option_map_or (λ y. slice_set xs at (change y)) found xs
one_further at change x xs None = refl
one_further at change x xs (Some y) = refl

pub changed_is : {A : Type 0} (at : ℕ) (change : A → A) (xs : List A) → changed_at at change xs ≡ changed at change xs
changed_is at change [] = refl
changed_is zero change (x ∷ xs) = refl
changed_is (suc at) change (x ∷ xs) =
    one_further at change x xs (slice_get xs at) ∙ ap (λ ys. x ∷ ys) (changed_is at change xs)

-- ---- items

changed_here : {A : Type 0} (at : ℕ) (change : A → A) (xs : List A)
    → slice_get (changed at change xs) at ≡ option_map change (slice_get xs at)
changed_here at change [] = refl
changed_here zero change (x ∷ xs) = refl
changed_here (suc at) change (x ∷ xs) = changed_here at change xs

changed_apart : {A : Type 0} (at q : ℕ) (change : A → A) (xs : List A) → at ≢ q
    → slice_get (changed at change xs) q ≡ slice_get xs q
changed_apart at q change [] apart = refl
changed_apart zero zero change (x ∷ xs) apart = absurd (apart refl)
changed_apart zero (suc q) change (x ∷ xs) apart = refl
changed_apart (suc at) zero change (x ∷ xs) apart = refl
changed_apart (suc at) (suc q) change (x ∷ xs) apart =
    changed_apart at q change xs (λ same. apart (ap suc same))

pub item_here : {A : Type 0} (at : ℕ) (change : A → A) (xs : List A)
    → slice_get (changed_at at change xs) at ≡ option_map change (slice_get xs at)
item_here at change xs = ap (λ ys. slice_get ys at) (changed_is at change xs) ∙ changed_here at change xs

pub item_apart : {A : Type 0} (at q : ℕ) (change : A → A) (xs : List A) → at ≢ q
    → slice_get (changed_at at change xs) q ≡ slice_get xs q
item_apart at q change xs apart =
    ap (λ ys. slice_get ys q) (changed_is at change xs) ∙ changed_apart at q change xs apart

-- past the end
pub none_changed : {A : Type 0} (at : ℕ) (change : A → A) (xs : List A) → slice_get xs at ≡ None → changed_at at change xs ≡ xs
none_changed at change xs past = ap (λ found. option_map_or (λ x. slice_set xs at (change x)) found xs) past

-- ---- two changes

two_apart : {A : Type 0} (p q : ℕ) (f g : A → A) (xs : List A) → p ≢ q
    → changed p f (changed q g xs) ≡ changed q g (changed p f xs)
two_apart p q f g [] apart = refl
two_apart zero zero f g (x ∷ xs) apart = absurd (apart refl)
two_apart zero (suc q) f g (x ∷ xs) apart = refl
two_apart (suc p) zero f g (x ∷ xs) apart = refl
two_apart (suc p) (suc q) f g (x ∷ xs) apart =
    ap (λ ys. x ∷ ys) (two_apart p q f g xs (λ same. apart (ap suc same)))

two_here : {A : Type 0} (p : ℕ) (f g h k : A → A) (xs : List A)
    → IfSome (slice_get xs p) (λ x. f (g x) ≡ h (k x)) → changed p f (changed p g xs) ≡ changed p h (changed p k xs)
two_here p f g h k [] same = refl
two_here zero f g h k (x ∷ xs) same = ap (λ y. y ∷ xs) same
two_here (suc p) f g h k (x ∷ xs) same = ap (λ ys. x ∷ ys) (two_here p f g h k xs same)

joined : {A : Type 0} (p : ℕ) (f g h : A → A) (xs : List A)
    → IfSome (slice_get xs p) (λ x. f (g x) ≡ h x) → changed p f (changed p g xs) ≡ changed p h xs
joined p f g h [] same = refl
joined zero f g h (x ∷ xs) same = ap (λ y. y ∷ xs) same
joined (suc p) f g h (x ∷ xs) same = ap (λ ys. x ∷ ys) (joined p f g h xs same)

both_are : {A : Type 0} (p q : ℕ) (f g : A → A) (xs : List A)
    → changed_at p f (changed_at q g xs) ≡ changed p f (changed q g xs)
both_are p q f g xs = changed_is p f (changed_at q g xs) ∙ ap (λ ys. changed p f ys) (changed_is q g xs)

pub changes_apart : {A : Type 0} (p q : ℕ) (f g : A → A) (xs : List A) → p ≢ q
    → changed_at p f (changed_at q g xs) ≡ changed_at q g (changed_at p f xs)
changes_apart p q f g xs apart =
    both_are p q f g xs ∙ two_apart p q f g xs apart ∙ sym (both_are q p g f xs)

pub changes_here : {A : Type 0} (p : ℕ) (f g h k : A → A) (xs : List A)
    → IfSome (slice_get xs p) (λ x. f (g x) ≡ h (k x))
    → changed_at p f (changed_at p g xs) ≡ changed_at p h (changed_at p k xs)
changes_here p f g h k xs same =
    both_are p p f g xs ∙ two_here p f g h k xs same ∙ sym (both_are p p h k xs)

pub change_covered : {A : Type 0} (p : ℕ) (f g h : A → A) (xs : List A)
    → IfSome (slice_get xs p) (λ x. f (g x) ≡ h x) → changed_at p f (changed_at p g xs) ≡ changed_at p h xs
change_covered p f g h xs same = both_are p p f g xs ∙ joined p f g h xs same ∙ sym (changed_is p h xs)

-- ---- what is read of each item

mapped : {A B : Type 0} (f : A → B) (at : ℕ) (change : A → A) (xs : List A)
    → IfSome (slice_get xs at) (λ x. f (change x) ≡ f x) → map f (changed at change xs) ≡ map f xs
mapped f at change [] same = refl
mapped f zero change (x ∷ xs) same = ap (λ y. y ∷ map f xs) same
mapped f (suc at) change (x ∷ xs) same = ap (λ ys. f x ∷ ys) (mapped f at change xs same)

pub map_stays : {A B : Type 0} (f : A → B) (at : ℕ) (change : A → A) (xs : List A)
    → IfSome (slice_get xs at) (λ x. f (change x) ≡ f x) → map f (changed_at at change xs) ≡ map f xs
map_stays f at change xs same = ap (λ ys. map f ys) (changed_is at change xs) ∙ mapped f at change xs same

first_by_map : {A : Type 0} (p : A → Bool) (xs : List A)
    → position_or_len p xs ≡ position_or_len (λ b. b) (map p xs)
first_by_map p [] = refl
first_by_map p (x ∷ xs) = ap (λ n. cond (not (p x)) (1 + n) 0) (first_by_map p xs)

pub first_stays : {A : Type 0} (p : A → Bool) (at : ℕ) (change : A → A) (xs : List A)
    → IfSome (slice_get xs at) (λ x. p (change x) ≡ p x)
    → position_or_len p (changed_at at change xs) ≡ position_or_len p xs
first_stays p at change xs same =
    first_by_map p (changed_at at change xs) ∙ ap (λ bs. position_or_len (λ b. b) bs) (map_stays p at change xs same)
    ∙ sym (first_by_map p xs)

-- those of the items that a test takes
abbrev taken : {B : Type 0} → List (Bool × B) → List B
taken [] = []
taken (tested ∷ rest) = cond tested.0 (tested.1 ∷ taken rest) (taken rest)

abbrev pub tested : {A B : Type 0} → (A → Bool) → (A → B) → A → Bool × B
tested test f x = (test x, f x)

taken_is : {A B : Type 0} (test : A → Bool) (f : A → B) (xs : List A)
    → map f (filter test xs) ≡ taken (map (tested test f) xs)
taken_is test f [] = refl
taken_is test f (x ∷ xs) = go (test x) (taken_is test f xs)
  where
    go : (b : Bool) → map f (filter test xs) ≡ taken (map (tested test f) xs)
        → map f (cond b (x ∷ filter test xs) (filter test xs))
        ≡ cond b (f x ∷ taken (map (tested test f) xs)) (taken (map (tested test f) xs))
    go true rest = ap (λ ys. f x ∷ ys) rest
    go false rest = rest

pub taken_stay : {A B : Type 0} (test : A → Bool) (f : A → B) (at : ℕ) (change : A → A) (xs : List A)
    → IfSome (slice_get xs at) (λ x. tested test f (change x) ≡ tested test f x)
    → map f (filter test (changed_at at change xs)) ≡ map f (filter test xs)
taken_stay test f at change xs same =
    taken_is test f (changed_at at change xs) ∙ ap taken (map_stays (tested test f) at change xs same) ∙ sym (taken_is test f xs)

-- ---- the first items dropped

drop_before : {A : Type 0} (k p q : ℕ) (change : A → A) (xs : List A) → q ≡ k + p
    → drop k (changed q change xs) ≡ changed p change (drop k xs)
drop_before zero p q change xs is =
    let same : q ≡ p = omega arith in ap (λ n. changed n change xs) same
drop_before (suc k) p q change [] is = refl
drop_before (suc k) p zero change (x ∷ xs) is = absurd (omega arith)
drop_before (suc k) p (suc q) change (x ∷ xs) is =
    let rest : q ≡ k + p = omega arith in drop_before k p q change xs rest

drop_over : {A : Type 0} (k q : ℕ) (change : A → A) (xs : List A) → q < k → drop k (changed q change xs) ≡ drop k xs
drop_over zero q change xs below = absurd (omega arith)
drop_over (suc k) q change [] below = refl
drop_over (suc k) zero change (x ∷ xs) below = refl
drop_over (suc k) (suc q) change (x ∷ xs) below =
    let rest : q < k = omega arith in drop_over k q change xs rest

pub dropped_before : {A : Type 0} (k p q : ℕ) (change : A → A) (xs : List A) → q ≡ k + p
    → drop k (changed_at q change xs) ≡ changed_at p change (drop k xs)
dropped_before k p q change xs is =
    ap (λ ys. drop k ys) (changed_is q change xs) ∙ drop_before k p q change xs is ∙ sym (changed_is p change (drop k xs))

pub dropped_over : {A : Type 0} (k q : ℕ) (change : A → A) (xs : List A) → q < k
    → drop k (changed_at q change xs) ≡ drop k xs
dropped_over k q change xs below = ap (λ ys. drop k ys) (changed_is q change xs) ∙ drop_over k q change xs below

-- ---- one more item that a change leaves as it is

last_left : {A : Type 0} (at : ℕ) (change : A → A) (y : A) (xs : List A) → change y ≡ y
    → changed at change (xs ++ y ∷ []) ≡ changed at change xs ++ y ∷ []
last_left zero change y [] same = ap (λ z. z ∷ []) same
last_left (suc at) change y [] same = refl
last_left zero change y (x ∷ xs) same = refl
last_left (suc at) change y (x ∷ xs) same = ap (λ ys. x ∷ ys) (last_left at change y xs same)

pub more_left : {A : Type 0} (at : ℕ) (change : A → A) (y : A) (xs : List A) → change y ≡ y
    → changed_at at change (xs ++ y ∷ []) ≡ changed_at at change xs ++ y ∷ []
more_left at change y xs same =
    changed_is at change (xs ++ y ∷ []) ∙ last_left at change y xs same
    ∙ ap (λ ys. ys ++ y ∷ []) (sym (changed_is at change xs))
