-- Lists that are cut, filtered and joined.
use Rattle.std.proofs.Common.{◌≡◌, ℕ, Bool, true, ◌+◌, ◌≤◌, ◌<◌, suc, zero, List, [], ◌∷◌, ◌++◌, Some, None, length, drop, map, refl, ap, sym, subst, ◌∙◌, arith, add-one}
use Rattle.std.specs.Prelude.{Option, slice_get, reverse, min, ◌^◌, ◌-◌}
use Rattle.std.specs.List.{filter, flat_map}
use Rattle.std.specs.Option.{option_map_or, option_to_list}
use Rattle.std.specs.Str.{bytes_eq, str_eq_ignore_ascii_case, str_to_ascii_lowercase}
use Rattle.std.proofs.lemmas.Slice.Eq.{bytes_eq-Decides}
use Rattle.std.proofs.lemmas.List.{map-append, length-reverse, reverse-append}
use Rattle.std.proofs.lemmas.Option.{slice_get_past}
use Rattle.std.proofs.lemmas.List.Elements.{filter-append}
use Rattle.hx_lists.specs.NamedValues.{NamedValue, cookies}
use Rattle.hx_fetch.specs.Views.{values_under}

-- the item at a position is the first of what is left from it on
drop_from : {A : Type 0} (xs : List A) (k : ℕ) (x : A) → slice_get xs k ≡ Some x → drop k xs ≡ x ∷ drop (suc k) xs
drop_from [] k x h = cc
drop_from (y ∷ ys) zero x h = cc
drop_from (y ∷ ys) (suc k) x h = drop_from ys k x h

pub drop_at : {A : Type 0} (xs : List A) (k : ℕ) (x : A) → slice_get xs k ≡ Some x → drop k xs ≡ x ∷ drop (k + 1) xs
drop_at xs k x h = rw add-one (drop_from xs k x h)

-- the item at a position is found by what is left from it on
get_left : {A : Type 0} (xs : List A) (k : ℕ) → slice_get (drop k xs) zero ≡ slice_get xs k
get_left [] zero = refl
get_left [] (suc k) = refl
get_left (x ∷ xs) zero = refl
get_left (x ∷ xs) (suc k) = get_left xs k

pub get_of_left : {A : Type 0} (xs ys : List A) (k : ℕ) → ys ≡ drop k xs → slice_get xs k ≡ slice_get ys zero
get_of_left xs ys k h = sym (ap (λ zs. slice_get zs zero) h ∙ get_left xs k)

-- nothing is left from a position on: the list is no longer
pub none_left : {A : Type 0} (xs : List A) (k : ℕ) → drop k xs ≡ [] → length xs ≤ k
none_left [] k h = omega arith
none_left (x ∷ xs) zero h = cc
none_left (x ∷ xs) (suc k) h = omega (arith, none_left xs k h)

-- something is left from a position on: the list is longer
pub some_left : {A : Type 0} (xs ys : List A) (k : ℕ) (x : A) → drop k xs ≡ x ∷ ys → k < length xs
some_left [] ys zero x h = cc
some_left [] ys (suc k) x h = cc
some_left (z ∷ xs) ys zero x h = omega arith
some_left (z ∷ xs) ys (suc k) x h = omega (arith, some_left xs ys k x h)

left_after : {A : Type 0} (xs ys : List A) (k : ℕ) (x : A) → drop k xs ≡ x ∷ ys → ys ≡ drop (suc k) xs
left_after [] ys zero x h = cc
left_after [] ys (suc k) x h = cc
left_after (z ∷ xs) ys zero x h = cc
left_after (z ∷ xs) ys (suc k) x h = left_after xs ys k x h

-- and what is left after the first of it is left from the next position on
pub next_left : {A : Type 0} (xs ys : List A) (k : ℕ) (x : A) → drop k xs ≡ x ∷ ys → ys ≡ drop (k + 1) xs
next_left xs ys k x h = rw add-one (left_after xs ys k x h)

-- each item alone, joined
pub joined_alone : {A : Type 0} (xs : List A) → flat_map (λ x. x ∷ []) xs ≡ xs
joined_alone [] = refl
joined_alone (x ∷ xs) = ap (λ rest. x ∷ rest) (joined_alone xs)

pub values_under-append : (name : Option (List ℕ)) (ps qs : List NamedValue) → values_under name (ps ++ qs) ≡ values_under name ps ++ values_under name qs
values_under-append name ps qs =
    let is_of : NamedValue → Bool = λ pair. option_map_or (bytes_eq pair.0) name true in
    ap (map (λ pair. pair.1)) (filter-append is_of ps qs)
    ∙ map-append (λ pair. pair.1) (filter is_of ps) (filter is_of qs)

-- the cookies of each line that have the name are those of all lines that have it
pub cookies_by_line : (name : Option (List ℕ)) (lines : List (List ℕ)) → flat_map (λ line. values_under name (cookies line)) lines ≡ values_under name (flat_map cookies lines)
cookies_by_line name [] = refl
cookies_by_line name (line ∷ lines) =
    ap (λ rest. values_under name (cookies line) ++ rest) (cookies_by_line name lines)
    ∙ sym (values_under-append name (cookies line) (flat_map cookies lines))

get_in_front : {A : Type 0} (xs ys : List A) (k : ℕ) → k < length xs → slice_get (xs ++ ys) k ≡ slice_get xs k
get_in_front [] ys k h = absurd (omega arith)
get_in_front (x ∷ xs) ys zero h = refl
get_in_front (x ∷ xs) ys (suc k) h = get_in_front xs ys k (omega arith)

get_at_seam : {A : Type 0} (xs : List A) (y : A) → slice_get (xs ++ y ∷ []) (length xs) ≡ Some y
get_at_seam [] y = refl
get_at_seam (x ∷ xs) y = get_at_seam xs y

-- an item that has as many after it as are asked for
pub back_at : {A : Type 0} (xs ys : List A) (k : ℕ) (x : A) → xs ≡ x ∷ ys → length ys ≡ k → slice_get (reverse xs) k ≡ Some x
back_at xs ys k x h e =
    ap (λ zs. slice_get (reverse zs) k) h ∙ ap (λ zs. slice_get zs k) (reverse-append (x ∷ []) ys)
    ∙ ap (slice_get (reverse ys ++ x ∷ [])) (sym e ∙ sym (length-reverse ys))
    ∙ get_at_seam (reverse ys) x

-- an item that has more after it makes no difference to those after it
pub back_after : {A : Type 0} (xs ys : List A) (k : ℕ) (x : A) → xs ≡ x ∷ ys → k < length ys → slice_get (reverse xs) k ≡ slice_get (reverse ys) k
back_after xs ys k x h within =
    ap (λ zs. slice_get (reverse zs) k) h ∙ ap (λ zs. slice_get zs k) (reverse-append (x ∷ []) ys)
    ∙ get_in_front (reverse ys) (x ∷ []) k (rw length-reverse within)

-- nothing stands so far from the end of a list that is no longer
pub back_past : {A : Type 0} (xs : List A) (k : ℕ) → length xs ≤ k → slice_get (reverse xs) k ≡ None
back_past xs k short = slice_get_past (reverse xs) k (rw length-reverse short)

-- the first of at most one item is all of them
few_are_first : {A : Type 0} (xs : List A) → length xs ≤ 1 → option_to_list (slice_get xs zero) ≡ xs
few_are_first [] few = refl
few_are_first (x ∷ []) few = refl
few_are_first (x ∷ y ∷ ys) few = absurd (omega (arith, few))

pub few_by_count : {A : Type 0} (xs : List A) (n : ℕ) → n ≡ min (length xs) (2 ^ 64 - 1) → n ≤ 1 → option_to_list (slice_get xs zero) ≡ xs
few_by_count xs n counted few = few_are_first xs (omega (arith, counted, few))

-- a name that is the same is the same whatever the case of its letters
pub same_whatever_case : (name other : List ℕ) → bytes_eq name other ≡ true → str_eq_ignore_ascii_case name other ≡ true
same_whatever_case name other same =
    let is : name ≡ other = (bytes_eq-Decides name other).0 same in
    subst (λ (n : List ℕ). str_eq_ignore_ascii_case name n ≡ true) is
    ((bytes_eq-Decides (str_to_ascii_lowercase name) (str_to_ascii_lowercase name)).1 refl)

-- a reader that goes forward
pub ruleset forward = (none_left, some_left, next_left)

-- two readers, one so far ahead of the other
pub ruleset backward = (back_at, back_after, back_past, none_left, next_left)
