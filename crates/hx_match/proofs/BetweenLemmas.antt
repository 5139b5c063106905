-- Keys and components as what stands between some bytes and others.
use Rattle.std.proofs.Common.{◌≡◌, ℕ, Bool, true, false, ◌||◌, ◌&&◌, ◌⊎◌, List, [], ◌∷◌, ◌++◌, length, drop, refl, sym, ap, inl, inr}
use Rattle.std.specs.Prelude.{nat_eq, reverse}
use Rattle.std.specs.List.{list_any, starts_with}
use Rattle.std.proofs.lemmas.Bool.{cases_Bool}
use Rattle.std.proofs.lemmas.Bool.Decides.{Decides-eqb}
use Rattle.std.proofs.lemmas.List.Prefix.{front_rest}
use mathlib.Core.List.{reverse-cons}
use Rattle.std.proofs.lemmas.Slice.Eq.{starts_is}
use Rattle.hx_sample.specs.Keys.{is_delimited_part, is_ended, is_part, rests_after}
use Rattle.hx_match.proofs.TextLemmas.{begins_part, or_left, or_right}

either : (a b : Bool) → (a || b) ≡ true → (a ≡ true) ⊎ (b ≡ true)
either true b h = inl refl
either false b h = inr h

pub both : (a b : Bool) → (a && b) ≡ true → (a ≡ true) × (b ≡ true)
both true b h = (refl, h)
both false b h = absurd cc

pub starts_split : (text key : List ℕ) → starts_with nat_eq text key ≡ true → text ≡ key ++ drop (length key) text
starts_split text key h = (starts_is Decides-eqb text key (starts_with nat_eq text key) refl).0 h

pub split_starts : (text key after : List ℕ) → text ≡ key ++ after → starts_with nat_eq text key ≡ true
split_starts text key after e = (starts_is Decides-eqb text key (starts_with nat_eq text key) refl).1 after e

-- ---- parts

abbrev StandsBetween : List ℕ → List ℕ → Type 0
StandsBetween key text = (before : List ℕ) × (after : List ℕ) × (text ≡ before ++ (key ++ after))

further : (key text : List ℕ) (b : ℕ) → StandsBetween key text → StandsBetween key (b ∷ text)
further key text b (before, after, e) = (b ∷ before, after, ap (λ l. b ∷ l) e)

pub part_between : (key text : List ℕ) → is_part key text ≡ true
    → (before : List ℕ) × (after : List ℕ) × (text ≡ before ++ (key ++ after))
part_between key [] is = ([], drop (length key) [], starts_split [] key is)
part_between key (b ∷ text) is =
    elim (either (starts_with nat_eq (b ∷ text) key) (is_part key text) is) [
      | inl starts ↦ ([], drop (length key) (b ∷ text), starts_split (b ∷ text) key starts)
      | inr later ↦ further key text b (part_between key text later)
    ]

part_of_cons : (key text : List ℕ) (b : ℕ) → is_part key text ≡ true → is_part key (b ∷ text) ≡ true
part_of_cons key text b h = or_right (starts_with nat_eq (b ∷ text) key) (is_part key text) h

pub between_part : (key before after text : List ℕ) → text ≡ before ++ (key ++ after)
    → is_part key text ≡ true
between_part key [] after text e = sym (begins_part text key (split_starts text key after e))
between_part key (b ∷ before) after text e =
    rw e (part_of_cons key (before ++ (key ++ after)) b (between_part key before after (before ++ (key ++ after)) refl))

-- ---- components

-- the part begins the text, and a delimiter or the end follows it
abbrev begins_delimited : (ℕ → Bool) → List ℕ → List ℕ → Bool
begins_delimited is_delim part text =
    starts_with nat_eq text part && is_ended is_delim (drop (length part) text)

-- a delimiter at the end of some bytes ends them still with one more byte before them
ended_longer : (test : ℕ → Bool) (xs : List ℕ) (x b : ℕ) → is_ended test (xs ++ x ∷ []) ≡ true
    → is_ended test ((xs ++ x ∷ []) ++ b ∷ []) ≡ true
ended_longer test [] x b h = h
ended_longer test (y ∷ xs) x b h = h

longer : (test : ℕ → Bool) (b x : ℕ) (before : List ℕ) → is_ended test (reverse (x ∷ before)) ≡ true
    → is_ended test (reverse (b ∷ x ∷ before)) ≡ true
longer test b x before h =
    rw (reverse-cons b (x ∷ before), reverse-cons x before)
    (ended_longer test (reverse before) x b (rw (reverse-cons x before) at h))

abbrev StandsDelimited : (ℕ → Bool) → List ℕ → List ℕ → Type 0
StandsDelimited test part text =
    (before : List ℕ) × (after : List ℕ) × (text ≡ before ++ (part ++ after))
    × (is_ended test (reverse before) ≡ true) × (is_ended test after ≡ true)

at_start : (test : ℕ → Bool) (part text : List ℕ) → begins_delimited test part text ≡ true → StandsDelimited test part text
at_start test part text h =
    let parts = both (starts_with nat_eq text part) (is_ended test (drop (length part) text)) h in
    ([], drop (length part) text, starts_split text part parts.0, refl, parts.1)

-- what stands after a delimiter, with it
after_delim : (test : ℕ → Bool) (part text : List ℕ) (b : ℕ) → test b ≡ true → begins_delimited test part text ≡ true
    → StandsDelimited test part (b ∷ text)
after_delim test part text b delim h =
    let parts = both (starts_with nat_eq text part) (is_ended test (drop (length part) text)) h in
    (b ∷ [], drop (length part) text, ap (λ l. b ∷ l) (starts_split text part parts.0), delim, parts.1)

-- after a delimiter somewhere: some bytes stand before the part
abbrev StandsLater : (ℕ → Bool) → List ℕ → List ℕ → Type 0
StandsLater test part text =
    (x : ℕ) × (before : List ℕ) × (after : List ℕ) × (text ≡ x ∷ (before ++ (part ++ after)))
    × (is_ended test (reverse (x ∷ before)) ≡ true) × (is_ended test after ≡ true)

later_cons : (test : ℕ → Bool) (part text : List ℕ) (b : ℕ) → StandsLater test part text → StandsLater test part (b ∷ text)
later_cons test part text b (x, before, after, e, closed, ended) =
    (b, x ∷ before, after, ap (λ l. b ∷ l) e, longer test b x before closed, ended)

later_here : (test : ℕ → Bool) (part text : List ℕ) (b : ℕ) → test b ≡ true → begins_delimited test part text ≡ true
    → StandsLater test part (b ∷ text)
later_here test part text b delim h =
    let parts = both (starts_with nat_eq text part) (is_ended test (drop (length part) text)) h in
    (b, [], drop (length part) text, ap (λ l. b ∷ l) (starts_split text part parts.0), delim, parts.1)

rests_later : (test : ℕ → Bool) (part text : List ℕ)
    → list_any (begins_delimited test part) (rests_after test text) ≡ true → StandsLater test part text
rests_later test part [] h = absurd cc
rests_later test part (b ∷ text) h =
    elim (cases_Bool (test b)) [
      | inl delim ↦
          let both_ways : (begins_delimited test part text || list_any (begins_delimited test part) (rests_after test text)) ≡ true = rw delim at h in
          elim (either (begins_delimited test part text) (list_any (begins_delimited test part) (rests_after test text)) both_ways) [
            | inl here ↦ later_here test part text b delim here
            | inr later ↦ later_cons test part text b (rests_later test part text later)
          ]
      | inr other ↦
          let later : list_any (begins_delimited test part) (rests_after test text) ≡ true = rw other at h in
          later_cons test part text b (rests_later test part text later)
    ]

of_later : (test : ℕ → Bool) (part text : List ℕ) → StandsLater test part text → StandsDelimited test part text
of_later test part text (x, before, after, e, closed, ended) = (x ∷ before, after, e, closed, ended)

pub delimited_between : (test : ℕ → Bool) (part text : List ℕ) → is_delimited_part test part text ≡ true
    → (before : List ℕ) × (after : List ℕ) × (text ≡ before ++ (part ++ after))
    × (is_ended test (reverse before) ≡ true) × (is_ended test after ≡ true)
delimited_between test part text h =
    elim (either (begins_delimited test part text) (list_any (begins_delimited test part) (rests_after test text)) h) [
      | inl here ↦ at_start test part text here
      | inr later ↦ of_later test part text (rests_later test part text later)
    ]

begins_from : (test : ℕ → Bool) (part after text : List ℕ) → text ≡ part ++ after → is_ended test after ≡ true
    → begins_delimited test part text ≡ true
begins_from test part after text e ended =
    rw (split_starts text part after e, front_rest text part after e) ended

-- with a byte more before, what follows a delimiter follows it still
rests_cons : (f : List ℕ → Bool) (delim : ℕ → Bool) (b : ℕ) (text : List ℕ)
    → list_any f (rests_after delim text) ≡ true → list_any f (rests_after delim (b ∷ text)) ≡ true
rests_cons f delim b text h =
    elim (cases_Bool (delim b)) [
      | inl is ↦ rw is (or_right (f text) (list_any f (rests_after delim text)) h)
      | inr other ↦ rw other h
    ]

-- the last byte before the part
last_is : (test : ℕ → Bool) (b : ℕ) → is_ended test (reverse (b ∷ [])) ≡ true → test b ≡ true
last_is test b h = h

shorter : (test : ℕ → Bool) (xs : List ℕ) (x b : ℕ) → is_ended test ((xs ++ x ∷ []) ++ b ∷ []) ≡ true
    → is_ended test (xs ++ x ∷ []) ≡ true
shorter test [] x b h = h
shorter test (y ∷ xs) x b h = h

rests_from : (test : ℕ → Bool) (part after : List ℕ) (x : ℕ) (before : List ℕ)
    → is_ended test (reverse (x ∷ before)) ≡ true → is_ended test after ≡ true
    → list_any (begins_delimited test part) (rests_after test (x ∷ (before ++ (part ++ after)))) ≡ true
rests_from test part after x [] closed ended =
    rw (last_is test x closed)
    (or_left (begins_delimited test part (part ++ after)) _ (begins_from test part after (part ++ after) refl ended))
rests_from test part after x (y ∷ before) closed ended =
    let twice = rw (reverse-cons x (y ∷ before), reverse-cons y before) at closed in
    let once : is_ended test (reverse (y ∷ before)) ≡ true = rw (reverse-cons y before) (shorter test (reverse before) y x twice) in
    rests_cons (begins_delimited test part) test x (y ∷ (before ++ (part ++ after)))
    (rests_from test part after y before once ended)

pub between_delimited : (test : ℕ → Bool) (part before after text : List ℕ) → text ≡ before ++ (part ++ after)
    → is_ended test (reverse before) ≡ true → is_ended test after ≡ true → is_delimited_part test part text ≡ true
between_delimited test part [] after text e closed ended =
    or_left (begins_delimited test part text) (list_any (begins_delimited test part) (rests_after test text))
    (begins_from test part after text e ended)
between_delimited test part (x ∷ before) after text e closed ended =
    rw e
    (or_right (begins_delimited test part (x ∷ (before ++ (part ++ after)))) _
    (rests_from test part after x before closed ended))
