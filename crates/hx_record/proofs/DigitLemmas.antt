-- The number that decimal digits write, read from the left.
use Rattle.std.proofs.Common.{◌≡◌, ℕ, ◌+◌, ◌-◌, ◌*◌, ◌<◌, ◌≤◌, Bool, true, false, cond, leb, List, [], ◌∷◌, length, get_or, drop, suc, Option, Some, None, refl, sym, ap, ◌∙◌, arith, lt-ltb, le-leb}
use Rattle.std.proofs.Math.ListN.{drop_of_length-le}
use Rattle.std.proofs.Math.Seq.{drop-cons}
use Rattle.std.specs.Option.{option_and_then}
use Rattle.std.specs.Char.{is_ascii_digit, digit_value}
use Rattle.std.specs.Str.{all_ascii_digits}
use Rattle.std.specs.Str.Parse.{digits_value_after}
use Rattle.std.proofs.lemmas.Bool.{lt-leb}
use Rattle.hx_text.specs.Number.{number_of, number_up_to}

-- the number that digits write after those of n, where it is at most so much
abbrev pub number_after : ℕ → ℕ → List ℕ → Option ℕ
number_after most n rest =
    cond (all_ascii_digits rest) (cond (leb (digits_value_after 10 n rest) most) (Some (digits_value_after 10 n rest)) None) None

by_digits : (most v : ℕ) (digits : Bool) → option_and_then (λ n. cond (leb n most) (Some n) None) (cond digits (Some v) None) ≡ cond digits (cond (leb v most) (Some v) None) None
by_digits most v true = refl
by_digits most v false = refl

first_digits : (most : ℕ) (word : List ℕ) → 0 < length word → number_up_to most word ≡ number_after most 0 word
unfolding number_up_to number_of
first_digits most word some = rw (lt-ltb 0 (length word) some) (by_digits most (digits_value_after 10 0 word) (all_ascii_digits word))

in_range : (c : ℕ) → is_ascii_digit c ≡ true → digit_value c ≡ c - 48
in_range c is = grind arith

pub next_digit : (most n c : ℕ) (rest : List ℕ) → is_ascii_digit c ≡ true → number_after most n (c ∷ rest) ≡ number_after most (n * 10 + (c - 48)) rest
next_digit most n c rest is = rw (is, in_range c is) refl

no_digit : (most n c : ℕ) (rest : List ℕ) → is_ascii_digit c ≡ false → number_after most n (c ∷ rest) ≡ None
no_digit most n c rest other = rw other refl

grows : (n : ℕ) (rest : List ℕ) → n ≤ digits_value_after 10 n rest
grows n [] = omega arith
grows n (c ∷ rest) = omega (arith, grows (n * 10 + digit_value c) rest)

either_way : (digits : Bool) (n : Option ℕ) → cond digits n n ≡ n
either_way true n = refl
either_way false n = refl

above : (most n : ℕ) (rest : List ℕ) → most < n → number_after most n rest ≡ None
above most n rest over =
    rw (lt-leb (digits_value_after 10 n rest) most (omega (arith, over, grows n rest))) (either_way (all_ascii_digits rest) None)

last_digit : (most n : ℕ) → n ≤ most → number_after most n [] ≡ Some n
last_digit most n within = rw (le-leb n most within) refl

-- ---- what a word gives, of which so many digits were read

pub empty_word : (most : ℕ) (word : List ℕ) → length word ≤ 0 → None ≡ number_up_to most word
unfolding number_up_to number_of
empty_word most [] is = refl
empty_word most (c ∷ word) is = absurd (omega (arith, is))

-- what stands at the next place
at_digit : (most n i : ℕ) (word : List ℕ) → i < length word → number_after most n (drop i word) ≡ number_after most 0 word
    → number_up_to most word ≡ number_after most n (get_or word i 0 ∷ drop (suc i) word)
at_digit most n i word here so_far =
    first_digits most word (omega (arith, here)) ∙ sym so_far ∙ ap (number_after most n) (drop-cons word i 0 here)

pub another_byte : (most n i : ℕ) (word : List ℕ) → i < length word → number_after most n (drop i word) ≡ number_after most 0 word
    → is_ascii_digit (get_or word i 0) ≡ false → None ≡ number_up_to most word
another_byte most n i word here so_far other =
    sym (at_digit most n i word here so_far ∙ no_digit most n (get_or word i 0) (drop (suc i) word) other)

pub too_large : (most n i : ℕ) (word : List ℕ) → i < length word → number_after most n (drop i word) ≡ number_after most 0 word
    → is_ascii_digit (get_or word i 0) ≡ true → most < n * 10 + (get_or word i 0 - 48) → None ≡ number_up_to most word
too_large most n i word here so_far digit over =
    sym (at_digit most n i word here so_far ∙ next_digit most n (get_or word i 0) (drop (suc i) word) digit
    ∙ above most (n * 10 + (get_or word i 0 - 48)) (drop (suc i) word) over)

pub all_digits : (most n i : ℕ) (word : List ℕ) → 0 < length word → length word ≤ i → number_after most n (drop i word) ≡ number_after most 0 word
    → n ≤ most → Some n ≡ number_up_to most word
all_digits most n i word some all so_far within =
    sym (first_digits most word some ∙ sym so_far ∙ ap (number_after most n) (drop_of_length-le word all) ∙ last_digit most n within)
