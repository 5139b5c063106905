-- What `parse` reads, in the words of `specs/Number.antt`.
use Rattle.std.proofs.Common.{◌≡◌, ◌≢◌, ℕ, suc, ◌-◌, ◌^◌, ◌<◌, ◌≤◌, ℤ, pos, negsuc, neg_ℤ, FitsSigned, true, ltb, leb, cond, List, [], ◌∷◌, length, get_or, drop, Option, Some, None, Result, Ok, Err, refl, sym, ap, ◌∙◌, arith, lt-ltb, le-leb, inl, inr}
use Rattle.std.specs.Option.{option_map, option_and_then}
use Rattle.std.specs.Result.{result_ok}
use Rattle.std.specs.Str.{all_ascii_digits, IsUtf8}
use Rattle.std.specs.Str.Parse.{digits_value, ParsesUnsigned, ParsesSigned}
use Rattle.std.specs.Int.{w64}
use Rattle.std.proofs.lemmas.Bool.{false_from_ne_true, cond-true, cond-false, cases_eq, eq-eqb, ne_eqb, and_right, cases_Bool, cases_lt, both_ways, lt-leb}
use Rattle.std.proofs.lemmas.Str.{IsUtf8-from_ascii}
use Rattle.std.proofs.lemmas.Str.Ascii.{IsAscii-cons}
use Rattle.std.proofs.lemmas.Fmt.{IsAscii-from_digits, decimal_is_IsNumeral}
use Rattle.std.specs.Fmt.{decimal, signed_decimal}
use Rattle.std.proofs.lemmas.Str.Parse.{IsNumeralModel, numerals_by_value, tells_all_ascii_digits, parse_plain, parse_signed_plain, parse_signed_minus, digit_at}
use Rattle.std.proofs.lemmas.Option.{none-some}
use Rattle.hx_text.specs.Number.{number_of, number_up_to, int_of}

-- a text of decimal digits
abbrev pub IsDigits : List ℕ → Type 0
IsDigits text = all_ascii_digits text ≡ true

pub own : IsNumeralModel IsDigits (digits_value 10)
own = numerals_by_value IsDigits tells_all_ascii_digits

-- a number is read where there is a digit and nothing else
pub number_of-digits : (text : List ℕ) → IsDigits text → 0 < length text
    → number_of text ≡ Some (digits_value 10 text)
unfolding number_of
number_of-digits text digits some = rw (lt-ltb 0 (length text) some, digits)

pub number_of_none : (text : List ℕ) → (IsDigits text → 0 < length text → ⊥) → number_of text ≡ None
unfolding number_of
number_of_none [] h = refl
number_of_none (x ∷ xs) h =
    let no = false_from_ne_true (all_ascii_digits (x ∷ xs)) (λ digits. h digits (omega arith)) in
    rw (and_right (ltb 0 (length (x ∷ xs))) (all_ascii_digits (x ∷ xs)) no)

-- a number of at most so much
pub up_to-digits : (most : ℕ) (text : List ℕ) → IsDigits text → 0 < length text
    → number_up_to most text ≡ cond (leb (digits_value 10 text) most) (Some (digits_value 10 text))
    None
unfolding number_up_to
up_to-digits most text digits some = rw (number_of-digits text digits some)

pub up_to_none : (most : ℕ) (text : List ℕ) → (IsDigits text → 0 < length text → ⊥)
    → number_up_to most text ≡ None
unfolding number_up_to
up_to_none most text h = rw (number_of_none text h)

not_at_most : (a b : ℕ) → (a ≤ b → ⊥) → b < a
not_at_most a b h = elim (cases_lt b a) [ inl lt ↦ lt | inr le ↦ absurd (h le) ]

not_below : (a b : ℕ) → (a < b → ⊥) → b ≤ a
not_below a b h = elim (cases_lt a b) [ inl lt ↦ absurd (h lt) | inr le ↦ le ]

-- a text that is no UTF-8 is none of digits
pub digits_are_text : (text : List ℕ) → IsDigits text → IsUtf8 text
digits_are_text text h = IsUtf8-from_ascii text (IsAscii-from_digits text (own.to text h))

-- a text of digits begins with no sign
pub no_sign : (text : List ℕ) (sign : ℕ) → sign < 48 → IsDigits text → 0 < length text
    → get_or text 0 0 ≢ sign
no_sign text sign small digits some e =
    let d = digit_at text 0 (own.to text digits) some in
    omega arith

pub up_to_has_digits : (most : ℕ) (text : List ℕ) (n : ℕ) → number_up_to most text ≡ Some n
    → IsDigits text
up_to_has_digits most text n e =
    elim (cases_Bool (all_ascii_digits text)) [
      | inl digits ↦ digits
      | inr other ↦
          let none = up_to_none most text (λ digits some. both_ways _ other digits) in
          absurd (none-some n (sym none ∙ e))
    ]

-- ---- what `read_number` answers

pub plus_none : (most : ℕ) (text : List ℕ) → get_or text 0 0 ≡ 43 → None ≡ number_up_to most text
plus_none most text e =
    sym (up_to_none most text (λ digits some. no_sign text 43 (omega arith) digits some e))

pub not_text_none : (most : ℕ) (text : List ℕ) → ¬ (IsUtf8 text) → None ≡ number_up_to most text
not_text_none most text h =
    sym (up_to_none most text (λ digits some. h (digits_are_text text digits)))

-- what `parse` reads, where it is at most so much
abbrev pub kept : ℕ → Option ℕ → Option ℕ
kept most read = option_and_then (λ n. cond (leb n most) (Some n) None) read

pub kept_parse : {E : Type 0} (most : ℕ) (text : List ℕ) (r : Result ℕ E)
    → ParsesUnsigned 64 10 text r → get_or text 0 0 ≢ 43 → most < 2 ^ 64
    → kept most (result_ok r) ≡ number_up_to most text
kept_parse {E} most text (Ok n) h unsigned fits =
    let parsed = parse_plain own {E = E} 64 text (Ok n) h unsigned in
    rw parsed.1 (sym (up_to-digits most text parsed.0.0 parsed.0.1))
kept_parse {E} most text (Err e) h unsigned fits =
    let refused = parse_plain own {E = E} 64 text (Err e) h unsigned in
    elim (cases_Bool (all_ascii_digits text)) [
      | inr other ↦ sym (up_to_none most text (λ digits some. both_ways _ other digits))
      | inl digits ↦ elim (cases_lt 0 (length text)) [
        | inr empty ↦ sym (up_to_none most text (λ _ some. omega arith))
        | inl some ↦
            let large : 2 ^ 64 ≤ digits_value 10 text =
            not_below _ _ (λ low. refused (digits, some, low)) in
            sym (up_to-digits most text digits some
            ∙ cond-false _ _ _ (lt-leb (digits_value 10 text) most (omega arith)))
      ]
    ]

-- ---- what `parse` reads with a sign

-- a text with a minus sign
pub int_of-minus : (text : List ℕ) → get_or text 0 0 ≡ 45
    → int_of text ≡ option_map (λ n. neg_ℤ (pos n)) (number_up_to (2 ^ 63) (drop 1 text))
unfolding int_of number_up_to number_of
int_of-minus [] e = refl
int_of-minus (x ∷ xs) e = rw (eq-eqb x 45 e)

pub int_of-plain : (text : List ℕ) → get_or text 0 0 ≢ 45
    → int_of text ≡ option_map pos (number_up_to (2 ^ 63 - 1) text)
unfolding int_of number_up_to number_of
int_of-plain [] e = refl
int_of-plain (x ∷ xs) e = rw (ne_eqb x 45 e)

up_to-fits : (most : ℕ) (text : List ℕ) → IsDigits text → 0 < length text
    → digits_value 10 text ≤ most → number_up_to most text ≡ Some (digits_value 10 text)
up_to-fits most text digits some fits =
    up_to-digits most text digits some ∙ cond-true _ _ _ (le-leb (digits_value 10 text) most fits)

up_to-refused : (most : ℕ) (text : List ℕ)
    → (IsDigits text × (0 < length text) × (digits_value 10 text ≤ most) → ⊥)
    → number_up_to most text ≡ None
up_to-refused most text h =
    elim (cases_Bool (all_ascii_digits text)) [
      | inr other ↦ up_to_none most text (λ digits some. both_ways _ other digits)
      | inl digits ↦ elim (cases_lt 0 (length text)) [
        | inr empty ↦ up_to_none most text (λ _ some. omega arith)
        | inl some ↦
            let large : most < digits_value 10 text =
            not_at_most _ _ (λ low. h (digits, some, low)) in
            up_to-digits most text digits some
            ∙ cond-false _ _ _ (lt-leb (digits_value 10 text) most large)
      ]
    ]

pub parsed_minus : {E : Type 0} (text : List ℕ) (r : Result ℤ E) → ParsesSigned w64 10 text r
    → get_or text 0 0 ≡ 45 → result_ok r ≡ int_of text
parsed_minus {E} text (Ok z) h minus =
    let parsed = parse_signed_minus own {E = E} w64 text (Ok z) h minus in
    sym (int_of-minus text minus
    ∙ ap (option_map (λ n. neg_ℤ (pos n))) (up_to-fits _ _ parsed.0.0 parsed.0.1 parsed.0.2)
    ∙ ap Some (sym parsed.1))
parsed_minus {E} text (Err e) h minus =
    let refused = parse_signed_minus own {E = E} w64 text (Err e) h minus in
    sym (int_of-minus text minus ∙ ap (option_map (λ n. neg_ℤ (pos n))) (up_to-refused _ _ refused))

pub parsed_plain : {E : Type 0} (text : List ℕ) (r : Result ℤ E) → ParsesSigned w64 10 text r
    → get_or text 0 0 ≢ 43 → get_or text 0 0 ≢ 45 → result_ok r ≡ int_of text
parsed_plain {E} text (Ok z) h plus minus =
    let parsed = parse_signed_plain own {E = E} w64 text (Ok z) h plus minus in
    sym (int_of-plain text minus
    ∙ ap (option_map pos) (up_to-fits (2 ^ 63 - 1) text parsed.0.0 parsed.0.1
    (omega (arith, parsed.0.2))) ∙ ap Some (sym parsed.1))
parsed_plain {E} text (Err e) h plus minus =
    let refused = parse_signed_plain own {E = E} w64 text (Err e) h plus minus in
    sym (int_of-plain text minus
    ∙ ap (option_map pos) (up_to-refused (2 ^ 63 - 1) text
    (λ k. refused (k.0, k.1, omega (arith, k.2)))))

pub parsed_int : {E : Type 0} (text : List ℕ) (r : Result ℤ E) → ParsesSigned w64 10 text r
    → get_or text 0 0 ≢ 43 → result_ok r ≡ int_of text
parsed_int text r h plus =
    elim (cases_eq (get_or text 0 0) 45) [
      | inl minus ↦ parsed_minus text r h minus
      | inr other ↦ parsed_plain text r h plus other
    ]

-- a text with a plus sign, or that is no UTF-8, writes no number
pub int_of_none : (text : List ℕ)
    → (get_or text 0 0 ≡ 45 → IsDigits (drop 1 text) → 0 < length (drop 1 text) → ⊥)
    → (get_or text 0 0 ≢ 45 → IsDigits text → 0 < length text → ⊥) → int_of text ≡ None
int_of_none text signed plain =
    elim (cases_eq (get_or text 0 0) 45) [
      | inl minus ↦ int_of-minus text minus
          ∙ ap (option_map (λ n. neg_ℤ (pos n))) (up_to_none (2 ^ 63) (drop 1 text) (signed minus))
      | inr other ↦ int_of-plain text other
          ∙ ap (option_map pos) (up_to_none (2 ^ 63 - 1) text (plain other))
    ]

pub plus_no_int : (text : List ℕ) → get_or text 0 0 ≡ 43 → None ≡ int_of text
plus_no_int text e =
    sym (int_of_none text (λ minus _ _. omega arith)
    (λ _ digits some. no_sign text 43 (omega arith) digits some e))

minus_is_text : (text : List ℕ) → get_or text 0 0 ≡ 45 → IsDigits (drop 1 text) → IsUtf8 text
minus_is_text [] e digits = digits_are_text [] refl
minus_is_text (x ∷ xs) e digits =
    IsUtf8-from_ascii (x ∷ xs)
    (IsAscii-cons x xs (omega arith) (IsAscii-from_digits xs (own.to xs digits)))

pub not_text_no_int : (text : List ℕ) → ¬ (IsUtf8 text) → None ≡ int_of text
not_text_no_int text h =
    sym (int_of_none text (λ minus digits _. h (minus_is_text text minus digits))
    (λ _ digits _. h (digits_are_text text digits)))

-- ---- what is printed reads back

pub decimal_digits : (n : ℕ) → n < 2 ^ 64 → IsDigits (decimal n)
decimal_digits n fits = own.from (decimal n) (decimal_is_IsNumeral n fits).0.1

pub up_to-decimal : (most n : ℕ) → n ≤ most → n < 2 ^ 64 → number_up_to most (decimal n) ≡ Some n
up_to-decimal most n small fits =
    let numeral = decimal_is_IsNumeral n fits in
    up_to-fits most (decimal n) (decimal_digits n fits) numeral.0.0 (omega (arith, numeral.1))
    ∙ ap Some numeral.1

pub int_of-signed_decimal : (z : ℤ) → FitsSigned w64 z → int_of (signed_decimal z) ≡ Some z
int_of-signed_decimal (pos n) fits =
    let small : n < 2 ^ 63 = fits.sfits in
    let first =
    no_sign (decimal n) 45 (omega arith) (decimal_digits n (omega arith))
    (decimal_is_IsNumeral n (omega arith)).0.0 in
    int_of-plain (decimal n) first
    ∙ ap (option_map pos) (up_to-decimal (2 ^ 63 - 1) n (omega arith) (omega arith))
int_of-signed_decimal (negsuc n) fits =
    let small : n < 2 ^ 63 = fits.sfits in
    int_of-minus (45 ∷ decimal (suc n)) refl
    ∙ ap (option_map (λ n. neg_ℤ (pos n)))
    (up_to-decimal (2 ^ 63) (suc n) (omega arith) (omega arith))

-- the texts that `parse` need not see
pub ruleset no_number = (plus_none, not_text_none)

pub ruleset no_int = (plus_no_int, not_text_no_int)
