-- The words that write versions.
use Rattle.std.proofs.Common.{◌≡◌, ℕ, ◌^◌, ◌<◌, ◌≤◌, Bool, true, false, cond, leb, List, length, get_or, None, Some, refl, sym, ap, ◌∙◌, arith, inl, inr}
use Rattle.std.specs.Prelude.{◌&&◌, nat_lt, option_and_then}
use Rattle.std.specs.Fmt.{decimal}
use Rattle.std.specs.Str.{all_ascii_digits, bytes_eq}
use Rattle.std.specs.Str.Parse.{digits_value}
use Rattle.std.proofs.lemmas.Bool.{and_parts, cases_lt, false_from_ne_true, le-leb, leb-true, ltb-true}
use Rattle.std.proofs.lemmas.Fmt.{decimal-digits_value, decimal_digit, decimal_nonempty, digits_decimal, digits_value-decimal, first_decimal}
use Rattle.std.proofs.lemmas.Option.{cond_some, option_and_then_some}
use Rattle.std.proofs.lemmas.Slice.Eq.{bytes_eq-Decides}
use Rattle.hx_text.specs.Number.{number_of, number_up_to}
use Rattle.hx_text.proofs.NumberLemmas.{own, up_to-digits}
use Rattle.hx_cli.specs.Commands.{version_of_digits}

-- digits that are read as a number of at most so much
record Reads (most : ℕ) (text : List ℕ) (number : ℕ) : Type 0 where
  digits : all_ascii_digits text ≡ true
  some : 0 < length text
  value : digits_value 10 text ≡ number
  within : number ≤ most

reads_digits : (most number : ℕ) (text : List ℕ) → number_of text ≡ Some number → number ≤ most
    → Reads most text number
unfolding number_of
reads_digits most number text is within =
    let found = cond_some (nat_lt 0 (length text) && all_ascii_digits text) (digits_value 10 text) number is in
    let parts = and_parts (nat_lt 0 (length text)) (all_ascii_digits text) found.0 in
    record {
      digits = parts.1;
      some = ltb-true 0 (length text) parts.0;
      value = found.1;
      within = within;
    }

reads_number : (most number : ℕ) (text : List ℕ) → number_up_to most text ≡ Some number
    → Reads most text number
unfolding number_up_to
reads_number most number text is =
    option_and_then_some (λ n. cond (leb n most) (Some n) None) (number_of text) number is
    (λ n read kept.
    let same = cond_some (leb n most) n number kept in
    reads_digits most number text (read ∙ ap (λ (m : ℕ). Some m) same.1)
    (let le = leb-true n most same.0 in omega (arith, le, same.1)))

-- digits without a zero before them are those of their value
decimal_is : (number : ℕ) (text : List ℕ) → Reads 4294967295 text number
    → ((1 < length text) × (get_or text 0 0 ≡ 48) → ⊥) → decimal number ≡ text
decimal_is number text reads bare =
    sym (ap decimal reads.value)
    ∙ decimal-digits_value own text reads.digits reads.some
    (λ zero. elim (cases_lt 1 (length text)) [
      | inl more ↦ absurd (bare (more, zero))
      | inr few ↦ omega (arith, reads.some, few)
    ])
    (omega (arith, reads.value, reads.within))

-- the digits of a number have no zero before them
decimal_has_no_zero : (number : ℕ) → number < 4294967296 → 1 < length (decimal number)
    → get_or (decimal number) 0 0 ≡ 48 → ⊥
decimal_has_no_zero number small more zero = elim (cases_lt 0 number) [
  | inl some ↦
      let first = first_decimal number some (omega (arith, small)) in omega (arith, first, zero)
  | inr none ↦
      let one = ap (λ (ds : List ℕ). length ds) (decimal_digit number (omega (arith, none))) in
      omega (arith, one, more)
]

-- the version that a number is, by whether its digits are those
version_by : (number : ℕ) (text : List ℕ) (test : Bool) → number_up_to 4294967295 text ≡ Some number
    → bytes_eq text (decimal number) ≡ test
    → version_of_digits text ≡ cond test (Some number) None
version_by number text test read is =
    ap (option_and_then (λ n. cond (bytes_eq text (decimal n)) (Some n) None)) read
    ∙ ap (λ (t : Bool). cond t (Some number) None) is

-- ---- what the code answers

pub version_kept : (most number : ℕ) (text : List ℕ) → most ≡ 4294967295
    → Some number ≡ number_up_to most text → ((1 < length text) × (get_or text 0 0 ≡ 48) → ⊥)
    → Some number ≡ version_of_digits text
version_kept most number text bits read bare =
    let is = sym (read ∙ ap (λ (m : ℕ). number_up_to m text) bits) in
    let same = decimal_is number text (reads_number 4294967295 number text is) bare in
    sym (version_by number text true is ((bytes_eq-Decides text (decimal number)).1 (sym same)))

pub version_refused : (most number : ℕ) (text : List ℕ) → most ≡ 4294967295
    → Some number ≡ number_up_to most text → 1 < length text → get_or text 0 0 ≡ 48
    → None ≡ version_of_digits text
version_refused most number text bits read more zero =
    let is = sym (read ∙ ap (λ (m : ℕ). number_up_to m text) bits) in
    let reads = reads_number 4294967295 number text is in
    sym (version_by number text false is (false_from_ne_true (bytes_eq text (decimal number)) (λ e.
    let same = (bytes_eq-Decides text (decimal number)).0 e in
    decimal_has_no_zero number (omega (arith, reads.within))
    (let length_is = ap (λ (ds : List ℕ). length ds) same in omega (arith, length_is, more))
    (sym (ap (λ (ds : List ℕ). get_or ds 0 0) same) ∙ zero))))

-- ---- a number and its digits

pub version_found : (number : ℕ) → number < 4294967296
    → version_of_digits (decimal number) ≡ Some number
version_found number small =
    let wide : number < 2 ^ 64 = omega (arith, small) in
    let value = digits_value-decimal own number wide in
    let read = up_to-digits 4294967295 (decimal number) (digits_decimal own number wide)
    (decimal_nonempty number wide) in
    let within : digits_value 10 (decimal number) ≤ 4294967295 = omega (arith, value, small) in
    version_by number (decimal number) true
    (read
    ∙ ap (λ (t : Bool). cond t (Some (digits_value 10 (decimal number))) None)
    (le-leb (digits_value 10 (decimal number)) 4294967295 within)
    ∙ ap (λ (m : ℕ). Some m) value)
    ((bytes_eq-Decides (decimal number) (decimal number)).1 refl)

pub version_written : (number : ℕ) (text : List ℕ) → version_of_digits text ≡ Some number
    → (text ≡ decimal number) × (number < 4294967296)
version_written number text is =
    option_and_then_some (λ n. cond (bytes_eq text (decimal n)) (Some n) None)
    (number_up_to 4294967295 text) number is
    (λ n read kept.
    let same = cond_some (bytes_eq text (decimal n)) n number kept in
    let reads = reads_number 4294967295 n text read in (
      (bytes_eq-Decides text (decimal n)).0 same.0 ∙ ap decimal same.1,
      omega (arith, reads.within, same.1),
    ))
