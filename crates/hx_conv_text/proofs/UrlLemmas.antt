-- Which texts of a URL decoding leaves as they are.
use Rattle.std.proofs.Common.{◌≡◌, ℕ, ◌+◌, ◌*◌, ◌<◌, Bool, true, false, ◌==◌, ◌&&◌, not, ℤ, List, [], ◌∷◌, ◌++◌, map, drop, take, length, Option, Some, refl, sym, ap, ◌∙◌, subst, inl, inr, arith, eq-eqb, eqb-true, length-append, take-append-drop}
use Rattle.std.proofs.lemmas.List.{length-map}
use Rattle.std.proofs.lemmas.List.Folds.{list_any-append}
use Rattle.std.specs.Char.{digit_value, is_ascii_hexdigit}
use Rattle.std.specs.List.{list_any}
use Rattle.std.specs.Option.{option_map_or}
use Rattle.std.proofs.lemmas.Bool.{cases_Bool, or_parts, cond-true, cond-false}
use Rattle.std.proofs.lemmas.Bool.Decides.{nat_tests}
use Rattle.hx_base.specs.Bytes.{ascii}
use Rattle.hx_sample.specs.Cast.{is_not_zero}
use Rattle.percent_encoding.specs.Percent.{is_escape, percent_decode, percent_sign}
use Rattle.percent_encoding.proofs.PercentLemmas.{length-percent_decode, percent_decode_escape, percent_decode_not_percent}
use Rattle.hx_conv_text.specs.UrlDecoding.{has_digits, is_encoded, query_start, space_for_plus, spaced_from, url_dec_of}

abbrev any_plus : List ℕ → Bool
any_plus text = list_any (λ b. b == ascii "+") text

abbrev any_percent : List ℕ → Bool
any_percent text = list_any (λ b. b == ascii "%") text

-- ---- spaces

spaces_same : (xs : List ℕ) → any_plus xs ≡ false → map space_for_plus xs ≡ xs
spaces_same [] none = refl
spaces_same (x ∷ xs) none =
    elim (cases_Bool (x == ascii "+")) [
      | inl is ↦ absurd (let no : true ≡ false = rw is at none in cc)
      | inr other ↦ rw other (ap (λ rest. x ∷ rest) (spaces_same xs (rw other at none)))
    ]

same_spaces : (xs : List ℕ) → map space_for_plus xs ≡ xs → any_plus xs ≡ false
same_spaces [] same = refl
same_spaces (x ∷ xs) same =
    elim (cases_Bool (x == ascii "+")) [
      | inl is ↦
          let space : ascii " " ≡ x = let first : space_for_plus x ≡ x = cc in rw is at first in
          let plus : x ≡ ascii "+" = eqb-true x (ascii "+") is in
          absurd (omega arith)
      | inr other ↦ rw other (same_spaces xs (let rest : map space_for_plus xs ≡ xs = cc in rest))
    ]

length-spaced : (query : ℕ) (text : List ℕ) → length (spaced_from query text) ≡ length text
length-spaced query text =
    length-append (take query text) (map space_for_plus (drop query text))
    ∙ ap (λ n. length (take query text) + n) (length-map (drop query text) space_for_plus)
    ∙ sym (length-append (take query text) (drop query text))
    ∙ ap length (take-append-drop query text)

-- a front that is kept, and what follows it
same_end : (front xs ys : List ℕ) → front ++ xs ≡ front ++ ys → xs ≡ ys
same_end [] xs ys same = same
same_end (x ∷ front) xs ys same = same_end front xs ys cc

-- ---- escapes

-- a text without a percent sign has no escape
no_percent : (xs : List ℕ) → any_percent xs ≡ false → percent_decode xs ≡ xs
unfolding percent_decode
no_percent [] none = refl
no_percent (x ∷ xs) none =
    elim (cases_Bool (x == ascii "%")) [
      | inl is ↦ absurd (let no : true ≡ false = rw is at none in cc)
      | inr other ↦
          percent_decode_not_percent x xs (λ is. let yes : (x == 37) ≡ true = eq-eqb x 37 is in cc)
          ∙ ap (λ rest. x ∷ rest) (no_percent xs (rw other at none))
    ]

-- Where decoding leaves as many bytes it has decoded none.
none_decoded : (xs : List ℕ) → length (percent_decode xs) ≡ length xs → percent_decode xs ≡ xs
unfolding percent_decode
none_decoded [] same = refl
none_decoded (b ∷ []) same = refl
none_decoded (b ∷ c ∷ []) same = refl
none_decoded (b ∷ high ∷ low ∷ rest) same =
    elim (cases_Bool (is_escape b high low)) [
      | inl is ↦
          let fewer : length ((16 * digit_value high + digit_value low) ∷ percent_decode rest) ≡ length (b ∷ high ∷ low ∷ rest) =
          ap length (sym (cond-true (is_escape b high low) _ _ is)) ∙ same in
          absurd (omega (arith, length-percent_decode rest))
      | inr other ↦
          let kept = cond-false (is_escape b high low) ((16 * digit_value high + digit_value low) ∷ percent_decode rest) (b ∷ percent_decode (high ∷ low ∷ rest)) other in
          let count : length (b ∷ percent_decode (high ∷ low ∷ rest)) ≡ length (b ∷ high ∷ low ∷ rest) = ap length (sym kept) ∙ same in
          kept ∙ ap (λ more. b ∷ more) (none_decoded (high ∷ low ∷ rest) (omega arith))
    ]

hex_value : (c : ℕ) → is_ascii_hexdigit c ≡ true → digit_value c < 16
hex_value c is = grind (arith, nat_tests)

first_digits : (high low : ℕ) (rest : List ℕ) → has_digits (high ∷ low ∷ rest) ≡ true
    → (is_ascii_hexdigit high ≡ true) × (is_ascii_hexdigit low ≡ true)
first_digits high low rest both =
    elim (cases_Bool (is_ascii_hexdigit high)) [
      | inl is ↦ (is, rw is at both)
      | inr other ↦ absurd (let no : false ≡ true = rw other at both in cc)
    ]

-- an escape is decoded to fewer bytes
escape_changes : (rest : List ℕ) → has_digits rest ≡ true → percent_decode (percent_sign ∷ rest) ≡ percent_sign ∷ rest → ⊥
escape_changes [] digits same = cc
escape_changes (high ∷ []) digits same = cc
escape_changes (high ∷ low ∷ rest) digits same =
    let hex = first_digits high low rest digits in
    let made = percent_decode_escape percent_sign high low rest refl (hex_value high hex.0) (hex_value low hex.1) in
    let count : length ((16 * digit_value high + digit_value low) ∷ percent_decode rest) ≡ length (percent_sign ∷ high ∷ low ∷ rest) =
    ap length (sym made ∙ same) in
    omega (arith, length-percent_decode rest)

-- a text that decoding leaves as it is has no escape
no_escape : (xs : List ℕ) → is_encoded xs ≡ true → percent_decode xs ≡ xs → any_percent xs ≡ false
no_escape [] encoded same = refl
no_escape (x ∷ xs) encoded same =
    elim (cases_Bool (x == percent_sign)) [
      | inl is ↦
          let here : (has_digits xs && is_encoded xs) ≡ true = rw is at encoded in
          let first : x ≡ percent_sign = eqb-true x percent_sign is in
          absurd (escape_changes xs (and_first (has_digits xs) (is_encoded xs) here)
          (subst (λ b. percent_decode (b ∷ xs) ≡ b ∷ xs) first same))
      | inr other ↦
          let rest = percent_decode_not_percent x xs (λ is. let yes : (x == 37) ≡ true = eq-eqb x 37 is in cc) in
          let later : is_encoded xs ≡ true = rw other at encoded in
          let unchanged : percent_decode xs ≡ xs = let both : x ∷ percent_decode xs ≡ x ∷ xs = sym rest ∙ same in cc in
          rw other (no_escape xs later unchanged)
    ]
  where
    and_first : (a b : Bool) → (a && b) ≡ true → a ≡ true
    and_first true b both = refl
    and_first false b both = cc

-- ---- the whole

not_both : (a b : Bool) → true ≡ (not a && not b) → (a ≡ false) × (b ≡ false)
not_both false false both = (refl, refl)
not_both false true both = cc
not_both true b both = cc

-- a text in which nothing stands for another byte stays
plain_stays : (query : ℕ) (text : List ℕ) → true ≡ (not (any_percent text) && not (any_plus (drop query text)))
    → percent_decode (spaced_from query text) ≡ text
plain_stays query text plain =
    let none = not_both (any_percent text) (any_plus (drop query text)) plain in
    let spaced : spaced_from query text ≡ text =
    ap (λ end. take query text ++ end) (spaces_same (drop query text) none.1) ∙ take-append-drop query text in
    ap percent_decode spaced ∙ no_percent text none.0

-- and one that stays is such a text
stays_plain : (query : ℕ) (text : List ℕ) → is_encoded text ≡ true → percent_decode (spaced_from query text) ≡ text
    → false ≡ (not (any_percent text) && not (any_plus (drop query text))) → ⊥
stays_plain query text encoded same other =
    let count = ap length same ∙ sym (length-spaced query text) in
    let spaced : spaced_from query text ≡ text = sym (none_decoded (spaced_from query text) count) ∙ same in
    let escapes = no_escape text encoded (ap percent_decode (sym spaced) ∙ same) in
    let pluses = same_spaces (drop query text)
    (same_end (take query text) _ _ (spaced ∙ sym (take-append-drop query text))) in
    let yes : false ≡ true = rw (escapes, pluses) at other in
    cc

-- the value of a text that is encoded
decoded_as : (form : Option ℤ) (is_form : Bool) (query : ℕ) (text : List ℕ) → true ≡ is_encoded text
    → is_form ≡ option_map_or is_not_zero form false → query ≡ query_start is_form text
    → url_dec_of form text ≡ Some (percent_decode (spaced_from query text))
decoded_as form is_form query text encoded kind start =
    rw (← encoded, start, kind) refl

pub plain_text : (form : Option ℤ) (is_form : Bool) (query : ℕ) (text seen : List ℕ) → seen ≡ text → true ≡ is_encoded seen
    → is_form ≡ option_map_or is_not_zero form false → query ≡ query_start is_form seen
    → true ≡ (not (any_percent seen) && not (any_plus (drop query seen)))
    → Some text ≡ url_dec_of form text
plain_text form is_form query text seen is encoded kind start plain =
    subst (λ t. Some t ≡ url_dec_of form t) is
    (sym (decoded_as form is_form query seen encoded kind start ∙ ap Some (plain_stays query seen plain)))

pub other_text : (form : Option ℤ) (is_form : Bool) (query : ℕ) (text seen : List ℕ) → seen ≡ text → true ≡ is_encoded seen
    → is_form ≡ option_map_or is_not_zero form false → query ≡ query_start is_form seen
    → false ≡ (not (any_percent seen) && not (any_plus (drop query seen)))
    → url_dec_of form text ≡ Some text → ⊥
other_text form is_form query text seen is encoded kind start other same =
    let here : url_dec_of form seen ≡ Some seen = subst (λ t. url_dec_of form t ≡ Some t) (sym is) same in
    let both : Some (percent_decode (spaced_from query seen)) ≡ Some seen = sym (decoded_as form is_form query seen encoded kind start) ∙ here in
    stays_plain query seen (sym encoded) (cc) other

-- what was decoded is the value
pub decoded_value : (form : Option ℤ) (is_form : Bool) (query : ℕ) (text seen made : List ℕ) → seen ≡ text → true ≡ is_encoded seen
    → is_form ≡ option_map_or is_not_zero form false → query ≡ query_start is_form seen
    → made ≡ percent_decode (spaced_from query seen) → url_dec_of form text ≡ Some made
decoded_value form is_form query text seen made is encoded kind start value =
    subst (λ t. url_dec_of form t ≡ Some made) is
    (decoded_as form is_form query seen encoded kind start ∙ ap Some (sym value))

-- a text without percent signs is encoded
encoded_without_percent : (xs : List ℕ) → any_percent xs ≡ false → is_encoded xs ≡ true
encoded_without_percent [] none = refl
encoded_without_percent (x ∷ xs) none =
    elim (cases_Bool (x == ascii "%")) [
      | inl is ↦ absurd (let no : true ≡ false = rw is at none in cc)
      | inr other ↦ rw other (encoded_without_percent xs (rw other at none))
    ]

none_after : (at : ℕ) (xs : List ℕ) → any_plus xs ≡ false → any_plus (drop at xs) ≡ false
none_after at xs none =
    (or_parts (any_plus (take at xs)) (any_plus (drop at xs))
    (sym (list_any-append (λ b. b == ascii "+") (take at xs) (drop at xs))
    ∙ ap any_plus (take-append-drop at xs) ∙ none)).1

-- a text without percent signs and pluses is decoded as itself
pub unmarked_text : (form : Option ℤ) (text : List ℕ) → any_percent text ≡ false → any_plus text ≡ false
    → url_dec_of form text ≡ Some text
unmarked_text form text percent plus =
    let is_form = option_map_or is_not_zero form false in
    let query = query_start is_form text in
    let later = none_after query text plus in
    let plain : true ≡ (not (any_percent text) && not (any_plus (drop query text))) = rw (percent, later) refl in
    sym (plain_text form is_form query text text refl (sym (encoded_without_percent text percent)) refl refl plain)
