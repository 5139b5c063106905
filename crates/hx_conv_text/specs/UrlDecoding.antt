-- Decoding a text of a URL: percent-encoding (RFC 3986, section 2.1), and `+` for a space as HTML
-- forms write it (HAProxy configuration manual 2.4, section 7.3.1, `url_dec`).
use Rattle.std.specs.Prelude.{ℕ, ◌==◌, ◌&&◌, ◌||◌, Bool, true, false, not, ℤ, List, [], ◌∷◌, ◌++◌, map, drop, take, Option, Some, None, if◌then◌else◌}
use Rattle.std.specs.Char.{is_ascii_hexdigit}
use Rattle.std.specs.List.{position_or_len}
use Rattle.std.specs.Option.{option_map_or}
use Rattle.hx_base.specs.Bytes.{ascii}
use Rattle.hx_sample.specs.Cast.{is_not_zero}
use Rattle.percent_encoding.specs.Percent.{percent_decode, percent_sign}

abbrev pub space_for_plus : ℕ → ℕ
space_for_plus b = if b == ascii "+" then ascii " " else b

-- from where on a `+` stands for a space: from the start in a form, and else from the first `?`
abbrev pub query_start : Bool → List ℕ → ℕ
query_start is_form text = if is_form then 0 else position_or_len (λ b. b == ascii "?") text

-- the text with a space for each `+` from a position on
abbrev pub spaced_from : ℕ → List ℕ → List ℕ
spaced_from query text = take query text ++ map space_for_plus (drop query text)

-- the text with a space for each `+` in a form, or for each after the first `?`
abbrev pub with_spaces : Bool → List ℕ → List ℕ
with_spaces is_form text = spaced_from (query_start is_form text) text

-- the text begins with two hexadecimal digits
abbrev pub has_digits : List ℕ → Bool
has_digits (high ∷ low ∷ rest) = is_ascii_hexdigit high && is_ascii_hexdigit low
has_digits _ = false

-- two hexadecimal digits follow each `%`
abbrev pub is_encoded : List ℕ → Bool
is_encoded [] = true
is_encoded (b ∷ rest) = (not (b == percent_sign) || has_digits rest) && is_encoded rest

-- The text decoded, and none where a `%` begins no escape. It is a form, in which `+` is a space
-- everywhere, where a number is given that isn't 0.
abbrev pub url_dec_of : Option ℤ → List ℕ → Option (List ℕ)
url_dec_of form text =
    let spaced = with_spaces (option_map_or is_not_zero form false) text in
    if is_encoded text then Some (percent_decode spaced) else None
