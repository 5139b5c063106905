-- No list has more entries than its text has bytes, and one.
use Rattle.std.proofs.Common.{◌≡◌, ℕ, suc, ◌+◌, ◌≤◌, ◌==◌, Bool, List, [], ◌∷◌, length, map, filter, refl, arith, length-drop, ap, Option}
use Rattle.std.proofs.lemmas.List.{length-map}
use Rattle.std.specs.List.{list_any, slice_split, after_first, position_or_len}
use Rattle.std.proofs.lemmas.List.Splits.{length-slice_split}
use Rattle.std.proofs.lemmas.List.Sums.{count_by-le-length, length-filter}
use Rattle.hx_lists.specs.Blanks.{trim_blanks}
use Rattle.hx_lists.specs.HeaderValues.{Quoting, Outside, quoting_after, bytes_with_quoting, is_cut, hdr_pieces, hdr_values}
use Rattle.hx_lists.specs.NamedValues.{named_value, named_values, NamedValue, cookies, params, separates_params, begins_params}

length-bytes_with_quoting : (q : Quoting) (bytes : List ℕ)
    → length (bytes_with_quoting q bytes) ≡ length bytes
length-bytes_with_quoting q [] = refl
length-bytes_with_quoting q (b ∷ bs) =
    ap (λ n. suc n) (length-bytes_with_quoting (quoting_after q b) bs)

pub length-hdr_values : (line : List ℕ) → length (hdr_values line) ≤ length line + 1
length-hdr_values line =
    let marks = bytes_with_quoting Outside line in
    omega (
      arith,
      length-map (hdr_pieces line) trim_blanks,
      length-map (slice_split is_cut marks) (map (λ byte. byte.1)),
      length-slice_split is_cut marks,
      count_by-le-length is_cut marks,
      length-bytes_with_quoting Outside line,
    )

pub length-named_values : (separates : ℕ → Bool) (text : List ℕ)
    → length (named_values separates text) ≤ length text + 1
length-named_values separates text =
    let pieces = slice_split separates text in
    let is_named = list_any (λ (b : ℕ). b == 61) in
    omega (
      arith,
      length-map (filter is_named pieces) named_value,
      length-filter is_named pieces,
      count_by-le-length is_named pieces,
      length-slice_split separates text,
      count_by-le-length separates text,
    )

pub length-cookies : (line : List ℕ) → length (cookies line) ≤ length line + 1
length-cookies line =
    let trimmed : NamedValue → NamedValue = λ pair. (trim_blanks pair.0, trim_blanks pair.1) in
    omega (
      arith,
      length-map (named_values (λ b. b == 59) line) trimmed,
      length-named_values
          (λ b. b == 59) line,
    )

pub length-params : (target : List ℕ) (delim : Option ℕ)
    → length (params target delim) ≤ length target + 1
length-params target delim =
    let begins = begins_params delim in
    omega (
      arith,
      length-named_values (separates_params delim)
          (after_first begins target),
      length-drop (position_or_len begins target + 1) target,
    )

pub ruleset lengths = (length-hdr_values, length-cookies, length-params)
