-- The last line of a header, looked for from the end of all lines.
use Rattle.std.proofs.Common.{◌≡◌, ◌<◌, ◌-◌, ℕ, Bool, true, suc, zero, List, [], ◌∷◌, Some, None, drop, ap, sym, subst, ◌∙◌, inl, inr, arith}
use Rattle.std.specs.Prelude.{Option, slice_get, reverse}
use Rattle.std.specs.Option.{option_map_or}
use Rattle.std.specs.Str.{str_eq_ignore_ascii_case}
use Rattle.std.proofs.lemmas.Bool.{cases_Bool}
use Rattle.hx_lists.specs.NamedValues.{NamedValue}
use Rattle.hx_fetch.specs.Views.{lines_under}
use Rattle.hx_fetch.proofs.StepLemmas.{last_after, last_of_none}

-- whether a line is one of the header
abbrev is_of : Option (List ℕ) → NamedValue → Bool
is_of name line = option_map_or (str_eq_ignore_ascii_case line.0) name true

last_from : (name before : Option (List ℕ)) (lines : List NamedValue) (k : ℕ) (line : NamedValue) → slice_get lines k ≡ Some line → is_of name line ≡ true → lines_under name (drop (suc k) lines) ≡ [] → last_after before (lines_under name lines) ≡ Some line.1
last_from name before [] k line at is none = cc
last_from name before (l ∷ ls) zero line at is none =
    let same : l ≡ line = cc at in
    rw (ap (is_of name) same ∙ is) (rw none (ap (λ x. Some x.1) same))
last_from name before (l ∷ ls) (suc k) line at is none =
    elim (cases_Bool (is_of name l)) [
      | inl e ↦ rw e (last_from name (Some l.1) ls k line at is none)
      | inr e ↦ rw e (last_from name before ls k line at is none)
    ]

-- a line of the header that no other of its lines follows is the last
pub last_line_is : (name : Option (List ℕ)) (lines : List NamedValue) (left : ℕ) (line : NamedValue) → 0 < left → slice_get lines (left - 1) ≡ Some line → is_of name line ≡ true → lines_under name (drop left lines) ≡ [] → Some line.1 ≡ slice_get (reverse (lines_under name lines)) 0
last_line_is name lines zero line some at is none = absurd (omega (arith, some))
last_line_is name lines (suc k) line some at is none =
    let one : suc k - 1 ≡ k = omega arith in
    let there : slice_get lines k ≡ Some line = subst (λ (n : ℕ). slice_get lines n ≡ Some line) one at in
    sym (last_from name None lines k line there is none) ∙ last_of_none (lines_under name lines)
