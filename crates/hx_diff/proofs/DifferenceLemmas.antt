-- The host among header lines, line by line, and the lines of an answer after their marks.
use Rattle.std.proofs.Common.{◌≡◌, ℕ, zero, suc, ◌+◌, ◌==◌, Bool, true, false, List, [], ◌∷◌, ◌++◌, codes, drop, length, slice_get, None, Some, refl, sym, ◌∙◌, ap, append_assoc, arith, if◌then◌else◌}
use Rattle.std.specs.List.{list_any}
use Rattle.std.specs.Option.{option_map_or}
use Rattle.std.proofs.lemmas.Bool.{ne_eqb}
use Rattle.hx_http.proofs.CutLemmas.{lacks-cut_of, neither, IsCut-cut_of}
use Rattle.hx_http.specs.Edits.{has_name}
use Rattle.hx_text.specs.Cut.{cut_of}
use Rattle.hx_diff.specs.Difference.{host_in, host_of_line, marked, marked_from}

-- ---- the host

found_by : (test : Bool) (own value rest : List ℕ) → Some value ≡ (if test then Some own else None) → (if test then own else rest) ≡ value
found_by true own value rest is = cc
found_by false own value rest is = cc

-- from a line on, where it has a host
pub host_found : (lines : List (List ℕ × List ℕ)) (at : ℕ) (value : List ℕ) → Some value ≡ option_map_or host_of_line (slice_get lines at) None
    → host_in (drop at lines) ≡ value
host_found [] at value is = cc
host_found (first ∷ lines) zero value is = found_by (has_name (codes "host") first) first.1 value (host_in lines) is
host_found (first ∷ lines) (suc at) value is = host_found lines at value is

kept_by : (test : Bool) (own rest : List ℕ) → (if test then Some own else None) ≡ None → rest ≡ (if test then own else rest)
kept_by true own rest is = cc
kept_by false own rest is = refl

kept : (lines : List (List ℕ × List ℕ)) (at : ℕ) → option_map_or host_of_line (slice_get lines at) None ≡ None
    → host_in (drop (suc at) lines) ≡ host_in (drop at lines)
kept [] zero is = refl
kept [] (suc at) is = refl
kept (first ∷ lines) zero is = kept_by (has_name (codes "host") first) first.1 (host_in lines) is
kept (first ∷ lines) (suc at) is = kept lines at is

-- and where it has none
pub host_kept : (lines : List (List ℕ × List ℕ)) (at : ℕ) → option_map_or host_of_line (slice_get lines at) None ≡ None
    → host_in (drop (at + 1) lines) ≡ host_in (drop at lines)
host_kept lines at is = let next : at + 1 ≡ suc at = omega arith in ap (λ n. host_in (drop n lines)) next ∙ kept lines at is

-- ---- marks

inside_marked : (mark line rest : List ℕ) → list_any (λ b. b == 10) line ≡ false → marked_from mark false (line ++ 10 ∷ rest) ≡ line ++ 10 ∷ marked mark rest
inside_marked mark [] rest lacks = refl
inside_marked mark (b ∷ line) rest lacks =
    let parts = neither (b == 10) (list_any (λ x. x == 10) line) lacks in
    rw parts.0 (ap (λ (text : List ℕ). b ∷ text) (inside_marked mark line rest parts.1))

line_marked : (mark line rest : List ℕ) → list_any (λ b. b == 10) line ≡ false → marked mark (line ++ 10 ∷ rest) ≡ mark ++ (line ++ 10 ∷ marked mark rest)
line_marked mark [] rest lacks = refl
line_marked mark (b ∷ line) rest lacks =
    let parts = neither (b == 10) (list_any (λ x. x == 10) line) lacks in
    rw parts.0 (ap (λ (text : List ℕ). mark ++ b ∷ text) (inside_marked mark line rest parts.1))

-- a line after its mark, and then the others
pub more_marked : (start mark text line rest : List ℕ) → cut_of 10 text ≡ Some (line, rest)
    → (start ++ (mark ++ (line ++ 10 ∷ []))) ++ marked mark rest ≡ start ++ marked mark text
more_marked start mark text line rest is =
    let cut = IsCut-cut_of 10 text line rest is in
    append_assoc start (mark ++ (line ++ 10 ∷ [])) (marked mark rest)
    ∙ ap (λ (xs : List ℕ). start ++ xs) (append_assoc mark (line ++ 10 ∷ []) (marked mark rest)
    ∙ ap (λ (xs : List ℕ). mark ++ xs) (append_assoc line (10 ∷ []) (marked mark rest))
    ∙ sym (line_marked mark line rest cut.first) ∙ ap (λ (xs : List ℕ). marked mark xs) (sym cut.whole))

inside_stays : (mark text : List ℕ) → list_any (λ b. b == 10) text ≡ false → marked_from mark false text ≡ text
inside_stays mark [] lacks = refl
inside_stays mark (b ∷ text) lacks =
    let parts = neither (b == 10) (list_any (λ x. x == 10) text) lacks in
    rw parts.0 (ap (λ (xs : List ℕ). b ∷ xs) (inside_stays mark text parts.1))

else_of : (test : Bool) (other : List ℕ) → test ≡ false → (if test then [] else other) ≡ other
else_of true other is = cc
else_of false other is = refl

end_of : (mark text : List ℕ) → list_any (λ b. b == 10) text ≡ false → (if length text == 0 then [] else mark ++ text) ≡ marked mark text
end_of mark [] lacks = refl
end_of mark (b ∷ text) lacks =
    let parts = neither (b == 10) (list_any (λ x. x == 10) text) lacks in
    let some : (length (b ∷ text) == 0) ≡ false = ne_eqb (length (b ∷ text)) 0 (λ none. omega (arith, none)) in
    else_of (length (b ∷ text) == 0) (mark ++ b ∷ text) some
    ∙ rw parts.0 (ap (λ (xs : List ℕ). mark ++ b ∷ xs) (sym (inside_stays mark text parts.1)))

-- what follows the last line feed
pub end_marked : (start mark text : List ℕ) → cut_of 10 text ≡ None → start ++ (if length text == 0 then [] else mark ++ text) ≡ start ++ marked mark text
end_marked start mark text is = ap (λ (xs : List ℕ). start ++ xs) (end_of mark text (lacks-cut_of 10 text is))
