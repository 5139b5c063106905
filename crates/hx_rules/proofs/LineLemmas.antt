-- Header lines from a position on.
use Rattle.std.proofs.Common.{◌≡◌, ℕ, ◌+◌, suc, zero, true, false, List, [], ◌∷◌, Some, cond, codes, drop, ap, ◌∙◌, add-one}
use Rattle.std.specs.Prelude.{slice_get}
use Rattle.std.specs.List.{find}
use Rattle.std.specs.Option.{option_map_or}
use Rattle.hx_http.specs.Edits.{has_name}

-- the item at a position is the first of what is left from it on
drop_from : {A : Type 0} (xs : List A) (k : ℕ) (x : A) → slice_get xs k ≡ Some x → drop k xs ≡ x ∷ drop (suc k) xs
drop_from [] k x h = cc
drop_from (y ∷ ys) zero x h = cc
drop_from (y ∷ ys) (suc k) x h = drop_from ys k x h

pub drop_at : {A : Type 0} (xs : List A) (k : ℕ) (x : A) → slice_get xs k ≡ Some x → drop k xs ≡ x ∷ drop (k + 1) xs
drop_at xs k x h = rw add-one (drop_from xs k x h)

-- the value of the first line `Host` of these
abbrev pub first_host : List (List ℕ × List ℕ) → List ℕ
first_host lines =
    option_map_or (λ (line : List ℕ × List ℕ). line.1) (find (has_name (codes "host")) lines) []

-- a line of another name is passed over
pub host_after : (lines : List (List ℕ × List ℕ)) (k : ℕ) (line : List ℕ × List ℕ)
    → slice_get lines k ≡ Some line → has_name (codes "host") line ≡ false
    → first_host (drop k lines) ≡ first_host (drop (k + 1) lines)
host_after lines k line at other =
    ap first_host (drop_at lines k line at)
    ∙ ap (λ is. option_map_or (λ (line : List ℕ × List ℕ). line.1) (cond is (Some line) (find (has_name (codes "host")) (drop (k + 1) lines))) []) other

-- a line of the name is the first
pub host_here : (lines : List (List ℕ × List ℕ)) (k : ℕ) (line : List ℕ × List ℕ)
    → slice_get lines k ≡ Some line → has_name (codes "host") line ≡ true
    → first_host (drop k lines) ≡ line.1
host_here lines k line at named =
    ap first_host (drop_at lines k line at)
    ∙ ap (λ is. option_map_or (λ (line : List ℕ × List ℕ). line.1) (cond is (Some line) (find (has_name (codes "host")) (drop (k + 1) lines))) []) named
