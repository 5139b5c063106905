-- Which of many occurrences is meant.
use Rattle.std.specs.Prelude.{zero, suc, ℤ, pos, negsuc, Bool, true, false, List, reverse, slice_get, Option, None, Some, if◌then◌else◌}
use Rattle.std.specs.Option.{option_flatten, option_map_or, option_to_list}

-- The occurrence of a number: the first is 1, and the last is -1 (HAProxy configuration manual 2.4
-- section 7.3.6, `req.fhdr`). None has the number 0, or one past either end.
abbrev pub occurrence_at : {A : Type 0} → ℤ → List A → Option A
occurrence_at (pos zero) xs = None
occurrence_at (pos (suc k)) xs = slice_get xs k
occurrence_at (negsuc k) xs = slice_get (reverse xs) k

-- all of them, or the one of the number that is given
abbrev pub selection : {A : Type 0} → Option ℤ → List A → List A
selection at xs = option_map_or (λ n. option_to_list (occurrence_at n xs)) at xs

-- the last occurrence or the first, whether it is a value or none; none of no occurrences
abbrev pub end_of : {A : Type 0} → Bool → List (Option A) → Option A
end_of last xs = option_flatten (slice_get (if last then reverse xs else xs) 0)

-- the first occurrence, as proofs about either end speak of it
abbrev pub first_of : {A : Type 0} → List (Option A) → Option A
first_of xs = option_flatten (slice_get xs 0)

-- of those that are selected the last or the first
abbrev pub selection_end : {A : Type 0} → Bool → Option ℤ → List A → Option A
selection_end last (Some n) xs = occurrence_at n xs
selection_end true None xs = slice_get (reverse xs) zero
selection_end false None xs = slice_get xs zero
