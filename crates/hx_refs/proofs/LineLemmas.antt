-- Lines of a file and the pairs that they give.
use Rattle.std.proofs.Common.{◌≡◌, ◌++◌, [], ◌∷◌, List, Option, None, Some, sym, ap, append-nil, append_assoc}
use Rattle.std.specs.List.{cons_option}
use Rattle.std.specs.Prelude.{option_to_list}
use Rattle.std.proofs.lemmas.List.Sums.{prefix_len-le-length, suffix_len-le-length}

-- how many bytes at either end pass a test: no more than there are
pub ruleset ends = (prefix_len-le-length, suffix_len-le-length)

-- what a line gives goes to the pairs before it
pub line_moves : {A : Type 0} (xs : List A) (o : Option A) (ys : List A) → xs ++ cons_option o ys ≡ (xs ++ option_to_list o) ++ ys
line_moves xs None ys = ap (λ zs. zs ++ ys) (sym (append-nil xs))
line_moves xs (Some x) ys = sym (append_assoc xs (x ∷ []) ys)
