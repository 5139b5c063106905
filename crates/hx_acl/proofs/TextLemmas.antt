-- Which texts a part of a list reads as regular expressions.
use Rattle.std.proofs.Common.{◌≡◌, ℕ, suc, List, ◌∷◌, ◌++◌, sym, ap, subst, ◌∙◌}
use Rattle.std.specs.Prelude.{Contains, drop, take, length, slice_index_or, ◌<◌}
use Rattle.std.specs.List.{flat_map}
use Rattle.std.proofs.Math.Seq.{drop-cons}
use Rattle.std.proofs.lemmas.Grind.{flat_map-append}
use Rattle.std.proofs.lemmas.List.{take-append-drop}
use Rattle.std.proofs.lemmas.List.Elements.{Contains-append_left, Contains-append_right}
use Rattle.hx_outside.specs.Makers.{ExpressionText}

-- a text of one item is one of all
text_within : {A : Type 0} (texts : A → List ExpressionText) (before rest : List A) (x : A) (text : ExpressionText) → Contains (texts x) text → Contains (flat_map texts (before ++ x ∷ rest)) text
text_within texts before rest x text is =
    rw (flat_map-append texts before (x ∷ rest))
    (Contains-append_right (flat_map texts before) (texts x ++ flat_map texts rest) text
    (Contains-append_left (texts x) (flat_map texts rest) text is))

-- the items before one, that one, and those after it
parted_at : {A : Type 0} (xs : List A) (i : ℕ) (x : A) → i < length xs → x ≡ slice_index_or xs i x → take i xs ++ x ∷ drop (suc i) xs ≡ xs
parted_at {A} xs i x within is = ap (λ (y : A). take i xs ++ y ∷ drop (suc i) xs) is ∙ ap (λ (ys : List A). take i xs ++ ys) (sym (drop-cons xs i x within)) ∙ take-append-drop i xs

-- the same of the item at a position
pub text_at : {A : Type 0} (texts : A → List ExpressionText) (xs : List A) (i : ℕ) (x : A) → i < length xs → x ≡ slice_index_or xs i x
    → (text : ExpressionText) → Contains (texts x) text → Contains (flat_map texts xs) text
text_at {A} texts xs i x within at text is =
    subst (λ (ys : List A). Contains (flat_map texts ys) text) (parted_at xs i x within at)
    (text_within texts (take i xs) (drop (suc i) xs) x text is)
