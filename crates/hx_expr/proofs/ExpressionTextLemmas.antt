-- Which texts a converter of a list reads as regular expressions.
use Rattle.std.proofs.Common.{◌≡◌, ℕ, suc, List, [], ◌∷◌, ◌++◌, sym, ap, subst, ◌∙◌}
use Rattle.std.specs.Prelude.{Contains, drop, take, length, slice_index_or, ◌<◌}
use Rattle.std.proofs.Math.Seq.{drop-cons}
use Rattle.std.proofs.lemmas.List.{take-append-drop}
use Rattle.std.proofs.lemmas.List.Elements.{Contains-append_left, Contains-append_right, filter_map-append}
use Rattle.hx_ast.specs.declared.conv.Conv.{Conv}
use Rattle.hx_conv_text.specs.Building.{expression_text}
use Rattle.hx_outside.specs.Makers.{ExpressionText}
use Rattle.hx_expr.specs.Expressions.{texts_of}

-- a text of one converter is one of all
text_within : (before rest : List Conv) (c : Conv) (text : ExpressionText) → Contains (texts_of (c ∷ [])) text → Contains (texts_of (before ++ c ∷ rest)) text
text_within before rest c text is =
    rw (filter_map-append expression_text before (c ∷ rest))
    (Contains-append_right (texts_of before) (texts_of (c ∷ rest)) text
    (rw (filter_map-append expression_text (c ∷ []) rest)
    (Contains-append_left (texts_of (c ∷ [])) (texts_of rest) text is)))

-- the converters before one, that one, and those after it
parted_at : (convs : List Conv) (i : ℕ) (c : Conv) → i < length convs → c ≡ slice_index_or convs i c → take i convs ++ c ∷ drop (suc i) convs ≡ convs
parted_at convs i c within is = ap (λ (x : Conv). take i convs ++ x ∷ drop (suc i) convs) is ∙ ap (λ (xs : List Conv). take i convs ++ xs) (sym (drop-cons convs i c within)) ∙ take-append-drop i convs

-- the same of the converter at a position
pub text_at : (convs : List Conv) (i : ℕ) (c : Conv) → i < length convs → c ≡ slice_index_or convs i c
    → (text : ExpressionText) → Contains (texts_of (c ∷ [])) text → Contains (texts_of convs) text
text_at convs i c within at text is =
    subst (λ (xs : List Conv). Contains (texts_of xs) text) (parted_at convs i c within at)
    (text_within (take i convs) (drop (suc i) convs) c text is)
