-- Which texts a part of what is built reads as regular expressions.
use Rattle.std.proofs.Common.{◌≡◌, ℕ, suc, List, ◌∷◌, ◌++◌, sym, ap, subst, ◌∙◌}
use Rattle.std.specs.Prelude.{Contains, drop, take, length, slice_index_or, ◌<◌}
use Rattle.std.proofs.Math.Seq.{drop-cons}
use Rattle.std.proofs.lemmas.Grind.{flat_map-append}
use Rattle.std.proofs.lemmas.List.{take-append-drop}
use Rattle.std.proofs.lemmas.List.Elements.{Contains-append_left, Contains-append_right}
use Rattle.hx_ast.specs.declared.action.Part.{Part}
use Rattle.hx_ast.specs.declared.expr.Expr.{Expr}
use Rattle.hx_expr.specs.Expressions.{expression_texts}
use Rattle.hx_outside.specs.Makers.{ExpressionText}
use Rattle.hx_rules.specs.Building.{exprs_texts, format_exprs, part_exprs}

-- ---- two lists of expressions

-- a text of the first, and one of the second
pub text_first : (first second : List Expr) (text : ExpressionText) → Contains (exprs_texts first) text → Contains (exprs_texts (first ++ second)) text
text_first first second text is =
    rw (flat_map-append expression_texts first second)
    (Contains-append_left (exprs_texts first) (exprs_texts second) text is)

pub text_second : (first second : List Expr) (text : ExpressionText) → Contains (exprs_texts second) text → Contains (exprs_texts (first ++ second)) text
text_second first second text is =
    rw (flat_map-append expression_texts first second)
    (Contains-append_right (exprs_texts first) (exprs_texts second) text is)

-- ---- the parts of a format

-- a text of one part is one of the format
text_within : (before rest : List Part) (part : Part) (text : ExpressionText) → Contains (exprs_texts (part_exprs part)) text → Contains (exprs_texts (format_exprs (before ++ part ∷ rest))) text
text_within before rest part text is =
    rw (flat_map-append part_exprs before (part ∷ rest))
    (text_second (format_exprs before) (part_exprs part ++ format_exprs rest) text
    (text_first (part_exprs part) (format_exprs rest) text is))

-- the parts before one, that one, and those after it
parted_at : (format : List Part) (i : ℕ) (part : Part) → i < length format → part ≡ slice_index_or format i part → take i format ++ part ∷ drop (suc i) format ≡ format
parted_at format i part within is = ap (λ (x : Part). take i format ++ x ∷ drop (suc i) format) is ∙ ap (λ (parts : List Part). take i format ++ parts) (sym (drop-cons format i part within)) ∙ take-append-drop i format

-- a text of the part at a position
pub text_at : (format : List Part) (i : ℕ) (part : Part) → i < length format → part ≡ slice_index_or format i part
    → (text : ExpressionText) → Contains (exprs_texts (part_exprs part)) text → Contains (exprs_texts (format_exprs format)) text
text_at format i part within at text is =
    subst (λ (parts : List Part). Contains (exprs_texts (format_exprs parts)) text) (parted_at format i part within at)
    (text_within (take i format) (drop (suc i) format) part text is)
