-- The values of expressions from one occurrence and from all.
use Rattle.std.proofs.Common.{◌≡◌, Bool, true, false, List, [], ◌∷◌, map, reverse, Option, None, is_some, refl, ap, sym, ◌∙◌, arith}
use Rattle.std.specs.List.{list_any}
use Rattle.std.proofs.lemmas.List.{map-append}
use mathlib.Core.List.{reverse-cons}
use Rattle.hx_ast.specs.declared.conv.Conv.{Conv}
use Rattle.hx_ast.specs.declared.expr.Expr.{Expr}
use Rattle.hx_fetch.specs.Fetches.{chosen_of, occurrences_of}
use Rattle.hx_fetch.specs.Picks.{end_of, first_of}
use Rattle.hx_fetch.specs.World.{Context}
use Rattle.hx_sample.specs.Find.{Entry}
use Rattle.hx_sample.specs.Tables.{TableHead}
use Rattle.hx_sample.specs.declared.sample.Value.{Value}
use Rattle.hx_expr.specs.Values.{expr_value, expr_values, value_after}

-- none stays none
pub none_after : (context : Context) (heads : List TableHead) (lists : List (List Entry)) (convs : List Conv) → value_after context heads lists convs None ≡ None
none_after context heads lists [] = refl
none_after context heads lists (c ∷ convs) = none_after context heads lists convs

first_mapped : (f : Option Value → Option Value) → f None ≡ None → (xs : List (Option Value)) → f (first_of xs) ≡ first_of (map f xs)
first_mapped f none [] = none
first_mapped f none (x ∷ xs) = refl

-- a list that is mapped and turned round
mapped_back : (f : Option Value → Option Value) (xs : List (Option Value)) → map f (reverse xs) ≡ reverse (map f xs)
mapped_back f [] = refl
mapped_back f (x ∷ xs) = grind (arith, reverse-cons, map-append, mapped_back f xs)

-- what keeps none maps the end of a list to the end of the mapped list
pub end_mapped : (f : Option Value → Option Value) → f None ≡ None → (last : Bool) (xs : List (Option Value)) → f (end_of last xs) ≡ end_of last (map f xs)
end_mapped f none true xs = first_mapped f none (reverse xs) ∙ ap first_of (mapped_back f xs)
end_mapped f none false xs = first_mapped f none xs

-- what has one occurrence has one value
pub one_value : (context : Context) (heads : List TableHead) (lists : List (List Entry)) (expr : Expr) → occurrences_of expr.fetch context ≡ chosen_of expr.fetch context ∷ [] → expr_values context heads lists expr ≡ expr_value context heads lists expr ∷ []
one_value context heads lists expr one = ap (map (λ occurrence. value_after context heads lists expr.convs occurrence)) one

same_list : (xs : List (Option Value)) → map (λ x. x) xs ≡ xs
same_list [] = refl
same_list (x ∷ xs) = ap (λ ys. x ∷ ys) (same_list xs)

-- without converters the values are the occurrences
pub found_unconverted : (context : Context) (heads : List TableHead) (lists : List (List Entry)) (expr : Expr) → expr.convs ≡ [] → list_any is_some (occurrences_of expr.fetch context) ≡ list_any is_some (expr_values context heads lists expr)
found_unconverted context heads lists expr none =
    sym (ap (λ convs. list_any is_some (map (λ occurrence. value_after context heads lists convs occurrence) (occurrences_of expr.fetch context))) none
    ∙ ap (list_any is_some) (same_list (occurrences_of expr.fetch context)))
