-- When tests of one value match, and those that need a value alone.
use Rattle.std.proofs.Common.{◌≡◌, Bool, true, false, ◌||◌, List, [], ◌∷◌, Option, None, Some, is_some, refl, ap, sym, ◌∙◌}
use Rattle.std.specs.List.{list_any}
use Rattle.hx_ast.specs.declared.statement.Decl.{Decl}
use Rattle.hx_expr.specs.Values.{expr_value, expr_values}
use Rattle.hx_fetch.specs.World.{Context}
use Rattle.hx_sample.specs.Find.{Entry}
use Rattle.hx_sample.specs.Tables.{TableHead}
use Rattle.hx_sample.specs.declared.sample.Value.{Value}
use Rattle.hx_text.specs.declared.kinds.By.{By}
use Rattle.hx_text.specs.declared.kinds.By.TheVariants as method
use Rattle.hx_acl.specs.Matching.{finds_entry, occurrence_matches, test_matches}

found_each : (is_hit : Value → Bool) (values : List (Option Value)) → list_any is_some values ≡ list_any (occurrence_matches method.Found is_hit) values
found_each is_hit [] = refl
found_each is_hit (None ∷ values) = found_each is_hit values
found_each is_hit (Some v ∷ values) = refl

-- some value is there
pub found_matches : (context : Context) (heads : List TableHead) (lists : List (List Entry)) (decl : Decl) → decl.by ≡ method.Found
    → list_any is_some (expr_values context heads lists decl.expr) ≡ test_matches context heads lists decl
found_matches context heads lists decl by =
    found_each (finds_entry heads lists decl.heads) (expr_values context heads lists decl.expr)
    ∙ ap (λ (b : By). list_any (occurrence_matches b (finds_entry heads lists decl.heads)) (expr_values context heads lists decl.expr)) (sym by)

or_false : (b : Bool) → (b || false) ≡ b
or_false true = refl
or_false false = refl

-- the one value matches
pub one_matches : (context : Context) (heads : List TableHead) (lists : List (List Entry)) (decl : Decl) → expr_values context heads lists decl.expr ≡ expr_value context heads lists decl.expr ∷ []
    → occurrence_matches decl.by (finds_entry heads lists decl.heads) (expr_value context heads lists decl.expr) ≡ test_matches context heads lists decl
one_matches context heads lists decl one =
    sym (ap (list_any (occurrence_matches decl.by (finds_entry heads lists decl.heads))) one
    ∙ or_false (occurrence_matches decl.by (finds_entry heads lists decl.heads) (expr_value context heads lists decl.expr)))

pub ruleset matching = (found_matches, one_matches)
