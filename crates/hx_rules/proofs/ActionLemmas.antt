-- Actions that are no redirects give no verdict after the rules.
use Rattle.std.proofs.Common.{◌≡◌, ℕ, Bool, true, false, List, ◌∷◌, Option, None, cond, refl, ap}
use Rattle.std.specs.List.{cons_option, filter, filter_map}
use Rattle.hx_ast.specs.declared.action.Part.{Part}
use Rattle.hx_ast.specs.declared.statement.Rule.{Rule}
use Rattle.hx_ast.specs.declared.statement.Term.{Term}
use Rattle.hx_http.specs.Parts.{Parts}
use Rattle.hx_sample.specs.Find.{first_item}
use Rattle.hx_rules.specs.declared.action.BuiltAction.{BuiltAction}
use Rattle.hx_rules.specs.declared.action.BuiltAction.TheVariants as built
use Rattle.hx_rules.specs.declared.action.Rewrite.{Rewrite}
use Rattle.hx_rules.specs.declared.action.Rewrite.TheVariants as rewrite
use Rattle.hx_rules.specs.declared.action.TableChange.{TableChange}
use Rattle.hx_rules.specs.declared.action.TableChange.TheVariants as change
use Rattle.hx_rules.specs.ProgramView.{action_of_built, action_of_change, action_of_rewrite}
use Rattle.hx_rules.specs.RedirectView.{redirect_in}
use Rattle.hx_rules.specs.Verdicts.{is_taken, redirection, redirects_verdict}

-- ---- rewrites

pub rewrite_stays : (text : List Part → List ℕ) (head : Parts) (asked : Rewrite) → redirection text head (action_of_rewrite asked) ≡ None
rewrite_stays text head (rewrite.SetHeader name format) = refl
rewrite_stays text head (rewrite.AddHeader name format) = refl
rewrite_stays text head (rewrite.DelHeader name) = refl
rewrite_stays text head (rewrite.ReplaceHeader name pattern format) = refl
rewrite_stays text head (rewrite.ReplaceValue name pattern format) = refl
rewrite_stays text head (rewrite.SetMethod format) = refl
rewrite_stays text head (rewrite.SetUri format) = refl
rewrite_stays text head (rewrite.SetPath format) = refl
rewrite_stays text head (rewrite.SetQuery format) = refl

-- ---- changes of lists

pub change_stays : (text : List Part → List ℕ) (head : Parts) (asked : TableChange) → redirection text head (action_of_change asked) ≡ None
change_stays text head (change.AddAcl table key) = refl
change_stays text head (change.DelAcl table key) = refl
change_stays text head (change.DelMap table key) = refl
change_stays text head (change.SetMap table key value) = refl

-- ---- redirects

-- what is kept as no redirect gives no verdict
pub redirects_nowhere : (text : List Part → List ℕ) (head : Parts) (does : BuiltAction) → redirect_in does ≡ None → redirection text head (action_of_built does) ≡ None
redirects_nowhere text head built.Allow none = refl
redirects_nowhere text head (built.Deny status) none = refl
redirects_nowhere text head (built.Rewrite asked) none = rewrite_stays text head asked
redirects_nowhere text head (built.SetVar name expr) none = refl
redirects_nowhere text head (built.UnsetVar name) none = refl
redirects_nowhere text head (built.Change asked) none = change_stays text head asked
redirects_nowhere text head (built.Redirect asked) none = cc
redirects_nowhere text head (built.StrictMode on) none = refl

passed_if : {X Y : Type 0} (f : X → Option Y) (taken : Bool) (x : X) (xs : List X) → f x ≡ None → filter_map f (cond taken (x ∷ xs) xs) ≡ filter_map f xs
passed_if f true x xs none = ap (λ first. cons_option first (filter_map f xs)) none
passed_if f false x xs none = refl

-- a rule that gives no verdict is passed over
pub redirect_passed : (holds : List (List Term) → Bool) (text : List Part → List ℕ) (head : Parts) (rule : Rule) (rules : List Rule) → redirection text head rule.action ≡ None → redirects_verdict holds text head (rule ∷ rules) ≡ redirects_verdict holds text head rules
redirect_passed holds text head rule rules none =
    ap first_item (passed_if (λ (r : Rule). redirection text head r.action) (is_taken holds rule.unless rule.cond) rule (filter (λ (r : Rule). is_taken holds r.unless r.cond) rules) none)
