-- The edits of the actions that replace values.
use Rattle.std.proofs.Common.{◌≡◌, ℕ, Bool, true, false, List, Result, Ok, Err, None, Some, refl, ap, sym, subst, ◌∙◌}
use Rattle.std.specs.Prelude.{IfErr, OnOk}
use Rattle.hx_ast.specs.declared.action.Action.{Action}
use Rattle.hx_ast.specs.declared.action.Action.TheVariants as action
use Rattle.hx_ast.specs.declared.action.Part.{Part}
use Rattle.hx_http.specs.declared.fault.EditFault.{EditFault}
use Rattle.hx_http.specs.Edits.{add_header_fault, method_fault, path_fault, query_fault, set_header_fault, target_fault, with_header, with_method, with_only_header, with_path, with_query, with_target, MayFail}
use Rattle.hx_http.specs.Parts.{Parts}
use Rattle.hx_rules.specs.ActionView.{edit_format, replacing_action}
use Rattle.hx_rules.specs.ReplacingView.{replacement_of}
use Rattle.hx_rules.specs.Rewrites.{Edit, edit_of, edited, named_fault, Replacement, replacing_edit}
use Rattle.hx_rules.specs.State.{State}

pub replace_header_is : (text : List Part → List ℕ) (asked : Action) (head : Parts) (name pattern given sub made : List ℕ) (format : List Part) (replacement : Replacement)
    → asked ≡ action.ReplaceHeader name pattern format → given ≡ name → sub ≡ made → made ≡ text format → replacement ≡ replacement_of false pattern sub
    → replacing_edit given replacement head ≡ edit_of text asked head
replace_header_is text asked head name pattern given sub made format replacement is same_name same_sub same_text same_replacement =
    ap (λ (r : Replacement). replacing_edit given r head) same_replacement
    ∙ ap (λ (n : List ℕ). replacing_edit n (replacement_of false pattern sub) head) same_name
    ∙ ap (λ (t : List ℕ). replacing_edit name (replacement_of false pattern t) head) (same_sub ∙ same_text)
    ∙ ap (λ (r : Action). edit_of text r head) (sym is)

pub replace_value_is : (text : List Part → List ℕ) (asked : Action) (head : Parts) (name pattern given sub made : List ℕ) (format : List Part) (replacement : Replacement)
    → asked ≡ action.ReplaceValue name pattern format → given ≡ name → sub ≡ made → made ≡ text format → replacement ≡ replacement_of true pattern sub
    → replacing_edit given replacement head ≡ edit_of text asked head
replace_value_is text asked head name pattern given sub made format replacement is same_name same_sub same_text same_replacement =
    ap (λ (r : Replacement). replacing_edit given r head) same_replacement
    ∙ ap (λ (n : List ℕ). replacing_edit n (replacement_of true pattern sub) head) same_name
    ∙ ap (λ (t : List ℕ). replacing_edit name (replacement_of true pattern t) head) (same_sub ∙ same_text)
    ∙ ap (λ (r : Action). edit_of text r head) (sym is)

texts_same : (given text : List Part → List ℕ) (own format : List Part) → Some own ≡ Some format → given format ≡ text format → given own ≡ text own
texts_same given text own format is same =
    let here : own ≡ format = cc in
    ap given here ∙ same ∙ ap text (sym here)

-- what an action with one format makes of the head hangs on the text of that format alone
pub edit_by_text : (given text : List Part → List ℕ) (asked : Action) (head : Parts) (format : List Part) → edit_format asked ≡ Some format → given format ≡ text format → edit_of given asked head ≡ edit_of text asked head
edit_by_text given text (action.SetHeader name own) head format is same =
    ap (λ (t : List ℕ). edited (named_fault name (set_header_fault name t head)) (with_only_header name t head)) (texts_same given text own format is same)
edit_by_text given text (action.AddHeader name own) head format is same =
    ap (λ (t : List ℕ). edited (named_fault name (add_header_fault name t head)) (with_header name t head)) (texts_same given text own format is same)
edit_by_text given text (action.SetMethod own) head format is same =
    ap (λ (t : List ℕ). edited (method_fault t) (with_method t head)) (texts_same given text own format is same)
edit_by_text given text (action.SetUri own) head format is same =
    ap (λ (t : List ℕ). edited (target_fault t) (with_target t head)) (texts_same given text own format is same)
edit_by_text given text (action.SetPath own) head format is same =
    ap (λ (t : List ℕ). edited (path_fault t head.target) (with_path t head)) (texts_same given text own format is same)
edit_by_text given text (action.SetQuery own) head format is same =
    ap (λ (t : List ℕ). edited (query_fault t) (with_query t head)) (texts_same given text own format is same)
edit_by_text given text _ head format is same = cc

pub replacement_is : (text : List Part → List ℕ) (each : Bool) (head : Parts) (name pattern given sub made : List ℕ) (format : List Part) (replacement : Replacement)
    → given ≡ name → sub ≡ made → made ≡ text format → replacement ≡ replacement_of each pattern sub
    → replacing_edit given replacement head ≡ edit_of text (replacing_action each name pattern format) head
replacement_is text true head name pattern given sub made format replacement same_name same_sub same_text same_replacement =
    replace_value_is text (action.ReplaceValue name pattern format) head name pattern given sub made format replacement refl same_name same_sub same_text same_replacement
replacement_is text false head name pattern given sub made format replacement same_name same_sub same_text same_replacement =
    replace_header_is text (action.ReplaceHeader name pattern format) head name pattern given sub made format replacement refl same_name same_sub same_text same_replacement

-- what a call answers, of the same edit
pub made_as : {T S : Type 0} (r : Result T EditFault) (state : State S) (new : Parts) (a b : Edit) → a ≡ b
    → OnOk r (new ≡ a.head) → OnOk r (record state { message = new } ≡ record state { message = b.head })
made_as (Ok done) state new a b same made = ap (λ (head : Parts). record state { message = head }) (made ∙ ap (λ (edit : Edit). edit.head) same)
made_as (Err fault) state new a b same made = tt

pub passes_as : {T : Type 0} (r : Result T EditFault) (a b : Edit) → a ≡ b
    → OnOk r (a.fault ≡ None) → OnOk r (b.fault ≡ None)
passes_as r a b same passes = subst (λ (edit : Edit). OnOk r (edit.fault ≡ None)) same passes

pub fails_as : {T : Type 0} (r : Result T EditFault) (a b : Edit) → a ≡ b
    → IfErr r (MayFail a.fault) → IfErr r (MayFail b.fault)
fails_as r a b same fails = subst (λ (edit : Edit). IfErr r (MayFail edit.fault)) same fails
