use Rattle.std.proofs.Common.{◌≡◌, ◌∙◌, ℕ, List, None, sym, subst}
use Rattle.std.specs.Prelude.{IfErr, OnOk}
use Rattle.hx_ast.specs.declared.action.Part.{Part}
use Rattle.hx_rules.specs.EffectView.{edit_in}
use Rattle.hx_rules.specs.Formats.{text_in}
use Rattle.hx_rules.specs.ProgramView.{action_of_rewrite}
use Rattle.hx_rules.specs.RequestView.{state_of}
use Rattle.hx_http.specs.Edits.{MayFail}
use Rattle.hx_rules.specs.Rewrites.{edit_of}
use Rattle.hx_rules.specs.State.{table_view}
use Rattle.hx_rules.proofs.RewriteLemmas.{edit_by_text, fails_as, made_as, passes_as}
use Rattle.hx_rules.proofs.request.Request.edit.Goals as goal

pub returns-clause-ok : goal.returns-clause-ok
returns-clause-ok g c =
    let view = table_view g.T.Tables.heads g.T.Tables.lists g.T.Tables.after_change in
    let conn = c.args.self.now.conn.now in
    let state = state_of g.T.Tables.state c.args.self.now in
    let given : List Part → List ℕ = λ format. c.as_slice.result.now in
    let is = edit_by_text given (text_in view conn state) (action_of_rewrite c.args.asked.now) state.message c.args.format.now c.requires.format (c.as_slice.ensures ∙ c.in_ok-text.ensures.text) in
    rw c.keep_text.ensures (subst
    (λ self. OnOk c.edit_head-edited.result (c.edit_head-edited.new.message ≡ (edit_of given (action_of_rewrite c.args.asked.now) self.message.now).head)
    → OnOk c.edit_head-edited.result (record (state_of g.T.Tables.state self) { message = c.edit_head-edited.new.message } ≡ record state { message = (edit_in view conn c.args.asked.now state).head }))
    (sym c.lent_text.ensures.kept)
    (made_as c.edit_head-edited.result state c.edit_head-edited.new.message (edit_of given (action_of_rewrite c.args.asked.now) state.message) (edit_in view conn c.args.asked.now state) is)
    c.edit_head-edited.ensures.ok)

pub returns-clause-none : goal.returns-clause-none
returns-clause-none g c =
    let view = table_view g.T.Tables.heads g.T.Tables.lists g.T.Tables.after_change in
    let conn = c.args.self.now.conn.now in
    let state = state_of g.T.Tables.state c.args.self.now in
    let given : List Part → List ℕ = λ format. c.as_slice.result.now in
    let is = edit_by_text given (text_in view conn state) (action_of_rewrite c.args.asked.now) state.message c.args.format.now c.requires.format (c.as_slice.ensures ∙ c.in_ok-text.ensures.text) in
    subst
    (λ self. OnOk c.edit_head-edited.result ((edit_of given (action_of_rewrite c.args.asked.now) self.message.now).fault ≡ None)
    → OnOk c.edit_head-edited.result ((edit_in view conn c.args.asked.now state).fault ≡ None))
    (sym c.lent_text.ensures.kept)
    (passes_as c.edit_head-edited.result (edit_of given (action_of_rewrite c.args.asked.now) state.message) (edit_in view conn c.args.asked.now state) is)
    c.edit_head-edited.ensures.none

pub returns-clause-refused : goal.returns-clause-refused
returns-clause-refused g c =
    let view = table_view g.T.Tables.heads g.T.Tables.lists g.T.Tables.after_change in
    let conn = c.args.self.now.conn.now in
    let state = state_of g.T.Tables.state c.args.self.now in
    let given : List Part → List ℕ = λ format. c.as_slice.result.now in
    let is = edit_by_text given (text_in view conn state) (action_of_rewrite c.args.asked.now) state.message c.args.format.now c.requires.format (c.as_slice.ensures ∙ c.in_ok-text.ensures.text) in
    subst
    (λ self. IfErr c.edit_head-edited.result (MayFail (edit_of given (action_of_rewrite c.args.asked.now) self.message.now).fault)
    → IfErr c.edit_head-edited.result (MayFail (edit_in view conn c.args.asked.now state).fault))
    (sym c.lent_text.ensures.kept)
    (fails_as c.edit_head-edited.result (edit_of given (action_of_rewrite c.args.asked.now) state.message) (edit_in view conn c.args.asked.now state) is)
    c.edit_head-edited.ensures.refused
