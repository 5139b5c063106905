use Rattle.std.proofs.Common.{◌≡◌, None, sym, subst}
use Rattle.std.specs.Prelude.{IfErr, OnOk}
use Rattle.hx_http.specs.Edits.{MayFail}
use Rattle.hx_sample.specs.Seen.{bytes_of}
use Rattle.hx_rules.specs.ActionView.{replacing_action}
use Rattle.hx_rules.specs.Formats.{text_in}
use Rattle.hx_rules.specs.ReplacingView.{replacement_by}
use Rattle.hx_rules.specs.RequestView.{state_of}
use Rattle.hx_rules.specs.Rewrites.{edit_of, replacing_edit}
use Rattle.hx_rules.specs.State.{table_view}
use Rattle.hx_rules.proofs.RewriteLemmas.{fails_as, made_as, passes_as, replacement_is}
use Rattle.hx_rules.proofs.request.Request.replace.Goals as goal

pub returns-clause-ok : goal.returns-clause-ok
returns-clause-ok g c =
    let view = table_view g.T.Tables.heads g.T.Tables.lists g.T.Tables.after_change in
    let state = state_of g.T.Tables.state c.args.self.now in
    let text = text_in view c.args.self.now.conn.now state in
    let sub = c.as_slice.result.now in
    let given = c.as_slice-2.result.now in
    let replacement = replacement_by c.new-replacer.result in
    let made = edit_of text (replacing_action c.args.each c.args.name.now c.args.pattern.now c.args.format.now) state.message in
    let is = replacement_is text c.args.each state.message c.args.name.now c.args.pattern.now given sub (bytes_of c.in_ok-text.text) c.args.format.now replacement
    c.as_slice-2.ensures c.as_slice.ensures c.in_ok-text.ensures.text c.new-replacer.ensures in
    rw c.keep_text.ensures (subst
    (λ self. OnOk c.replace_values-edited.result (c.replace_values-edited.new.message ≡ (replacing_edit given replacement self.message.now).head)
    → OnOk c.replace_values-edited.result (record (state_of g.T.Tables.state self) { message = c.replace_values-edited.new.message } ≡ record state { message = made.head }))
    (sym c.lent_text.ensures.kept)
    (made_as c.replace_values-edited.result state c.replace_values-edited.new.message (replacing_edit given replacement state.message) made is)
    c.replace_values-edited.ensures.ok)

pub returns-clause-none : goal.returns-clause-none
returns-clause-none g c =
    let view = table_view g.T.Tables.heads g.T.Tables.lists g.T.Tables.after_change in
    let state = state_of g.T.Tables.state c.args.self.now in
    let text = text_in view c.args.self.now.conn.now state in
    let sub = c.as_slice.result.now in
    let given = c.as_slice-2.result.now in
    let replacement = replacement_by c.new-replacer.result in
    let made = edit_of text (replacing_action c.args.each c.args.name.now c.args.pattern.now c.args.format.now) state.message in
    let is = replacement_is text c.args.each state.message c.args.name.now c.args.pattern.now given sub (bytes_of c.in_ok-text.text) c.args.format.now replacement
    c.as_slice-2.ensures c.as_slice.ensures c.in_ok-text.ensures.text c.new-replacer.ensures in
    subst
    (λ self. OnOk c.replace_values-edited.result ((replacing_edit given replacement self.message.now).fault ≡ None) → OnOk c.replace_values-edited.result (made.fault ≡ None))
    (sym c.lent_text.ensures.kept)
    (passes_as c.replace_values-edited.result (replacing_edit given replacement state.message) made is)
    c.replace_values-edited.ensures.none

pub returns-clause-refused : goal.returns-clause-refused
returns-clause-refused g c =
    let view = table_view g.T.Tables.heads g.T.Tables.lists g.T.Tables.after_change in
    let state = state_of g.T.Tables.state c.args.self.now in
    let text = text_in view c.args.self.now.conn.now state in
    let sub = c.as_slice.result.now in
    let given = c.as_slice-2.result.now in
    let replacement = replacement_by c.new-replacer.result in
    let made = edit_of text (replacing_action c.args.each c.args.name.now c.args.pattern.now c.args.format.now) state.message in
    let is = replacement_is text c.args.each state.message c.args.name.now c.args.pattern.now given sub (bytes_of c.in_ok-text.text) c.args.format.now replacement
    c.as_slice-2.ensures c.as_slice.ensures c.in_ok-text.ensures.text c.new-replacer.ensures in
    subst
    (λ self. IfErr c.replace_values-edited.result (MayFail (replacing_edit given replacement self.message.now).fault) → IfErr c.replace_values-edited.result (MayFail made.fault))
    (sym c.lent_text.ensures.kept)
    (fails_as c.replace_values-edited.result (replacing_edit given replacement state.message) made is)
    c.replace_values-edited.ensures.refused
