use Rattle.std.proofs.Common.{◌≡◌, None, sym, subst, ◌∙◌}
use Rattle.std.specs.BTreeMap as tree
use Rattle.std.specs.Ordering.{nat_cmp}
use Rattle.hx_sample.specs.declared.stored_variable.Owner.TheVariants.{Session}
use Rattle.hx_sample.specs.Slots.{HasChain}
use Rattle.hx_sample.proofs.SlotLemmas.{loses_none}
use Rattle.hx_sample.proofs.VarLemmas.{chain_at, chain_away, session_cleared, session_leads, session_none}
use Rattle.hx_sample.proofs.StepLemmas.{same_step}
use Rattle.hx_sample.proofs.sessions.clear_session.Goals as goal

pub clear-requires-clause-leads : goal.clear-requires-clause-leads
clear-requires-clause-leads c =
    let l = session_leads c.args.slots.now c.args.conn (tree.get nat_cmp c.args.sessions.now c.args.conn) c.in-Some.chain c.requires (sym c.remove.ensures.value ∙ c.in-Some.is) in
    (Session c.args.conn, l.0, l.1)

pub returns-clause-step : goal.returns-clause-step
returns-clause-step c =
    let p = c.args.slots.now in
    let conn = c.args.conn in
    let m = c.args.sessions.now in
    let l = session_leads p conn (tree.get nat_cmp m conn) c.in-Some.chain c.requires (sym c.remove.ensures.value ∙ c.in-Some.is) in
    session_cleared p c.clear.new.slots conn c.clear.new.chain (tree.get nat_cmp c.remove.new.self conn) (chain_at m c.remove.new.self conn None c.remove.ensures.updates.0) (c.clear.ensures.step (Session conn) l.0 l.1) (c.clear.ensures.none (Session conn) l.0 l.1)

pub returns-clause-gone : goal.returns-clause-gone
returns-clause-gone c = chain_at c.args.sessions.now c.remove.new.self c.args.conn None c.remove.ensures.updates.0

pub returns-clause-loses : goal.returns-clause-loses
returns-clause-loses c =
    let l = session_leads c.args.slots.now c.args.conn (tree.get nat_cmp c.args.sessions.now c.args.conn) c.in-Some.chain c.requires (sym c.remove.ensures.value ∙ c.in-Some.is) in
    c.clear.ensures.loses (Session c.args.conn) l.0 l.1

pub returns-clause-others : goal.returns-clause-others
returns-clause-others c q other = chain_away c.args.sessions.now c.remove.new.self c.args.conn None c.remove.ensures.updates.0 q other

pub returns-in_default-clause-step : goal.returns-in_default-clause-step
returns-in_default-clause-step c =
    let p = c.args.slots.now in
    let conn = c.args.conn in
    let m = c.args.sessions.now in
    let n = c.remove.new.self in
    let free = session_none p conn (tree.get nat_cmp m conn) c.requires (sym c.remove.ensures.value ∙ c.in_default.is) in
    same_step p (tree.get nat_cmp n conn) (Session conn) (subst (HasChain p (Session conn)) (sym (chain_at m n conn None c.remove.ensures.updates.0)) free)

pub returns-in_default-clause-gone : goal.returns-in_default-clause-gone
returns-in_default-clause-gone c = chain_at c.args.sessions.now c.remove.new.self c.args.conn None c.remove.ensures.updates.0

pub returns-in_default-clause-loses : goal.returns-in_default-clause-loses
returns-in_default-clause-loses c = loses_none c.args.slots.now (λ owner. owner ≡ Session c.args.conn)

pub returns-in_default-clause-others : goal.returns-in_default-clause-others
returns-in_default-clause-others c q other = chain_away c.args.sessions.now c.remove.new.self c.args.conn None c.remove.ensures.updates.0 q other
