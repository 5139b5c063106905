use Rattle.std.proofs.Common.{Some, refl, ap, sym, subst, ◌∙◌}
use Rattle.std.proofs.lemmas.Result.{on_ok_weaker, on_err_weaker}
use Rattle.std.specs.Prelude.{Result, Ok, Err, OnErr}
use Rattle.std.specs.BTreeMap as tree
use Rattle.std.specs.Ordering.{nat_cmp}
use Rattle.hx_sample.specs.declared.stored_variable.Owner.TheVariants.{Session}
use Rattle.hx_sample.specs.Slots.{HasChain, OwnerStep}
use Rattle.hx_sample.proofs.VarLemmas.{chain_else, chain_written, session_leads}
use Rattle.hx_sample.proofs.sessions.set_in_session.Goals as goal

on_err : {T E P : Type 0} (r : Result T E) → P → OnErr r P
on_err (Ok _) holds = tt
on_err (Err _) holds = holds

pub set_in-requires-clause-leads : goal.set_in-requires-clause-leads
set_in-requires-clause-leads c =
    session_leads c.args.slots.now c.args.conn (tree.get nat_cmp c.add_session.new.sessions c.args.conn) c.in-Some.chain.now (c.add_session.ensures.chain c.args.slots.now c.requires) (sym c.in-Some.ensures.value)

pub returns-clause-ok : goal.returns-clause-ok
returns-clause-ok c =
    let p = c.args.slots.now in
    let conn = c.args.conn in
    let m = c.add_session.new.sessions in
    let w = c.set_in.new.chain in
    let n = c.get_mut.follows.lender w in
    let l = session_leads p conn (tree.get nat_cmp m conn) c.in-Some.chain.now (c.add_session.ensures.chain p c.requires) (sym c.in-Some.ensures.value) in
    let now = chain_written m n conn c.in-Some.chain.now w c.in-Some.ensures.value (c.get_mut.follows.holds w) in
    on_ok_weaker c.set_in.result
    (λ sets alone.
    let s = sets l.0 l.1 alone in
    (subst (λ o. OwnerStep p c.set_in.new.slots o (Session conn)) (sym now) s.0, s.1))
    c.set_in.ensures.ok

pub returns-clause-err : goal.returns-clause-err
returns-clause-err c =
    let p = c.args.slots.now in
    let conn = c.args.conn in
    let m = c.add_session.new.sessions in
    let w = c.set_in.new.chain in
    let n = c.get_mut.follows.lender w in
    let l = session_leads p conn (tree.get nat_cmp m conn) c.in-Some.chain.now (c.add_session.ensures.chain p c.requires) (sym c.in-Some.ensures.value) in
    let now = chain_written m n conn c.in-Some.chain.now w c.in-Some.ensures.value (c.get_mut.follows.holds w) in
    on_err_weaker c.set_in.result
    (λ same. (same.0, subst (HasChain p (Session conn)) (sym (now ∙ ap Some same.1)) l))
    c.set_in.ensures.err

pub returns-clause-others : goal.returns-clause-others
returns-clause-others c q other =
    let w = c.set_in.new.chain in
    chain_else c.add_session.new.sessions (c.get_mut.follows.lender w) c.args.conn c.in-Some.chain.now w c.in-Some.ensures.value (c.get_mut.follows.holds w) q other
    ∙ c.add_session.ensures.others q other

pub returns-in_err-add_session-clause-err : goal.returns-in_err-add_session-clause-err
returns-in_err-add_session-clause-err c =
    on_err c.from_residual.result (refl, c.add_session.ensures.chain c.args.slots.now c.requires)
