use Rattle.std.proofs.Common.{◌≡◌, ℕ, None, ap, sym, subst, ◌∙◌}
use Rattle.std.specs.BTreeMap as tree
use Rattle.std.specs.BTreeMap.{BTreeMap}
use Rattle.hx_pool.specs.declared.chain.Chain.{Chain}
use Rattle.std.specs.Ordering.{nat_cmp}
use Rattle.hx_sample.specs.declared.stored_variable.Owner.TheVariants.{Session}
use Rattle.hx_sample.specs.Slots.{OwnerStep}
use Rattle.hx_sample.proofs.VarLemmas.{chain_else, chain_written, session_leads, session_none, session_unset}
use Rattle.hx_sample.proofs.sessions.unset_in_session.Goals as goal

pub unset_in-requires-clause-leads : goal.unset_in-requires-clause-leads
unset_in-requires-clause-leads c =
    let l = session_leads c.args.slots.now c.args.conn (tree.get nat_cmp c.args.sessions.now c.args.conn) c.in-Some.chain.now c.requires (sym c.in-Some.ensures.value) in
    (Session c.args.conn, l.0, l.1)

pub returns-clause-unset : goal.returns-clause-unset
returns-clause-unset c alone =
    let p = c.args.slots.now in
    let conn = c.args.conn in
    let m = c.args.sessions.now in
    let w = c.unset_in.new.chain in
    let l = session_leads p conn (tree.get nat_cmp m conn) c.in-Some.chain.now c.requires (sym c.in-Some.ensures.value) in
    let s = c.unset_in.ensures (Session conn) l.0 l.1 alone in
    let now = chain_written m (c.get_mut.follows.lender w) conn c.in-Some.chain.now w c.in-Some.ensures.value (c.get_mut.follows.holds w) in
    (subst (λ o. OwnerStep p c.unset_in.new.slots o (Session conn)) (sym now) s.0, s.1)

pub returns-clause-others : goal.returns-clause-others
returns-clause-others c q other =
    let w = c.unset_in.new.chain in
    chain_else c.args.sessions.now (c.get_mut.follows.lender w) c.args.conn c.in-Some.chain.now w c.in-Some.ensures.value (c.get_mut.follows.holds w) q other

pub returns-in_default-clause-unset : goal.returns-in_default-clause-unset
returns-in_default-clause-unset c alone =
    let p = c.args.slots.now in
    let conn = c.args.conn in
    let none : tree.get nat_cmp c.args.sessions.now conn ≡ None = sym c.in_default.ensures.value in
    let now = ap (λ (m : BTreeMap ℕ Chain). tree.get nat_cmp m conn) c.get_mut.follows.holds-at-none ∙ none in
    let s = session_unset p conn c.args.name.now (session_none p conn (tree.get nat_cmp c.args.sessions.now conn) c.requires none) alone in
    (subst (λ o. OwnerStep p p o (Session conn)) (sym now) s.0, s.1)

pub returns-in_default-clause-others : goal.returns-in_default-clause-others
returns-in_default-clause-others c q other =
    ap (λ (m : BTreeMap ℕ Chain). tree.get nat_cmp m q) c.get_mut.follows.holds-at-none
