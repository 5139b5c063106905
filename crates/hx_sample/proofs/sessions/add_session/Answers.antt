use Rattle.std.specs.BTreeMap as tree
use Rattle.std.proofs.Common.{Some, sym, ◌∙◌}
use Rattle.std.specs.Ordering.{nat_cmp}
use Rattle.hx_sample.proofs.VarLemmas.{chain_at, session_added}
use Rattle.hx_sample.proofs.sessions.add_session.Goals as goal

pub returns-clause-chain : goal.returns-clause-chain
returns-clause-chain c p kept =
    let m = c.args.sessions.now in
    let n = c.insert.new.self in
    let conn = c.args.conn in
    session_added p (tree.get nat_cmp m conn) (tree.get nat_cmp n conn) conn c.new.result c.new.ensures (sym c.if-contains_key.false ∙ c.contains_key.ensures) (chain_at m n conn (Some c.new.result) c.in_ok-insert.ensures.updates.0) kept
