use Rattle.std.proofs.Common.{◌≡◌, true, rules}
use Rattle.hx_cases_acls.proofs.CondLemmas.{acls_have_heads}
use Rattle.hx_cases_acls.proofs.conditions.declare.Goals as goal

pub returns-in-Ok : goal.returns-in-Ok
returns-in-Ok c =
    let found : c.has_decl_heads.result ≡ true = search rules in
    acls_have_heads c.args.filled.now.refs.content.heads c.args.acls.now c.declare.new.self c.args.name.now
    c.args.decl.now c.in-Ok.ensures.ok c.requires (c.has_decl_heads.ensures found)
