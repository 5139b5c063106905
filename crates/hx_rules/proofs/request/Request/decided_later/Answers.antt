use Rattle.std.proofs.Common.{ap, refl}
use Rattle.hx_acl.specs.Holds.{HasAclsHeads}
use Rattle.hx_rules.proofs.RuleLemmas.{same_both}
use Rattle.hx_rules.proofs.request.Request.decided_later.Goals as goal

pub redirected-requires-clause-acls : goal.redirected-requires-clause-acls
redirected-requires-clause-acls g c =
    let heads = g.T.Tables.heads (g.T.Tables.state c.args.self.now.tables.now) in
    same_both HasAclsHeads heads heads c.args.program.now.acls c.program.inside.acls refl (ap (λ p. p.acls) c.program.view_is) c.requires.acls

pub backend-requires-clause-acls : goal.backend-requires-clause-acls
backend-requires-clause-acls g c =
    let heads = g.T.Tables.heads (g.T.Tables.state c.args.self.now.tables.now) in
    same_both HasAclsHeads heads heads c.args.program.now.acls c.program.inside.acls refl (ap (λ p. p.acls) c.program.view_is) c.requires.acls
