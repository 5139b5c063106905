use Rattle.std.proofs.Common.{◌≡◌, length, sym, ◌∙◌, arith}
use Rattle.hx_acl.specs.declared.acl_set.Declared.{Declared}
use Rattle.hx_acl.proofs.AclSetLemmas.{indexed_at_key}
use Rattle.hx_acl.proofs.acl_set.AclSet.append.Goals as goal

pub invariant_of-self-2 : goal.invariant_of-self-2
invariant_of-self-2 c =
    let declared : Declared = record { name = c.in_ok-name.name; test = c.args.test; earlier = c.in_ok-earlier.earlier } in
    let count : c.len.result ≡ length c.self.inside.tests.items =
    omega (arith, c.len.ensures, c.reserve.ensures.len, c.self.inside.tests.ok.0) in
    rw (c.in-Ok.ensures.items, c.reserve.ensures.items)
    (indexed_at_key c.self.inside.tests.items c.self.inside.positions.entries c.insert.new.self.entries declared c.in_ok-key.key c.len.result c.self.invariant (c.in_ok-key.ensures ∙ sym c.in_ok-name.ensures) count c.in_ok-earlier.ensures.old c.in_ok-earlier.ensures.updates.0)
