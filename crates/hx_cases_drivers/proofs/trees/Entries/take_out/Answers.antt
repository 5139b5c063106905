use Rattle.std.proofs.Common.{None, sym, ◌∙◌}
use Rattle.hx_ebtree.specs.Bits.{bits_of}
use Rattle.hx_ebtree.specs.KeyList.{without}
use Rattle.hx_ebtree.proofs.NodeLemmas.{kept_live}
use Rattle.hx_ebtree.proofs.FrameLemmas.{tree_updated, listed_live, exact_listed, gone_off}
use Rattle.hx_cases_drivers.proofs.trees.Entries.take_out.Goals as goal

pub remove-requires : goal.remove-requires
remove-requires g c =
    let s = c.self.invariant in
    (s.0, s.1, exact_listed s.0 (bits_of c.args.bytes.now c.args.bits) c.in-Some.id (sym (c.exact.ensures.found s.0 s.1) ∙ c.in-Some.is))

pub give-node-requires : goal.give-node-requires
give-node-requires g c =
    let s = c.self.invariant in
    let listed = exact_listed s.0 (bits_of c.args.bytes.now c.args.bits) c.in-Some.id (sym (c.exact.ensures.found s.0 s.1) ∙ c.in-Some.is) in
    kept_live c.self.inside.pool c.remove.new.pool c.in-Some.id c.remove.ensures.kept (listed_live c.self.inside.pool c.self.inside.tree s.0 c.in-Some.id s.1 listed)

pub invariant_of-self : goal.invariant_of-self
invariant_of-self g c =
    let s = c.self.invariant in
    let listed = exact_listed s.0 (bits_of c.args.bytes.now c.args.bits) c.in-Some.id (sym (c.exact.ensures.found s.0 s.1) ∙ c.in-Some.is) in (
      without c.in-Some.id s.0,
      tree_updated c.remove.new.pool c.give-node.new.self c.remove.new.self (without c.in-Some.id s.0) c.in-Some.id None c.give-node.ensures.updates (gone_off c.in-Some.id s.0) (c.remove.ensures.stands s.0 s.1 listed),
    )

pub invariant_of-self-in-Some-2 : goal.invariant_of-self-in-Some-2
invariant_of-self-in-Some-2 g c =
    let s = c.self.invariant in
    let listed = exact_listed s.0 (bits_of c.args.bytes.now c.args.bits) c.in-Some.id (sym (c.exact.ensures.found s.0 s.1) ∙ c.in-Some.is) in (
      without c.in-Some.id s.0,
      tree_updated c.remove.new.pool c.give-node.new.self c.remove.new.self (without c.in-Some.id s.0) c.in-Some.id None c.give-node.ensures.updates (gone_off c.in-Some.id s.0) (c.remove.ensures.stands s.0 s.1 listed),
    )
