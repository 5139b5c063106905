use Rattle.std.proofs.Common.{◌≡◌, subst, ◌∙◌}
use Rattle.hx_pool.specs.Chain.{IsIn}
use Rattle.hx_index.specs.Items.{nodes_of, without_node}
use Rattle.hx_index.specs.Index.{Holds}
use Rattle.hx_ebtree.proofs.NodeLemmas.{kept_live}
use Rattle.hx_index.proofs.HoldingLemmas.{holds_live}
use Rattle.hx_index.proofs.NodeUseLemmas.{given_back, other_than}
use Rattle.hx_index.proofs.index.Index.drop_any.Goals as goal

pub give_back-requires : goal.give_back-requires
give_back-requires g c =
    let r = c.requires in
    let s = c.detach_any.ensures.some r.0 c.in-Some.node r.1 c.in-Some.is in
    kept_live c.args.nodes.now c.detach_any.new.nodes c.in-Some.node c.detach_any.ensures.kept (holds_live c.args.nodes.now c.args.self.now r.0 c.in-Some.node r.1 s.0)

pub returns-in-Some-clause-some : goal.returns-in-Some-clause-some
returns-in-Some-clause-some g c items node h e =
    let s = c.detach_any.ensures.some items c.in-Some.node h c.in-Some.is in
    let same : c.in-Some.node ≡ node = cc in
    subst (λ k. IsIn k (nodes_of items) × Holds c.give_back.new.nodes c.detach_any.new.self (without_node k items)) same
    (s.0, given_back c.detach_any.new.nodes c.give_back.new.nodes c.detach_any.new.self items c.in-Some.node c.give_back.ensures.updates s.1)

pub returns-in-Some-clause-others : goal.returns-in-Some-clause-others
returns-in-Some-clause-others g c items h k away =
    let s = c.detach_any.ensures.some items c.in-Some.node h c.in-Some.is in
    c.give_back.ensures.updates.others k (other_than c.in-Some.node k items s.0 away) ∙ c.detach_any.ensures.others items h k away
