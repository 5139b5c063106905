use Rattle.std.proofs.Common.{ap, ◌∙◌}
use Rattle.hx_ebtree.specs.Bits.{bits_of}
use Rattle.hx_ebtree.specs.Tree.{leaves_of, forks_of}
use Rattle.hx_ebtree.proofs.DetachLemmas.{leaf_live}
use Rattle.hx_ebtree.proofs.FrameLemmas.{tree_frame, chain_frame}
use Rattle.hx_ebtree.proofs.PlaceLemmas.{not_later}
use Rattle.hx_ebtree.proofs.RemoveSteps.{node_live, is_first, exact_some, is_later}
use Rattle.hx_ebtree.proofs.tree.Tree.remove.Goals as goal

pub get-node-requires : goal.get-node-requires
get-node-requires g c = node_live c.args.pool.now _ _ c.args.id _ c.requires.1.stands c.requires.2

pub remove_first-requires : goal.remove_first-requires
remove_first-requires g c =
    (c.requires.0, is_first c.args.pool.now _ _ c.args.id _ c.requires.1.stands c.requires.2 c.get-node.result.now c.get-node.ensures.value c.links.result c.links.ensures c.in-None.is)

pub shorten-requires-clause-live : goal.shorten-requires-clause-live
shorten-requires-clause-live g c =
    let w = is_later c.args.pool.now _ _ c.args.id _ c.requires.1.stands c.requires.2 c.get-node.result.now c.get-node.ensures.value c.links.result c.in-Some.field-0 c.links.ensures c.in-Some.is
    c.exact.result (bits_of c.bytes.result.now c.len.result) c.in-Some-exact.front (ap (bits_of c.bytes.result.now) c.len.ensures ∙ c.bytes.ensures.bits) (c.exact.ensures.found c.requires.0 c.requires.1) c.in-Some-exact.is in
    leaf_live c.args.pool.now c.in-Some-exact.front w.part w.here

pub shorten-requires-clause-lies : goal.shorten-requires-clause-lies
shorten-requires-clause-lies g c =
    let w = is_later c.args.pool.now _ _ c.args.id _ c.requires.1.stands c.requires.2 c.get-node.result.now c.get-node.ensures.value c.links.result c.in-Some.field-0 c.links.ensures c.in-Some.is
    c.exact.result (bits_of c.bytes.result.now c.len.result) c.in-Some-exact.front (ap (bits_of c.bytes.result.now) c.len.ensures ∙ c.bytes.ensures.bits) (c.exact.ensures.found c.requires.0 c.requires.1) c.in-Some-exact.is in
    (w.part, w.before, w.after, w.here, w.lies)

pub unreachable-requires : goal.unreachable-requires
unreachable-requires g c =
    exact_some c.args.pool.now _ _ c.args.id _ c.requires.1.stands c.requires.2 c.get-node.result.now c.get-node.ensures.value
    c.exact.result (bits_of c.bytes.result.now c.len.result) (ap (bits_of c.bytes.result.now) c.len.ensures ∙ c.bytes.ensures.bits) (c.exact.ensures.found c.requires.0 c.requires.1) c.in-None-exact.is

pub returns-in-None-clause-stands : goal.returns-in-None-clause-stands
returns-in-None-clause-stands g c pairs stands listed =
    c.remove_first.ensures.stands pairs (is_first c.args.pool.now _ _ c.args.id _ stands.stands listed c.get-node.result.now c.get-node.ensures.value c.links.result c.links.ensures c.in-None.is)

pub returns-in-None-clause-others : goal.returns-in-None-clause-others
returns-in-None-clause-others g c pairs stands listed k off =
    c.remove_first.ensures.others pairs (is_first c.args.pool.now _ _ c.args.id _ stands.stands listed c.get-node.result.now c.get-node.ensures.value c.links.result c.links.ensures c.in-None.is) k off

pub returns-in-None-clause-other_trees : goal.returns-in-None-clause-other_trees
returns-in-None-clause-other_trees g c pairs others t stands listed there apart =
    tree_frame c.args.pool.now c.remove_first.new.pool t others (λ k p. returns-in-None-clause-others g c pairs stands listed k (apart k p)) there

pub returns-in-None-clause-chains : goal.returns-in-None-clause-chains
returns-in-None-clause-chains g c pairs chain xs stands listed lies apart =
    chain_frame c.args.pool.now c.remove_first.new.pool chain xs (λ k p. returns-in-None-clause-others g c pairs stands listed k (apart k p)) lies

pub returns-in-Some-exact-clause-stands : goal.returns-in-Some-exact-clause-stands
returns-in-Some-exact-clause-stands g c pairs stands listed =
    let w = is_later c.args.pool.now _ _ c.args.id _ stands.stands listed c.get-node.result.now c.get-node.ensures.value c.links.result c.in-Some.field-0 c.links.ensures c.in-Some.is
    c.exact.result (bits_of c.bytes.result.now c.len.result) c.in-Some-exact.front (ap (bits_of c.bytes.result.now) c.len.ensures ∙ c.bytes.ensures.bits) (c.exact.ensures.found pairs stands) c.in-Some-exact.is in
    let s = w.stands (leaves_of c.shorten.new.pool) (forks_of c.shorten.new.pool) c.shorten.ensures.parts in
    record { shape = s.0; stands = s.1 }

pub returns-in-Some-exact-clause-others : goal.returns-in-Some-exact-clause-others
returns-in-Some-exact-clause-others g c pairs stands listed k off =
    let w = is_later c.args.pool.now _ _ c.args.id _ stands.stands listed c.get-node.result.now c.get-node.ensures.value c.links.result c.in-Some.field-0 c.links.ensures c.in-Some.is
    c.exact.result (bits_of c.bytes.result.now c.len.result) c.in-Some-exact.front (ap (bits_of c.bytes.result.now) c.len.ensures ∙ c.bytes.ensures.bits) (c.exact.ensures.found pairs stands) c.in-Some-exact.is in
    let o = w.out k off in
    c.shorten.ensures.others w.part w.before w.after w.here w.lies k o.0 o.1

pub returns-in-Some-exact-clause-other_trees : goal.returns-in-Some-exact-clause-other_trees
returns-in-Some-exact-clause-other_trees g c pairs others t stands listed there apart =
    tree_frame c.args.pool.now c.shorten.new.pool t others (λ k p. returns-in-Some-exact-clause-others g c pairs stands listed k (apart k p)) there

pub returns-in-Some-exact-clause-chains : goal.returns-in-Some-exact-clause-chains
returns-in-Some-exact-clause-chains g c pairs chain xs stands listed lies apart =
    chain_frame c.args.pool.now c.shorten.new.pool chain xs (λ k p. returns-in-Some-exact-clause-others g c pairs stands listed k (apart k p)) lies

pub returns-in-Some-exact-clause-first : goal.returns-in-Some-exact-clause-first
returns-in-Some-exact-clause-first g c pairs key stands e =
    absurd (not_later c.args.pool.now c.args.self.now pairs c.args.id c.get-node.result.now c.get-node.ensures.value c.links.result c.links.ensures stands key c.in-Some.field-0 c.in-Some.is e)
