use Rattle.std.proofs.Common.{◌≡◌, None, refl, subst}
use Rattle.hx_ebtree.specs.KeyList.{Lists, without}
use Rattle.hx_ebtree.specs.Tree.{Stands}
use Rattle.hx_ebtree.proofs.NodeLemmas.{kept_self}
use Rattle.hx_ebtree.proofs.DetachLemmas.{first_listed}
use Rattle.hx_ebtree.proofs.FrameLemmas.{tree_frame, chain_frame}
use Rattle.hx_ebtree.proofs.RootLemmas.{root_first, root_none}
use Rattle.hx_ebtree.proofs.tree.Tree.pop_any.Goals as goal

pub remove_first-requires : goal.remove_first-requires
remove_first-requires g c =
    (c.requires.0, root_first _ _ _ _ _ c.in-Some.down c.node-id.result c.requires.1.stands c.in-Some.is c.node-id.ensures)

pub returns-in-Some-clause-some : goal.returns-in-Some-clause-some
returns-in-Some-clause-some g c pairs id stands e =
    let first = root_first _ _ _ _ _ c.in-Some.down c.node-id.result stands.stands c.in-Some.is c.node-id.ensures in
    let same : c.node-id.result ≡ id = cc in (
      subst (Lists pairs) same (first_listed _ _ _ _ _ first),
      subst (λ k. Stands c.remove_first.new.pool c.remove_first.new.self (without k pairs)) same (c.remove_first.ensures.stands pairs first),
    )

pub returns-in-Some-clause-others : goal.returns-in-Some-clause-others
returns-in-Some-clause-others g c pairs stands k off =
    c.remove_first.ensures.others pairs (root_first _ _ _ _ _ c.in-Some.down c.node-id.result stands.stands c.in-Some.is c.node-id.ensures) k off

pub returns-in-Some-clause-other_trees : goal.returns-in-Some-clause-other_trees
returns-in-Some-clause-other_trees g c pairs others t stands at off =
    let first = root_first _ _ _ _ _ c.in-Some.down c.node-id.result stands.stands c.in-Some.is c.node-id.ensures in
    tree_frame c.args.pool.now c.remove_first.new.pool t others (λ k there. c.remove_first.ensures.others pairs first k (off k there)) at

pub returns-in-Some-clause-chains : goal.returns-in-Some-clause-chains
returns-in-Some-clause-chains g c pairs chain xs stands lies off =
    let first = root_first _ _ _ _ _ c.in-Some.down c.node-id.result stands.stands c.in-Some.is c.node-id.ensures in
    chain_frame c.args.pool.now c.remove_first.new.pool chain xs (λ k there. c.remove_first.ensures.others pairs first k (off k there)) lies

pub returns-in-None-clause-none : goal.returns-in-None-clause-none
returns-in-None-clause-none g c pairs stands e = (
  root_none _ _ _ _ _ stands.stands c.in-None.is,
  record { shape = None; stands = record { hangs = c.in-None.is; sound = tt; idle = tt; same = λ k. refl } },
)

pub returns-in-None-clause-kept : goal.returns-in-None-clause-kept
returns-in-None-clause-kept g c = kept_self c.args.pool.now
