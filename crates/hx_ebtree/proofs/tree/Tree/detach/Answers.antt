use Rattle.std.proofs.Common.{[], ◌∙◌}
use Rattle.hx_ebtree.proofs.NodeLemmas.{kept_on, kept_live}
use Rattle.hx_ebtree.proofs.DetachLemmas.{first_lies, first_up_has, first_up_off, rest_lies, next_key, next_off, detach_next, detach_gap, unchained_off, leaf_live, fork_live, key_live, up_read}
use Rattle.hx_ebtree.proofs.tree.Tree.detach.Goals as goal

pub get-requires : goal.get-requires
get-requires g c = let p = first_lies _ _ _ _ _ c.requires.1 in leaf_live c.args.pool.now c.args.id p.0 p.2

pub unchain-chain-requires : goal.unchain-chain-requires
unchain-chain-requires g c = let p = first_lies _ _ _ _ _ c.requires.1 in (p.0, [], p.1, p.2, p.3)

pub make_first-requires-clause-next : goal.make_first-requires-clause-next
make_first-requires-clause-next g c =
    let seen = up_read c.args.pool.now c.args.id c.get.result.now c.get.ensures.value in
    let un = c.unchain-chain.ensures.parts in
    let lies = rest_lies _ _ _ _ _ c.requires.1 _ seen _ _ _ un in
    key_live c.unchain-chain.new.pool c.in-Some.next _ (next_key _ _ _ _ _ c.requires.1 _ seen _ _ _ un c.in-Some.next (c.in-Some.ensures _ _ lies))

pub make_first-requires-clause-up : goal.make_first-requires-clause-up
make_first-requires-clause-up g c u e =
    let seen = up_read c.args.pool.now c.args.id c.get.result.now c.get.ensures.value in
    let b = first_up_has _ _ _ _ _ c.requires.1 _ seen u e in
    kept_live c.args.pool.now c.unchain-chain.new.pool u.node c.unchain-chain.ensures.kept (fork_live c.args.pool.now u.node b.0 b.1)

pub cut_leaf-requires-clause-gap : goal.cut_leaf-requires-clause-gap
cut_leaf-requires-clause-gap g c =
    let seen = up_read c.args.pool.now c.args.id c.get.result.now c.get.ensures.value in
    let un = c.unchain-chain.ensures.parts in
    let lies = rest_lies _ _ _ _ _ c.requires.1 _ seen _ _ _ un in
    (c.requires.0, detach_gap _ _ _ _ _ c.requires.1 _ seen _ _ _ un (c.in-None.ensures _ _ lies))

pub returns-in-Some-clause-without : goal.returns-in-Some-clause-without
returns-in-Some-clause-without g c pairs first =
    let seen = up_read c.args.pool.now c.args.id c.get.result.now c.get.ensures.value in
    let un = c.unchain-chain.ensures.parts in
    let lies = rest_lies _ _ _ _ _ first _ seen _ _ _ un in
    detach_next _ _ _ _ _ first _ seen _ _ _ un c.in-Some.next (c.in-Some.ensures _ _ lies) _ _ _ c.make_first.ensures.parts

pub returns-in-Some-clause-live : goal.returns-in-Some-clause-live
returns-in-Some-clause-live g c =
    let seen = up_read c.args.pool.now c.args.id c.get.result.now c.get.ensures.value in
    let un = c.unchain-chain.ensures.parts in
    let lies = rest_lies _ _ _ _ _ c.requires.1 _ seen _ _ _ un in
    kept_live c.unchain-chain.new.pool c.make_first.new.pool c.in-Some.next c.make_first.ensures.kept
    (key_live c.unchain-chain.new.pool c.in-Some.next _ (next_key _ _ _ _ _ c.requires.1 _ seen _ _ _ un c.in-Some.next (c.in-Some.ensures _ _ lies)))

pub returns-in-Some-clause-kept : goal.returns-in-Some-clause-kept
returns-in-Some-clause-kept g c = kept_on c.args.pool.now c.unchain-chain.new.pool c.make_first.new.pool c.unchain-chain.ensures.kept c.make_first.ensures.kept

pub returns-in-Some-clause-others : goal.returns-in-Some-clause-others
returns-in-Some-clause-others g c pairs first k off =
    let seen = up_read c.args.pool.now c.args.id c.get.result.now c.get.ensures.value in
    let un = c.unchain-chain.ensures.parts in
    let lies = rest_lies _ _ _ _ _ first _ seen _ _ _ un in
    let p = first_lies _ _ _ _ _ first in
    let o = unchained_off _ _ _ _ _ first _ seen _ _ _ un k off in
    c.make_first.ensures.others k (next_off _ _ _ _ _ first _ seen _ _ _ un c.in-Some.next (c.in-Some.ensures _ _ lies) k off) (first_up_off _ _ _ _ _ first _ seen k off)
    ∙ c.unchain-chain.ensures.others p.0 [] p.1 p.2 p.3 k o.0 o.1

pub returns-in-None-clause-without : goal.returns-in-None-clause-without
returns-in-None-clause-without g c pairs first =
    let seen = up_read c.args.pool.now c.args.id c.get.result.now c.get.ensures.value in
    let un = c.unchain-chain.ensures.parts in
    let lies = rest_lies _ _ _ _ _ first _ seen _ _ _ un in
    c.cut_leaf.ensures.without pairs (detach_gap _ _ _ _ _ first _ seen _ _ _ un (c.in-None.ensures _ _ lies))

pub returns-in-None-clause-kept : goal.returns-in-None-clause-kept
returns-in-None-clause-kept g c = kept_on c.args.pool.now c.unchain-chain.new.pool c.cut_leaf.new.pool c.unchain-chain.ensures.kept c.cut_leaf.ensures.kept

pub returns-in-None-clause-others : goal.returns-in-None-clause-others
returns-in-None-clause-others g c pairs first k off =
    let seen = up_read c.args.pool.now c.args.id c.get.result.now c.get.ensures.value in
    let un = c.unchain-chain.ensures.parts in
    let lies = rest_lies _ _ _ _ _ first _ seen _ _ _ un in
    let p = first_lies _ _ _ _ _ first in
    let o = unchained_off _ _ _ _ _ first _ seen _ _ _ un k off in
    c.cut_leaf.ensures.others pairs (detach_gap _ _ _ _ _ first _ seen _ _ _ un (c.in-None.ensures _ _ lies)) k off
    ∙ c.unchain-chain.ensures.others p.0 [] p.1 p.2 p.3 k o.0 o.1
