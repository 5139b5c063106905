use Rattle.std.proofs.Common.{◌<◌, Some, length, subst, sym, ap, ◌∙◌, arith}
use Rattle.hx_pool.specs.Chain.{LiesIn, links_at}
use Rattle.hx_ebtree.specs.Node.{links_of}
use Rattle.hx_match.specs.Patterns.{PatternText}
use Rattle.hx_sample.specs.Seen.{value_of}
use Rattle.hx_index.specs.declared.part.Part.TheVariants.{Listed}
use Rattle.hx_index.specs.Items.{nodes_of}
use Rattle.hx_index.specs.Index.{in_part}
use Rattle.hx_index.proofs.HoldingLemmas.{holds_live, of_part}
use Rattle.hx_index.proofs.NodeUseLemmas.{node_use}
use Rattle.hx_index.proofs.WalkLemmas.{at_in, at_node, chain_left, hit_is, left_falls, nodes_at, walk_at, walk_begins, walk_hits, walk_on}
use Rattle.hx_index.proofs.index.Index.first_hit.Goals as goal

pub get-node-requires : goal.get-node-requires
get-node-requires g c =
    let r = c.requires in
    let v = value_of c.args.sample.now in
    let w = walk_at (in_part Listed r.0) v c.loop-at.at c.in-Some.id c.loop-at.steps c.args.steps.now (c.loop-at.invariant r.0 r.1) c.in-Some.is in
    holds_live c.args.nodes.now c.args.self.now r.0 c.in-Some.id r.1 (of_part c.args.nodes.now c.args.self.now Listed r.0 c.in-Some.id r.1 (at_in (in_part Listed r.0) v c.in-Some.id c.loop-at.steps c.args.steps.now w))

pub next-at-requires : goal.next-at-requires
next-at-requires g c =
    let r = c.requires in
    let v = value_of c.args.sample.now in
    let w = walk_at (in_part Listed r.0) v c.loop-at.at c.in-Some.id c.loop-at.steps c.args.steps.now (c.loop-at.invariant r.0 r.1) c.in-Some.is in
    (nodes_of w.before, nodes_of w.after, subst (LiesIn links_of c.args.nodes.now c.args.self.now.listed) (nodes_at (in_part Listed r.0) v c.in-Some.id c.loop-at.steps c.args.steps.now w) (r.1.parts Listed))

pub loop-at-init : goal.loop-at-init
loop-at-init g c items h =
    walk_begins (in_part Listed items) (value_of c.args.sample.now) c.front-at.result c.args.steps.now
    (c.front-at.ensures (links_at links_of c.args.nodes.now) (nodes_of (in_part Listed items)) (h.parts Listed))

pub loop-at-preserved : goal.loop-at-preserved
loop-at-preserved g c items h =
    let v = value_of c.args.sample.now in
    let mine = in_part Listed items in
    let w = walk_at mine v c.loop-at.at c.in-Some.id c.loop-at.steps c.args.steps.now (c.loop-at.invariant items h) c.in-Some.is in
    let node = at_node c.args.nodes.now c.args.self.now items v c.in-Some.id c.loop-at.steps c.args.steps.now c.get-node.result.now h w c.get-node.ensures.value in
    let miss = hit_is v c.value.result.now w.item c.in_ok-hits.field-0 (c.value.ensures ∙ node.0) c.in_ok-hits.ensures.value ∙ c.if-branch.false in
    let lies = subst (LiesIn links_of c.args.nodes.now c.args.self.now.listed) (nodes_at mine v c.in-Some.id c.loop-at.steps c.args.steps.now w) (h.parts Listed) in
    walk_on mine v c.in-Some.id c.loop-at.steps c.next-at.new.steps c.args.steps.now c.next-at.result w miss
    (c.next-at.ensures.next (nodes_of w.before) (nodes_of w.after) lies)
    (omega (arith, c.get-node.ensures.cost, c.next-at.ensures.cost))

pub loop-at-smaller : goal.loop-at-smaller
loop-at-smaller g c =
    let r = c.requires in
    let v = value_of c.args.sample.now in
    let mine = in_part Listed r.0 in
    let w = walk_at mine v c.loop-at.at c.in-Some.id c.loop-at.steps c.args.steps.now (c.loop-at.invariant r.0 r.1) c.in-Some.is in
    let lies = subst (LiesIn links_of c.args.nodes.now c.args.self.now.listed) (nodes_at mine v c.in-Some.id c.loop-at.steps c.args.steps.now w) (r.1.parts Listed) in
    let falls = left_falls links_of c.args.nodes.now c.args.self.now.listed (nodes_of w.before) c.in-Some.id (nodes_of w.after) c.next-at.result lies (c.next-at.ensures.next (nodes_of w.before) (nodes_of w.after) lies) in
    subst (λ o. chain_left (links_at links_of c.args.nodes.now) (length c.args.nodes.now.slots) c.next-at.result < chain_left (links_at links_of c.args.nodes.now) (length c.args.nodes.now.slots) o) (sym c.in-Some.is) falls

pub returns-in_err-hits-clause-free : goal.returns-in_err-hits-clause-free
returns-in_err-hits-clause-free g c other =
    let r = c.requires in
    let v = value_of c.args.sample.now in
    let w = walk_at (in_part Listed r.0) v c.loop-at.at c.in-Some.id c.loop-at.steps c.args.steps.now (c.loop-at.invariant r.0 r.1) c.in-Some.is in
    let there = of_part c.args.nodes.now c.args.self.now Listed r.0 c.in-Some.id r.1 (at_in (in_part Listed r.0) v c.in-Some.id c.loop-at.steps c.args.steps.now w) in
    let is = ap (λ (t : PatternText). t.by) c.value.ensures ∙ (node_use c.args.nodes.now c.args.self.now r.0 c.in-Some.id c.get-node.result.now r.1 there c.get-node.ensures.value).0 in
    let ok = c.in_err-hits.ensures.free (λ e. other (sym is ∙ e)) in
    absurd (cc)

pub returns-then-branch-clause-found : goal.returns-then-branch-clause-found
returns-then-branch-clause-found g c items h =
    let v = value_of c.args.sample.now in
    let mine = in_part Listed items in
    let w = walk_at mine v c.loop-at.at c.in-Some.id c.loop-at.steps c.args.steps.now (c.loop-at.invariant items h) c.in-Some.is in
    let node = at_node c.args.nodes.now c.args.self.now items v c.in-Some.id c.loop-at.steps c.args.steps.now c.get-node.result.now h w c.get-node.ensures.value in
    let hit = hit_is v c.value.result.now w.item c.in_ok-hits.field-0 (c.value.ensures ∙ node.0) c.in_ok-hits.ensures.value ∙ c.if-branch.true in
    ap Some (c.entry.ensures ∙ node.1) ∙ walk_hits mine v c.in-Some.id c.loop-at.steps c.args.steps.now w hit
