use Rattle.std.proofs.Common.{◌<◌, length, sym, subst}
use Rattle.hx_pool.specs.Chain.{links_at}
use Rattle.hx_sample.specs.Slots.{variable_links}
use Rattle.hx_sample.proofs.WalkLemmas.{at_in, at_live, chain_left, left_falls, lies_at, name_differs, name_found, walk_at, walk_begins, walk_ends, walk_on}
use Rattle.hx_sample.proofs.slots.find.Goals as goal

pub is_named-requires : goal.is_named-requires
is_named-requires g c =
    let r = c.requires in
    let a = walk_at c.args.slots.now r.0 c.args.name.now c.loop-at.at c.in-Some.id (c.loop-at.invariant r.0 r.1) c.in-Some.is in
    at_live c.args.slots.now c.args.chain.now r.0 c.args.name.now c.in-Some.id r.1 a

pub next-at-requires : goal.next-at-requires
next-at-requires g c =
    let r = c.requires in
    let a = walk_at c.args.slots.now r.0 c.args.name.now c.loop-at.at c.in-Some.id (c.loop-at.invariant r.0 r.1) c.in-Some.is in
    (a.before, a.after, lies_at c.args.slots.now c.args.chain.now r.0 c.args.name.now c.in-Some.id r.1 a)

pub loop-at-init : goal.loop-at-init
loop-at-init g c xs lies =
    walk_begins c.args.slots.now xs c.args.name.now c.front-at.result (c.front-at.ensures (links_at variable_links c.args.slots.now) xs lies)

pub loop-at-preserved : goal.loop-at-preserved
loop-at-preserved g c xs lies =
    let p = c.args.slots.now in
    let id = c.in-Some.id in
    let a = walk_at p xs c.args.name.now c.loop-at.at id (c.loop-at.invariant xs lies) c.in-Some.is in
    walk_on p xs c.args.name.now id c.next-at.result a (name_differs p id c.args.name.now c.is_named.result c.is_named.ensures c.if-is_named.false)
    (c.next-at.ensures.next a.before a.after (lies_at p c.args.chain.now xs c.args.name.now id lies a))

pub loop-at-smaller : goal.loop-at-smaller
loop-at-smaller g c =
    let r = c.requires in
    let p = c.args.slots.now in
    let id = c.in-Some.id in
    let a = walk_at p r.0 c.args.name.now c.loop-at.at id (c.loop-at.invariant r.0 r.1) c.in-Some.is in
    let lies = lies_at p c.args.chain.now r.0 c.args.name.now id r.1 a in
    let falls = left_falls variable_links p c.args.chain.now a.before id a.after c.next-at.result lies (c.next-at.ensures.next a.before a.after lies) in
    subst (λ o. chain_left (links_at variable_links p) (length p.slots) c.next-at.result < chain_left (links_at variable_links p) (length p.slots) o) (sym c.in-Some.is) falls

pub returns-then-is_named : goal.returns-then-is_named
returns-then-is_named g c xs lies =
    let p = c.args.slots.now in
    let id = c.in-Some.id in
    let a = walk_at p xs c.args.name.now c.loop-at.at id (c.loop-at.invariant xs lies) c.in-Some.is in
    name_found p c.args.chain.now xs c.args.name.now id c.is_named.result lies (at_in p xs c.args.name.now id a) c.is_named.ensures c.if-is_named.true

pub returns : goal.returns
returns g c xs lies =
    walk_ends c.args.slots.now xs c.args.name.now c.loop-at.at (c.loop-at.invariant xs lies) c.in_default.is
