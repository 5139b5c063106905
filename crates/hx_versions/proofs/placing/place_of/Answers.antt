use Rattle.std.proofs.Common.{◌≡◌, ◌<◌, Some, length, refl, sym, ap, subst, ◌∙◌, arith}
use Rattle.hx_pool.specs.Chain.{links_at}
use Rattle.hx_index.proofs.WalkLemmas.{chain_left, left_falls}
use Rattle.hx_versions.specs.StoredVersions.{version_links}
use Rattle.hx_versions.specs.Store.{version_slots_of}
use Rattle.hx_versions.proofs.VersionWalkLemmas.{has_at, lies_at, live_at, walk_at, walk_begins, walk_ends, walk_on}
use Rattle.hx_versions.proofs.placing.place_of.Goals as goal

pub number_in-found-requires : goal.number_in-found-requires
number_in-found-requires g c =
    let r = c.requires in
    let w = walk_at c.args.number r.1 c.loop-at.at c.in-Some.slot (c.loop-at.invariant r.0 r.1 r.2) c.in-Some.is in
    live_at c.args.pools.now r.0 c.args.row.now r.1 w.before w.version w.after c.in-Some.slot r.2 w.whole w.here

pub next-at-requires : goal.next-at-requires
next-at-requires g c =
    let r = c.requires in
    let w = walk_at c.args.number r.1 c.loop-at.at c.in-Some.slot (c.loop-at.invariant r.0 r.1 r.2) c.in-Some.is in
    (version_slots_of w.before, version_slots_of w.after, lies_at c.args.pools.now r.0 c.args.row.now c.args.number r.1 c.in-Some.slot r.2 w)

pub loop-at-init : goal.loop-at-init
loop-at-init g c owner vs h =
    walk_begins c.args.number vs c.front-at.result (c.front-at.ensures (links_at version_links c.args.pools.now.versions) (version_slots_of vs) h.chain)

pub loop-at-preserved : goal.loop-at-preserved
loop-at-preserved g c owner vs h =
    let p = c.args.pools.now in
    let row = c.args.row.now in
    let slot = c.in-Some.slot in
    let w = walk_at c.args.number vs c.loop-at.at slot (c.loop-at.invariant owner vs h) c.in-Some.is in
    let has = has_at p owner row vs w.before w.version w.after slot h w.whole w.here in
    let found : c.number_in-found.result ≡ w.version.number = c.number_in-found.ensures.number has.0 has.1 ∙ has.3 in
    walk_on c.args.number vs slot c.next-at.result w (omega (arith, found, c.if-found-number.false, c.if-number-found.false))
    (c.next-at.ensures.next (version_slots_of w.before) (version_slots_of w.after) (lies_at p owner row c.args.number vs slot h w))

pub loop-at-smaller : goal.loop-at-smaller
loop-at-smaller g c =
    let r = c.requires in
    let p = c.args.pools.now.versions in
    let slot = c.in-Some.slot in
    let w = walk_at c.args.number r.1 c.loop-at.at slot (c.loop-at.invariant r.0 r.1 r.2) c.in-Some.is in
    let lies = lies_at c.args.pools.now r.0 c.args.row.now c.args.number r.1 slot r.2 w in
    let falls = left_falls version_links p c.args.row.now.versions (version_slots_of w.before) slot (version_slots_of w.after) c.next-at.result lies (c.next-at.ensures.next (version_slots_of w.before) (version_slots_of w.after) lies) in
    subst (λ o. chain_left (links_at version_links p) (length p.slots) c.next-at.result < chain_left (links_at version_links p) (length p.slots) o) (sym c.in-Some.is) falls

pub returns-then-found-number : goal.returns-then-found-number
returns-then-found-number g c owner vs h =
    let p = c.args.pools.now in
    let slot = c.in-Some.slot in
    let w = walk_at c.args.number vs c.loop-at.at slot (c.loop-at.invariant owner vs h) c.in-Some.is in
    let has = has_at p owner c.args.row.now vs w.before w.version w.after slot h w.whole w.here in
    let found : c.number_in-found.result ≡ w.version.number = c.number_in-found.ensures.number has.0 has.1 ∙ has.3 in
    (w.before, w.version, w.after, w.whole, w.below, w.here, omega (arith, found, c.if-found-number.true))

pub returns-then-number-found : goal.returns-then-number-found
returns-then-number-found g c owner vs h =
    let p = c.args.pools.now in
    let slot = c.in-Some.slot in
    let w = walk_at c.args.number vs c.loop-at.at slot (c.loop-at.invariant owner vs h) c.in-Some.is in
    let has = has_at p owner c.args.row.now vs w.before w.version w.after slot h w.whole w.here in
    let found : c.number_in-found.result ≡ w.version.number = c.number_in-found.ensures.number has.0 has.1 ∙ has.3 in
    (w.before, w.version, w.after, w.whole, w.below, w.here, omega (arith, found, c.if-number-found.true))

pub returns : goal.returns
returns g c owner vs h =
    walk_ends c.args.number vs c.loop-at.at (c.loop-at.invariant owner vs h) c.in_default.is
