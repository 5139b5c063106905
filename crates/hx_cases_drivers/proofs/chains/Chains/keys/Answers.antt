use Rattle.std.proofs.Common.{subst}
use Rattle.hx_pool.specs.Chain.{LiesIn, links_at}
use Rattle.hx_pool.proofs.LyingLemmas.{lies_live, in_about}
use Rattle.hx_cases_drivers.specs.declared.chains.Item.{Item}
use Rattle.hx_cases_drivers.proofs.WalkLemmas.{walk_begins, walk_split, walk_goes_on}
use Rattle.hx_cases_drivers.proofs.chains.Chains.keys.Goals as goal

pub get-requires : goal.get-requires
get-requires g c =
    let v = c.self.invariant in
    let s = walk_split v.0 c.loop-read.at c.in-Some.id (c.loop-read.invariant v.0 v.2) c.in-Some.is in
    lies_live (λ (item : Item). item.links) c.self.inside.pool c.self.inside.first v.0 c.in-Some.id v.2 (in_about v.0 s.0 s.1 c.in-Some.id s.2)

pub next-at-requires : goal.next-at-requires
next-at-requires g c =
    let v = c.self.invariant in
    let s = walk_split v.0 c.loop-read.at c.in-Some.id (c.loop-read.invariant v.0 v.2) c.in-Some.is in
    (s.0, s.1, subst (LiesIn (λ (item : Item). item.links) c.self.inside.pool c.self.inside.first) s.2 v.2)

pub loop-read-init : goal.loop-read-init
loop-read-init g c xs lies = walk_begins xs c.front-at.result (c.front-at.ensures (links_at (λ (item : Item). item.links) c.self.inside.pool) xs lies)

pub loop-read-preserved : goal.loop-read-preserved
loop-read-preserved g c xs lies =
    let s = walk_split xs c.loop-read.at c.in-Some.id (c.loop-read.invariant xs lies) c.in-Some.is in
    walk_goes_on xs c.in-Some.id c.next-at.result s (c.next-at.ensures.next s.0 s.1 (subst (LiesIn (λ (item : Item). item.links) c.self.inside.pool c.self.inside.first) s.2 lies))
