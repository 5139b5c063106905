use Rattle.std.proofs.Common.{◌≡◌, ℕ, ◌+◌, ◌<◌, ◌≤◌, length, set, refl, sym, ap, subst, ◌∙◌, arith}
use Rattle.std.specs.Prelude.{slice_get}
use Rattle.std.proofs.lemmas.List.{length-map}
use Rattle.hx_index.specs.Items.{Item}
use Rattle.hx_versions.specs.Contents.{IsOfVersion, remaining_items, ways_of}
use Rattle.hx_versions.proofs.ContentLemmas.{remaining_of_version}
use Rattle.hx_versions.proofs.DismantlingLemmas.{dismantled_count, dismantled_more, dismantled_none}
use Rattle.hx_versions.proofs.IndexListLemmas.{get_within, way_of}
use Rattle.hx_versions.proofs.PuttingLemmas.{ways_length}
use Rattle.hx_versions.proofs.dismantling.dismantle_each.Goals as goal

pub dismantle_at-more-requires-clause-at : goal.dismantle_at-more-requires-clause-at
dismantle_at-more-requires-clause-at g c =
    omega (arith, c.loop-at-test.true, ways_length c.loop-at.indexes.items c.args.indexes.now.items c.loop-at.invariant.ways)

pub dismantle_at-more-requires-clause-stand : goal.dismantle_at-more-requires-clause-stand
dismantle_at-more-requires-clause-stand g c =
    let r = c.requires in
    let d = c.loop-at.invariant.stand r.0 r.1 r.2 in
    (remaining_items d.0, d.1.stand)

pub loop-at-init : goal.loop-at-init
loop-at-init g c = record {
  ways = refl;
  most = omega arith;
  live = omega arith;
  stand = λ lists many h. (lists, dismantled_none c.args.n c.args.nodes.now c.args.indexes.now.items lists h);
  others = λ lists entries version many h owned id node stored is at other. is;
}

pub loop-at-preserved : goal.loop-at-preserved
loop-at-preserved g c =
    let i = c.loop-at.invariant in
    let first = c.args.indexes.now.items in
    let at = c.loop-at.at in
    let step = c.dismantle_at-more in
    let within : at < length (ways_of first) = omega (arith, c.loop-at-test.true, length-map first way_of) in
    let way = get_within (ways_of first) at within in
    let here = ap (λ ws. slice_get ws at) i.ways ∙ way.1 in
    record {
      ways = step.ensures.ways ∙ i.ways;
      most = omega (arith, step.ensures.most, i.most);
      live = omega (arith, step.ensures.live, i.live);
      stand = λ lists many h.
          let d = i.stand lists many h in
          let out = step.ensures.stand (remaining_items d.0) way.0 d.1.stand here in
          let inside : at < length d.0 = omega (arith, d.1.taken.many, many, c.loop-at-test.true) in
          (set d.0 at out.0, dismantled_more c.args.n c.loop-at.given step.result at c.loop-at.nodes step.new.nodes c.loop-at.indexes.items step.new.indexes.items lists d.0 out.0 i.most d.1 inside (step.ensures.count (remaining_items d.0) way.0 d.1.stand here) out.1 out.2);
      others = λ lists entries version many h owned id node stored is at_entry other.
          let d = i.stand lists many h in
          step.ensures.others (remaining_items d.0) entries version d.1.stand
          (λ k w found. remaining_of_version (λ (item : Item). IsOfVersion entries version item.entry) d.0 k (d.1.taken.owned entries version owned))
          id node stored (i.others lists entries version many h owned id node stored is at_entry other) at_entry other;
    }

pub returns-clause-count : goal.returns-clause-count
returns-clause-count g c lists many h =
    let d = c.loop-at.invariant.stand lists many h in
    dismantled_count c.args.n c.loop-at.given c.loop-at.at c.loop-at.nodes c.loop-at.indexes.items lists d.0 c.loop-at.invariant.most d.1 (omega (arith, d.1.taken.many, many, c.loop-at-test.false))

pub returns-clause-stand : goal.returns-clause-stand
returns-clause-stand g c lists many h =
    let d = c.loop-at.invariant.stand lists many h in (d.0, d.1.taken, d.1.stand)
