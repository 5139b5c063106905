use Rattle.std.proofs.Common.{◌≡◌, ◌+◌, ◌*◌, ◌++◌, length, refl, sym, subst, ◌∙◌, arith}
use Rattle.hx_pool.specs.Pool.{live_count}
use Rattle.hx_versions.specs.Contents.{IsContent, IsWayTo, without_chosen_entries}
use Rattle.hx_versions.specs.Versions.{is_chosen}
use Rattle.hx_versions.proofs.ContentLemmas.{leaves_on, leaves_self}
use Rattle.hx_versions.proofs.PuttingLemmas.{ways_length}
use Rattle.hx_versions.proofs.ReachLemmas.{none_reached, nothing_left, others_end, others_reached, reach_begins, reach_on, reached}
use Rattle.hx_versions.proofs.WalkLemmas.{OthersLeft, without_more}
use Rattle.hx_versions.proofs.content.Content.delete_chosen.Goals as goal

pub first_to-at-requires-clause-way : goal.first_to-at-requires-clause-way
first_to-at-requires-clause-way g c = (c.args.choice.now, c.way_to-way.ensures.leads)

pub first_to-at-requires-clause-content : goal.first_to-at-requires-clause-content
first_to-at-requires-clause-content g c =
    let r = c.requires in (c.args.entries.now, r.0, r.1, r.2)

pub loop-passed-init : goal.loop-passed-init
loop-passed-init g c = record {
  walk = λ v placed h.
      let test = is_chosen c.args.choice.now in
      reach_begins c.way_to-way.result test placed (OthersLeft test c.args.entries.now c.args.nodes.now v c.args.self.now) c.first_to-at.result
      (c.first_to-at.ensures c.args.choice.now c.args.entries.now v placed c.way_to-way.ensures.leads h) h;
  others = λ v placed h. leaves_self v c.args.entries.now c.args.nodes.now;
  ways = refl;
  count = omega arith;
  live_entries = refl;
  live_nodes = refl;
}

pub next_to-at-requires-clause-way : goal.next_to-at-requires-clause-way
next_to-at-requires-clause-way g c =
    let chosen = c.args.choice.now in
    let same = sym c.loop-passed.invariant.ways in
    (chosen, subst (λ ways. IsWayTo ways c.way_to-way.result chosen) same c.way_to-way.ensures.leads)

pub next_to-at-requires-clause-content : goal.next_to-at-requires-clause-content
next_to-at-requires-clause-content g c =
    let r = c.requires in
    let test = is_chosen c.args.choice.now in
    let way = c.way_to-way.result in
    let slot = c.in-Some.slot in
    let w = c.loop-passed.invariant.walk r.0 r.1 r.2 in
    let a = reached way test c.loop-passed.at slot w.rest c.in-Some.is w.here in (
      r.0,
      without_chosen_entries test (w.seen ++ a.before),
      a.entry,
      a.after,
      a.here,
      others_reached way test c.loop-passed.entries c.loop-passed.nodes r.0 c.loop-passed.self w.seen w.rest slot w.holds a,
    )

pub remove_chosen-requires : goal.remove_chosen-requires
remove_chosen-requires g c =
    let r = c.requires in
    let test = is_chosen c.args.choice.now in
    let way = c.way_to-way.result in
    let slot = c.in-Some.slot in
    let w = c.loop-passed.invariant.walk r.0 r.1 r.2 in
    let a = reached way test c.loop-passed.at slot w.rest c.in-Some.is w.here in (
      r.0,
      without_chosen_entries test (w.seen ++ a.before),
      a.entry,
      a.after,
      a.here,
      others_reached way test c.loop-passed.entries c.loop-passed.nodes r.0 c.loop-passed.self w.seen w.rest slot w.holds a,
    )

pub loop-passed-preserved : goal.loop-passed-preserved
loop-passed-preserved g c =
    let chosen = c.args.choice.now in
    let test = is_chosen chosen in
    let e = c.loop-passed.entries in
    let n = c.loop-passed.nodes in
    let self = c.loop-passed.self in
    let way = c.way_to-way.result in
    let slot = c.in-Some.slot in
    let i = c.loop-passed.invariant in
    let removal = c.remove_chosen in
    let many = length c.args.self.now.indexes.items in
    let same : length self.indexes.items ≡ many = ways_length self.indexes.items c.args.self.now.indexes.items i.ways in
    let leads = subst (λ ways. IsWayTo ways way chosen) (sym i.ways) c.way_to-way.ensures.leads in
    record {
      walk = λ v placed first.
          let w = i.walk v placed first in
          let a = reached way test c.loop-passed.at slot w.rest c.in-Some.is w.here in
          let seen = w.seen ++ a.before in
          let before = without_chosen_entries test seen in
          let h = others_reached way test e n v self w.seen w.rest slot w.holds a in
          let next = c.next_to-at.ensures chosen v before a.entry a.after a.here leads a.chosen h in
          reach_on way test placed (OthersLeft test e n v self) (OthersLeft test removal.new.entries removal.new.nodes v removal.new.self) c.loop-passed.at c.next_to-at.result c.loop-passed._passed slot w a next
          (subst (λ xs. IsContent removal.new.entries removal.new.nodes v removal.new.self (xs ++ a.after)) (sym (without_more test seen a.entry))
          (removal.ensures.content v before a.entry a.after a.here h));
      others = λ v placed first.
          let w = i.walk v placed first in
          let a = reached way test c.loop-passed.at slot w.rest c.in-Some.is w.here in
          let before = without_chosen_entries test (w.seen ++ a.before) in
          let h = others_reached way test e n v self w.seen w.rest slot w.holds a in
          leaves_on v c.args.entries.now e removal.new.entries c.args.nodes.now n removal.new.nodes (i.others v placed first) (removal.ensures.others v before a.entry a.after a.here h);
      ways = removal.ensures.ways ∙ i.ways;
      count = omega (arith, removal.ensures.count, i.count);
      live_entries = omega (arith, removal.ensures.live_entries, i.live_entries);
      live_nodes =
          let step = subst (λ k. live_count removal.new.nodes + self.count * k ≡ live_count n + removal.new.self.count * k) same removal.ensures.live_nodes in
          omega (arith, step, i.live_nodes);
    }

pub returns-in_default-clause-content : goal.returns-in_default-clause-content
returns-in_default-clause-content g c v placed h =
    let test = is_chosen c.args.choice.now in
    let w = c.loop-passed.invariant.walk v placed h in
    others_end test c.loop-passed.entries c.loop-passed.nodes v c.loop-passed.self placed w.seen w.rest w.whole
    (none_reached c.way_to-way.result test c.loop-passed.at w.rest c.in_default.is w.here) w.holds

pub returns-clause-content : goal.returns-clause-content
returns-clause-content g c v placed h =
    let test = is_chosen c.args.choice.now in
    let w = c.loop-passed.invariant.walk v placed h in
    others_end test c.loop-passed.entries c.loop-passed.nodes v c.loop-passed.self placed w.seen w.rest w.whole
    (nothing_left test w.rest (omega (arith, w.left, h.count, c.loop-passed-test.false))) w.holds
