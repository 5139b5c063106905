use Rattle.std.proofs.Common.{◌++◌, replicate, ap, arith}
use Rattle.hx_versions.specs.Contents.{entries_of}
use Rattle.hx_versions.specs.Versions.{chosen_count, is_chosen}
use Rattle.hx_versions.proofs.PlacedLemmas.{entry_live}
use Rattle.hx_versions.proofs.ReachLemmas.{content_reached, copies_end, copies_reached, none_reached, nothing_left, reach_begins, reach_on, reached}
use Rattle.hx_versions.proofs.ValueWalkLemmas.{CopiesLeft, copied}
use Rattle.hx_versions.proofs.WalkLemmas.{tested}
use Rattle.hx_versions.proofs.content.Content.copies_for.Goals as goal

pub first_to-at-requires-clause-way : goal.first_to-at-requires-clause-way
first_to-at-requires-clause-way g c = (c.args.choice.now, c.way_to-way.ensures.leads)

pub first_to-at-requires-clause-content : goal.first_to-at-requires-clause-content
first_to-at-requires-clause-content g c =
    let r = c.requires in (c.args.entries.now, r.0, r.1, r.2)

pub loop-passed-init : goal.loop-passed-init
loop-passed-init g c v placed h =
    let test = is_chosen c.args.choice.now in
    reach_begins c.way_to-way.result test placed (CopiesLeft test c.args.value.now placed c.new-copies.result.items) c.first_to-at.result
    (c.first_to-at.ensures c.args.choice.now c.args.entries.now v placed c.way_to-way.ensures.leads h)
    (ap (λ xs. xs ++ replicate (chosen_count test (entries_of placed)) c.args.value.now) c.new-copies.ensures.items)

pub is_chosen-chosen-requires : goal.is_chosen-chosen-requires
is_chosen-chosen-requires g c =
    let r = c.requires in
    let e = c.args.entries.now in
    let n = c.args.nodes.now in
    let self = c.args.self.now in
    let test = is_chosen c.args.choice.now in
    let way = c.way_to-way.result in
    let slot = c.in-Some.slot in
    let w = c.loop-passed.invariant r.0 r.1 r.2 in
    let a = reached way test c.loop-passed.at slot w.rest c.in-Some.is w.here in
    entry_live e n r.0 self (w.seen ++ a.before) a.entry a.after slot a.here (content_reached way test e n r.0 self r.1 w.seen w.rest slot r.2 w.whole a)

pub next_to-at-requires-clause-way : goal.next_to-at-requires-clause-way
next_to-at-requires-clause-way g c = (c.args.choice.now, c.way_to-way.ensures.leads)

pub next_to-at-requires-clause-content : goal.next_to-at-requires-clause-content
next_to-at-requires-clause-content g c =
    let r = c.requires in
    let test = is_chosen c.args.choice.now in
    let way = c.way_to-way.result in
    let slot = c.in-Some.slot in
    let w = c.loop-passed.invariant r.0 r.1 r.2 in
    let a = reached way test c.loop-passed.at slot w.rest c.in-Some.is w.here in
    (r.0, w.seen ++ a.before, a.entry, a.after, a.here, content_reached way test c.args.entries.now c.args.nodes.now r.0 c.args.self.now r.1 w.seen w.rest slot r.2 w.whole a)

pub loop-passed-preserved : goal.loop-passed-preserved
loop-passed-preserved g c v placed h =
    let e = c.args.entries.now in
    let n = c.args.nodes.now in
    let self = c.args.self.now in
    let test = is_chosen c.args.choice.now in
    let value = c.args.value.now in
    let way = c.way_to-way.result in
    let w = c.loop-passed.invariant v placed h in
    let slot = c.in-Some.slot in
    let a = reached way test c.loop-passed.at slot w.rest c.in-Some.is w.here in
    let seen = w.seen ++ a.before in
    let at = content_reached way test e n v self placed w.seen w.rest slot h w.whole a in
    let chosen = c.is_chosen-chosen.result in
    let says = tested e n v self seen a.entry a.after slot a.here at test chosen c.is_chosen-chosen.ensures in
    let next = c.next_to-at.ensures c.args.choice.now v seen a.entry a.after a.here c.way_to-way.ensures.leads a.chosen at in
    let all = replicate (chosen_count test (entries_of placed)) value in
    reach_on way test placed (CopiesLeft test value placed c.loop-passed.copies.items) (CopiesLeft test value placed c.add_copy.new.copies.items) c.loop-passed.at c.next_to-at.result c.loop-passed._passed slot w a next
    (copied test value a.entry a.after chosen c.loop-passed.copies.items c.add_copy.new.copies.items all says
    c.in_ok-add_copy.ensures.asked c.in_ok-add_copy.ensures.other
    (copies_reached way test value c.loop-passed.copies.items all w.rest slot a w.holds))

pub returns-in_default : goal.returns-in_default
returns-in_default g c v placed h =
    let w = c.loop-passed.invariant v placed h in
    let test = is_chosen c.args.choice.now in
    copies_end test c.args.value.now w.rest c.loop-passed.copies.items (replicate (chosen_count test (entries_of placed)) c.args.value.now)
    (none_reached c.way_to-way.result test c.loop-passed.at w.rest c.in_default.is w.here) w.holds

pub returns : goal.returns
returns g c v placed h =
    let w = c.loop-passed.invariant v placed h in
    let test = is_chosen c.args.choice.now in
    copies_end test c.args.value.now w.rest c.loop-passed.copies.items (replicate (chosen_count test (entries_of placed)) c.args.value.now)
    (nothing_left test w.rest (omega (arith, w.left, h.count, c.loop-passed-test.false))) w.holds
