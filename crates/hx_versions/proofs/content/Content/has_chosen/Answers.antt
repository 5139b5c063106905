use Rattle.std.proofs.Common.{◌++◌, refl, sym, ◌∙◌, arith}
use Rattle.hx_versions.specs.Versions.{is_chosen}
use Rattle.hx_versions.proofs.PlacedLemmas.{entry_live}
use Rattle.hx_versions.proofs.ReachLemmas.{any_end, any_reached, content_reached, none_reached, nothing_left, reach_begins, reach_on, reached}
use Rattle.hx_versions.proofs.WalkLemmas.{AnyLeft, any_hit, any_step, tested}
use Rattle.hx_versions.proofs.content.Content.has_chosen.Goals as goal

pub first_to-at-requires-clause-way : goal.first_to-at-requires-clause-way
first_to-at-requires-clause-way g c = (c.args.choice.now, c.way_to-way.ensures.leads)

pub first_to-at-requires-clause-content : goal.first_to-at-requires-clause-content
first_to-at-requires-clause-content g c =
    let r = c.requires in (c.args.entries.now, r.0, r.1, r.2)

pub loop-passed-init : goal.loop-passed-init
loop-passed-init g c v placed h =
    let test = is_chosen c.args.choice.now in
    reach_begins c.way_to-way.result test placed (AnyLeft test placed) c.first_to-at.result
    (c.first_to-at.ensures c.args.choice.now c.args.entries.now v placed c.way_to-way.ensures.leads h) refl

pub is_chosen-requires : goal.is_chosen-requires
is_chosen-requires g c =
    let r = c.requires in
    let e = c.args.entries.now in
    let n = c.args.nodes.now in
    let self = c.args.self.now in
    let test = is_chosen c.args.choice.now in
    let way = c.way_to-way.result in
    let slot = c.in-Some.slot in
    let w = c.loop-passed.invariant r.0 r.1 r.2 in
    let a = reached way test c.loop-passed.at slot w.rest c.in-Some.is w.here in
    entry_live e n r.0 self (w.seen ++ a.before) a.entry a.after slot a.here (content_reached way test e n r.0 self r.1 w.seen w.rest slot r.2 w.whole a)

pub next_to-at-requires-clause-way : goal.next_to-at-requires-clause-way
next_to-at-requires-clause-way g c = (c.args.choice.now, c.way_to-way.ensures.leads)

pub next_to-at-requires-clause-content : goal.next_to-at-requires-clause-content
next_to-at-requires-clause-content g c =
    let r = c.requires in
    let test = is_chosen c.args.choice.now in
    let way = c.way_to-way.result in
    let slot = c.in-Some.slot in
    let w = c.loop-passed.invariant r.0 r.1 r.2 in
    let a = reached way test c.loop-passed.at slot w.rest c.in-Some.is w.here in
    (r.0, w.seen ++ a.before, a.entry, a.after, a.here, content_reached way test c.args.entries.now c.args.nodes.now r.0 c.args.self.now r.1 w.seen w.rest slot r.2 w.whole a)

pub loop-passed-preserved : goal.loop-passed-preserved
loop-passed-preserved g c v placed h =
    let e = c.args.entries.now in
    let n = c.args.nodes.now in
    let self = c.args.self.now in
    let test = is_chosen c.args.choice.now in
    let way = c.way_to-way.result in
    let w = c.loop-passed.invariant v placed h in
    let slot = c.in-Some.slot in
    let a = reached way test c.loop-passed.at slot w.rest c.in-Some.is w.here in
    let seen = w.seen ++ a.before in
    let at = content_reached way test e n v self placed w.seen w.rest slot h w.whole a in
    let miss = tested e n v self seen a.entry a.after slot a.here at test c.is_chosen.result c.is_chosen.ensures ∙ c.if-is_chosen.false in
    let next = c.next_to-at.ensures c.args.choice.now v seen a.entry a.after a.here c.way_to-way.ensures.leads a.chosen at in
    reach_on way test placed (AnyLeft test placed) (AnyLeft test placed) c.loop-passed.at c.next_to-at.result c.loop-passed._passed slot w a next
    (sym (any_step test a.entry a.after miss) ∙ sym (any_reached way test w.rest slot a) ∙ w.holds)

pub returns-in_default : goal.returns-in_default
returns-in_default g c v placed h =
    let test = is_chosen c.args.choice.now in
    let w = c.loop-passed.invariant v placed h in
    sym (any_end test w.rest (none_reached c.way_to-way.result test c.loop-passed.at w.rest c.in_default.is w.here)) ∙ w.holds

pub returns-then-is_chosen : goal.returns-then-is_chosen
returns-then-is_chosen g c v placed h =
    let e = c.args.entries.now in
    let n = c.args.nodes.now in
    let self = c.args.self.now in
    let test = is_chosen c.args.choice.now in
    let way = c.way_to-way.result in
    let w = c.loop-passed.invariant v placed h in
    let slot = c.in-Some.slot in
    let a = reached way test c.loop-passed.at slot w.rest c.in-Some.is w.here in
    let at = content_reached way test e n v self placed w.seen w.rest slot h w.whole a in
    let hit = tested e n v self (w.seen ++ a.before) a.entry a.after slot a.here at test c.is_chosen.result c.is_chosen.ensures ∙ c.if-is_chosen.true in
    sym (any_reached way test w.rest slot a ∙ any_hit test a.entry a.after hit) ∙ w.holds

pub returns : goal.returns
returns g c v placed h =
    let test = is_chosen c.args.choice.now in
    let w = c.loop-passed.invariant v placed h in
    sym (any_end test w.rest (nothing_left test w.rest (omega (arith, w.left, h.count, c.loop-passed-test.false)))) ∙ w.holds
