use Rattle.std.proofs.Common.{◌++◌, refl, sym, subst, ◌∙◌, arith}
use Rattle.hx_versions.specs.Contents.{IsContent, with_chosen_values}
use Rattle.hx_versions.specs.Versions.{is_chosen}
use Rattle.hx_versions.proofs.ContentLemmas.{leaves_on, leaves_self}
use Rattle.hx_versions.proofs.PlacedLemmas.{entry_live}
use Rattle.hx_versions.proofs.ReachLemmas.{none_reached, nothing_left, reach_begins, reach_on, reached, values_end, values_reached}
use Rattle.hx_versions.proofs.ValueWalkLemmas.{ValuesLeft, given, value_left, values_more}
use Rattle.hx_versions.proofs.WalkLemmas.{tested_one}
use Rattle.hx_versions.proofs.content.Content.give_values.Goals as goal

pub first_to-at-requires-clause-way : goal.first_to-at-requires-clause-way
first_to-at-requires-clause-way g c = (c.args.choice.now, c.way_to-way.ensures.leads)

pub first_to-at-requires-clause-content : goal.first_to-at-requires-clause-content
first_to-at-requires-clause-content g c =
    let r = c.requires in (c.args.entries.now, r.0, r.1, r.3)

pub loop-passed-init : goal.loop-passed-init
loop-passed-init g c = record {
  walk = λ v placed value h copies.
      let test = is_chosen c.args.choice.now in
      reach_begins c.way_to-way.result test placed (ValuesLeft test value c.args.entries.now c.args.nodes.now v c.args.self.now c.args.values.items) c.first_to-at.result
      (c.first_to-at.ensures c.args.choice.now c.args.entries.now v placed c.way_to-way.ensures.leads h) (record { content = h; copies_are = copies });
  others = λ v placed value h copies. leaves_self v c.args.entries.now c.args.nodes.now;
  spare = refl;
  live = refl;
}

pub next_to-at-requires-clause-way : goal.next_to-at-requires-clause-way
next_to-at-requires-clause-way g c = (c.args.choice.now, c.way_to-way.ensures.leads)

pub next_to-at-requires-clause-content : goal.next_to-at-requires-clause-content
next_to-at-requires-clause-content g c =
    let r = c.requires in
    let e = c.loop-passed.entries in
    let n = c.args.nodes.now in
    let self = c.args.self.now in
    let test = is_chosen c.args.choice.now in
    let way = c.way_to-way.result in
    let slot = c.in-Some.slot in
    let w = c.loop-passed.invariant.walk r.0 r.1 r.2 r.3 r.4 in
    let a = reached way test c.loop-passed.at slot w.rest c.in-Some.is w.here in
    let l = values_reached way test r.2 e n r.0 self c.loop-passed.values.items w.seen w.rest slot w.holds a in
    (r.0, with_chosen_values test r.2 (w.seen ++ a.before), a.entry, a.after, a.here, l.content)

pub give_value-requires-clause-live : goal.give_value-requires-clause-live
give_value-requires-clause-live g c =
    let r = c.requires in
    let e = c.loop-passed.entries in
    let n = c.args.nodes.now in
    let self = c.args.self.now in
    let test = is_chosen c.args.choice.now in
    let way = c.way_to-way.result in
    let slot = c.in-Some.slot in
    let w = c.loop-passed.invariant.walk r.0 r.1 r.2 r.3 r.4 in
    let a = reached way test c.loop-passed.at slot w.rest c.in-Some.is w.here in
    let l = values_reached way test r.2 e n r.0 self c.loop-passed.values.items w.seen w.rest slot w.holds a in
    entry_live e n r.0 self (with_chosen_values test r.2 (w.seen ++ a.before)) a.entry a.after slot a.here l.content

pub give_value-requires-clause-values : goal.give_value-requires-clause-values
give_value-requires-clause-values g c stored is hit =
    let r = c.requires in
    let e = c.loop-passed.entries in
    let n = c.args.nodes.now in
    let self = c.args.self.now in
    let test = is_chosen c.args.choice.now in
    let way = c.way_to-way.result in
    let slot = c.in-Some.slot in
    let w = c.loop-passed.invariant.walk r.0 r.1 r.2 r.3 r.4 in
    let a = reached way test c.loop-passed.at slot w.rest c.in-Some.is w.here in
    let l = values_reached way test r.2 e n r.0 self c.loop-passed.values.items w.seen w.rest slot w.holds a in
    value_left test r.2 a.entry a.after c.loop-passed.values.items l.copies_are
    (tested_one e n r.0 self (with_chosen_values test r.2 (w.seen ++ a.before)) a.entry a.after slot a.here l.content test stored is hit)

pub loop-passed-preserved : goal.loop-passed-preserved
loop-passed-preserved g c =
    let test = is_chosen c.args.choice.now in
    let e = c.loop-passed.entries in
    let n = c.args.nodes.now in
    let self = c.args.self.now in
    let way = c.way_to-way.result in
    let slot = c.in-Some.slot in
    let i = c.loop-passed.invariant in
    let give = c.give_value in
    let values = c.loop-passed.values.items in
    record {
      walk = λ v placed value first all.
          let w = i.walk v placed value first all in
          let a = reached way test c.loop-passed.at slot w.rest c.in-Some.is w.here in
          let seen = w.seen ++ a.before in
          let before = with_chosen_values test value seen in
          let l = values_reached way test value e n v self values w.seen w.rest slot w.holds a in
          let next = c.next_to-at.ensures c.args.choice.now v before a.entry a.after a.here c.way_to-way.ensures.leads a.chosen l.content in
          let step = given test value e give.new.entries n v self before a.entry a.after slot a.here l.content values give.new.values.items
          (record { chosen = give.ensures.chosen; other = give.ensures.other }) l.copies_are in
          reach_on way test placed (ValuesLeft test value e n v self values) (ValuesLeft test value give.new.entries n v self give.new.values.items) c.loop-passed.at c.next_to-at.result c.loop-passed._passed slot w a next
          (record {
            content = subst (λ xs. IsContent give.new.entries n v self (xs ++ a.after)) (sym (values_more test value seen a.entry)) step.content;
            copies_are = step.copies;
          });
      others = λ v placed value first all.
          let w = i.walk v placed value first all in
          let a = reached way test c.loop-passed.at slot w.rest c.in-Some.is w.here in
          let before = with_chosen_values test value (w.seen ++ a.before) in
          let l = values_reached way test value e n v self values w.seen w.rest slot w.holds a in
          let step = given test value e give.new.entries n v self before a.entry a.after slot a.here l.content values give.new.values.items
          (record { chosen = give.ensures.chosen; other = give.ensures.other }) l.copies_are in
          leaves_on v c.args.entries.now e give.new.entries n n n (i.others v placed value first all) step.others;
      spare = give.ensures.spare ∙ i.spare;
      live = give.ensures.live ∙ i.live;
    }

pub returns-in_default-clause-content : goal.returns-in_default-clause-content
returns-in_default-clause-content g c v placed value h copies =
    let test = is_chosen c.args.choice.now in
    let w = c.loop-passed.invariant.walk v placed value h copies in
    values_end test value c.loop-passed.entries c.args.nodes.now v c.args.self.now placed w.seen w.rest w.whole
    (none_reached c.way_to-way.result test c.loop-passed.at w.rest c.in_default.is w.here) w.holds.content

pub returns-clause-content : goal.returns-clause-content
returns-clause-content g c v placed value h copies =
    let test = is_chosen c.args.choice.now in
    let w = c.loop-passed.invariant.walk v placed value h copies in
    values_end test value c.loop-passed.entries c.args.nodes.now v c.args.self.now placed w.seen w.rest w.whole
    (nothing_left test w.rest (omega (arith, w.left, h.count, c.loop-passed-test.false))) w.holds.content
