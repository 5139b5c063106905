use Rattle.std.proofs.Common.{◌≡◌, ◌+◌, ◌*◌, [], ◌∷◌, ◌++◌, length, refl, sym, ap, subst, ◌∙◌, arith, length-append}
use Rattle.std.proofs.lemmas.List.{length-map, length-reverse}
use Rattle.hx_versions.specs.Contents.{PlacedEntry, ways_of}
use Rattle.hx_versions.specs.NewEntries.{AreReadyFor, IsReadyFor, added_entry}
use Rattle.hx_versions.proofs.AppendingLemmas.{all_rest, all_reversed, appended_all, appended_more, appended_none, reverse_twice}
use Rattle.hx_versions.proofs.ContentLemmas.{leaves_on, leaves_self}
use Rattle.hx_versions.proofs.IndexListLemmas.{way_of}
use Rattle.hx_versions.proofs.PuttingLemmas.{ways_length}
use Rattle.hx_versions.proofs.content.Content.append_each.Goals as goal

pub loop-new-init : goal.loop-new-init
loop-new-init g c =
    let is = c.reversed-left.ensures in
    let many : length c.reversed-left.result.items ≡ length c.args.added.items = ap length is ∙ length-reverse c.args.added.items in
    record {
      content = λ placed h. appended_none c.args.entries.now c.args.nodes.now c.args.version c.args.self.now placed c.args.added.items c.reversed-left.result.items is (reverse_twice c.args.added.items) h;
      others = leaves_self c.args.version c.args.entries.now c.args.nodes.now;
      ways = refl;
      ready = subst (AreReadyFor (ways_of c.args.self.now.indexes.items)) (sym is) (all_reversed (IsReadyFor (ways_of c.args.self.now.indexes.items)) c.args.added.items c.requires.ready);
      count = omega (arith, many);
      spare_entries = omega (arith, many);
      spare_nodes = ap (λ k. c.args.nodes.now.spare + k * length c.args.self.now.indexes.items) (sym many);
      live_entries = omega (arith, many);
      live_nodes = omega (arith, ap (λ k. k * length c.args.self.now.indexes.items) many);
    }

pub append-requires-clause-count : goal.append-requires-clause-count
append-requires-clause-count g c =
    let i = c.loop-new.invariant in
    omega (arith, i.count, c.requires.count, ap length c.in-Some.ensures.items, length-append c.pop.new.self.items (c.in-Some.new ∷ []))

pub append-requires-clause-slot : goal.append-requires-clause-slot
append-requires-clause-slot g c =
    let i = c.loop-new.invariant in
    omega (arith, i.spare_entries, c.requires.slots, ap length c.in-Some.ensures.items, length-append c.pop.new.self.items (c.in-Some.new ∷ []))

pub append-requires-clause-nodes : goal.append-requires-clause-nodes
append-requires-clause-nodes g c =
    let i = c.loop-new.invariant in
    let many = length c.args.self.now.indexes.items in
    let same : length c.loop-new.self.indexes.items ≡ many = ways_length c.loop-new.self.indexes.items c.args.self.now.indexes.items i.ways in
    let left : length c.loop-new.left.items ≡ length c.pop.new.self.items + 1 = ap length c.in-Some.ensures.items ∙ length-append c.pop.new.self.items (c.in-Some.new ∷ []) in
    omega (arith, same, i.spare_nodes, c.requires.nodes, ap (λ k. k * many) left)

pub append-requires-clause-keys : goal.append-requires-clause-keys
append-requires-clause-keys g c =
    let ways = ways_of c.args.self.now.indexes.items in
    let ready = all_rest (IsReadyFor ways) c.pop.new.self.items c.in-Some.new (subst (AreReadyFor ways) c.in-Some.ensures.items c.loop-new.invariant.ready) in
    (subst (λ ws. IsReadyFor ws c.in-Some.new) (sym c.loop-new.invariant.ways) ready.1).keys

pub append-requires-clause-numbers : goal.append-requires-clause-numbers
append-requires-clause-numbers g c =
    let ways = ways_of c.args.self.now.indexes.items in
    let ready = all_rest (IsReadyFor ways) c.pop.new.self.items c.in-Some.new (subst (AreReadyFor ways) c.in-Some.ensures.items c.loop-new.invariant.ready) in
    let here = subst (λ ws. IsReadyFor ws c.in-Some.new) (sym c.loop-new.invariant.ways) ready.1 in
    here.numbers ∙ length-map c.loop-new.self.indexes.items way_of

pub append-requires-clause-content : goal.append-requires-clause-content
append-requires-clause-content g c =
    let r = c.requires.content in
    let a = c.loop-new.invariant.content r.0 r.1 in
    (r.0 ++ a.more, a.content)

pub loop-new-preserved : goal.loop-new-preserved
loop-new-preserved g c =
    let i = c.loop-new.invariant in
    let ways = ways_of c.args.self.now.indexes.items in
    let many = length c.args.self.now.indexes.items in
    let same : length c.loop-new.self.indexes.items ≡ many = ways_length c.loop-new.self.indexes.items c.args.self.now.indexes.items i.ways in
    let new = c.in-Some.new in
    let rest = c.pop.new.self.items in
    let last = c.in-Some.ensures.items in
    let left : length c.loop-new.left.items ≡ length rest + 1 = ap length last ∙ length-append rest (new ∷ []) in
    let left_many = ap (λ k. k * many) left in
    let step = c.append in
    record {
      content = λ placed h.
          let a = i.content placed h in
          let next = step.ensures.content (placed ++ a.more) a.content in
          let p : PlacedEntry = record { slot = step.result; entry = added_entry new; nodes = next.0 } in
          appended_more c.loop-new.entries step.new.entries c.loop-new.nodes step.new.nodes c.args.version c.loop-new.self step.new.self placed c.args.added.items c.loop-new.left.items rest new p a last refl next.1;
      others = leaves_on c.args.version c.args.entries.now c.loop-new.entries step.new.entries c.args.nodes.now c.loop-new.nodes step.new.nodes i.others step.ensures.others;
      ways = step.ensures.ways ∙ i.ways;
      ready = (all_rest (IsReadyFor ways) rest new (subst (AreReadyFor ways) last i.ready)).0;
      count = omega (arith, step.ensures.count, i.count, left);
      spare_entries = omega (arith, step.ensures.spare_entries, i.spare_entries, left);
      spare_nodes = omega (arith, step.ensures.spare_nodes, i.spare_nodes, left_many, same);
      live_entries = omega (arith, step.ensures.live_entries, i.live_entries, left);
      live_nodes = omega (arith, step.ensures.live_nodes, i.live_nodes, left_many, same);
    }

pub loop-new-smaller : goal.loop-new-smaller
loop-new-smaller g c =
    omega (arith, ap length c.in-Some.ensures.items, length-append c.pop.new.self.items (c.in-Some.new ∷ []))

pub returns-clause-content : goal.returns-clause-content
returns-clause-content g c placed h =
    let a = c.loop-new.invariant.content placed h in
    let none : length c.loop-new.left.items ≡ 0 = omega (arith, c.in_default.ensures.cases.0, c.loop-new.left.ok.0) in
    (a.more, appended_all c.loop-new.entries c.loop-new.nodes c.args.version c.loop-new.self placed c.args.added.items c.loop-new.left.items a none, a.content)
