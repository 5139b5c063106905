use Rattle.std.proofs.Common.{◌+◌, refl, arith}
use Rattle.hx_versions.specs.declared.content.Content.{Content}
use Rattle.hx_versions.specs.declared.stored_entry.StoredEntry.{StoredEntry}
use Rattle.hx_versions.specs.Contents.{items_of, slots_of}
use Rattle.hx_versions.proofs.AppendLemmas.{appended, chain_kept, first_owned, new_own, off, others_kept}
use Rattle.hx_versions.proofs.PuttingLemmas.{ways_length}
use Rattle.hx_versions.proofs.WritingLemmas.{live_entry}
use Rattle.hx_versions.proofs.content.Content.append.Goals as goal

pub put_each-numbers-requires-clause-keys : goal.put_each-numbers-requires-clause-keys
put_each-numbers-requires-clause-keys g c = (c.args.new.key, c.requires.keys)

pub put_each-numbers-requires-clause-stand : goal.put_each-numbers-requires-clause-stand
put_each-numbers-requires-clause-stand g c = (items_of c.requires.content.0, c.requires.content.1.indexes)

pub set_nodes-requires : goal.set_nodes-requires
set_nodes-requires g c =
    let put = c.take_slot-slot.ensures.entry in
    live_entry c.take_slot-slot.new.entries c.take_slot-slot.result put.0 put.1.changed

pub push_back-requires-clause-live : goal.push_back-requires-clause-live
push_back-requires-clause-live g c =
    let put = c.take_slot-slot.ensures.entry in
    let second : StoredEntry = record put.0 { nodes = c.put_each-numbers.result } in
    live_entry c.set_nodes.new.entries c.take_slot-slot.result second (c.set_nodes.ensures.updates put.0 put.1.changed).changed

pub push_back-requires-clause-lies : goal.push_back-requires-clause-lies
push_back-requires-clause-lies g c =
    let e0 = c.args.entries.now in
    let e1 = c.take_slot-slot.new.entries in
    let e2 = c.set_nodes.new.entries in
    let slot = c.take_slot-slot.result in
    let free = c.take_slot-slot.ensures.was_free in
    let put = c.take_slot-slot.ensures.entry in
    let second : StoredEntry = record put.0 { nodes = c.put_each-numbers.result } in
    let changed = c.set_nodes.ensures.updates put.0 put.1.changed in
    let placed = c.requires.content.0 in
    let h = c.requires.content.1 in (
      slots_of placed,
      chain_kept e0 e1 e2 c.args.version slot put.0 second free put.1 put.2 changed c.args.self.now c.args.nodes.now placed h,
      off e0 e1 e2 c.args.version slot put.0 second free put.1 put.2 changed c.args.self.now c.args.nodes.now placed h,
    )

pub returns-clause-content : goal.returns-clause-content
returns-clause-content g c placed h =
    let e0 = c.args.entries.now in
    let e1 = c.take_slot-slot.new.entries in
    let e2 = c.set_nodes.new.entries in
    let e3 = c.push_back.new.pool in
    let slot = c.take_slot-slot.result in
    let free = c.take_slot-slot.ensures.was_free in
    let put = c.take_slot-slot.ensures.entry in
    let numbers = c.put_each-numbers.result in
    let second : StoredEntry = record put.0 { nodes = numbers } in
    let changed = c.set_nodes.ensures.updates put.0 put.1.changed in
    let old = c.args.self.now in
    let indexes = c.put_each-numbers.new.indexes in
    let ways = c.put_each-numbers.ensures.ways in
    let new : Content = record { count = old.count + 1; entries = c.push_back.new.self; indexes = indexes } in
    let n = c.args.nodes.now in
    let lies = c.push_back.ensures.lies (slots_of placed)
    (chain_kept e0 e1 e2 c.args.version slot put.0 second free put.1 put.2 changed old n placed h)
    (off e0 e1 e2 c.args.version slot put.0 second free put.1 put.2 changed old n placed h) in (
      numbers,
      appended e0 e1 e2 c.args.version slot put.0 second free put.1 put.2 changed e3 c.push_back.ensures.values old new n c.put_each-numbers.new.nodes placed
          (record { number = c.args.new.number; key = c.args.new.key; value = c.args.new.value }) numbers h
          put.2 put.3 refl c.put_each-numbers.ensures.numbers ways (ways_length indexes.items old.indexes.items ways) refl lies
          (c.put_each-numbers.ensures.stand (items_of placed) c.args.new.key h.indexes c.requires.keys),
    )

pub returns-clause-others : goal.returns-clause-others
returns-clause-others g c =
    let e0 = c.args.entries.now in
    let e1 = c.take_slot-slot.new.entries in
    let e2 = c.set_nodes.new.entries in
    let e3 = c.push_back.new.pool in
    let v = c.args.version in
    let slot = c.take_slot-slot.result in
    let free = c.take_slot-slot.ensures.was_free in
    let put = c.take_slot-slot.ensures.entry in
    let second : StoredEntry = record put.0 { nodes = c.put_each-numbers.result } in
    let changed = c.set_nodes.ensures.updates put.0 put.1.changed in
    let old = c.args.self.now in
    let n = c.args.nodes.now in
    let placed = c.requires.content.0 in
    let h = c.requires.content.1 in
    let lies = chain_kept e0 e1 e2 v slot put.0 second free put.1 put.2 changed old n placed h in
    others_kept e0 e1 e2 v slot put.0 second free put.1 put.2 changed e3 c.push_back.ensures.values old n c.put_each-numbers.new.nodes placed h
    (c.push_back.ensures.others (slots_of placed) lies)
    (c.put_each-numbers.ensures.others (items_of placed) e1 v h.indexes
    (first_owned e0 e1 e2 v slot put.0 second free put.1 put.2 n old placed h) (new_own e0 e1 e2 v slot put.0 second free put.1 put.2))

pub returns-clause-spare_entries : goal.returns-clause-spare_entries
returns-clause-spare_entries g c =
    omega (arith, c.push_back.ensures.values.spare, c.set_nodes.ensures.spare, c.take_slot-slot.ensures.spare)

pub returns-clause-live_entries : goal.returns-clause-live_entries
returns-clause-live_entries g c =
    omega (arith, c.push_back.ensures.values.live, c.set_nodes.ensures.live, c.take_slot-slot.ensures.live)
