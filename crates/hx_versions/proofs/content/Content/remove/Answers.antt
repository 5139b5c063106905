use Rattle.std.proofs.Common.{◌≡◌, ◌+◌, ◌-◌, ◌∷◌, ◌++◌, length, ap, ◌∙◌, arith, length-append}
use Rattle.hx_pool.proofs.LyingLemmas.{relinked_live}
use Rattle.hx_versions.specs.declared.content.Content.{Content}
use Rattle.hx_versions.specs.StoredEntries.{IsSameStoredEntry}
use Rattle.hx_versions.specs.Contents.{items_of, slots_of, ways_of}
use Rattle.hx_versions.proofs.PlacedLemmas.{chain_about, entry_live, entry_nodes, entry_owned, nodes_are, nodes_count}
use Rattle.hx_versions.proofs.RemovalLemmas.{others_left, removed}
use Rattle.hx_versions.proofs.content.Content.remove.Goals as goal

pub get-requires : goal.get-requires
get-requires g c =
    let r = c.requires in
    entry_live c.args.entries.now c.args.nodes.now r.0 c.args.self.now r.1 r.2 r.3 c.args.slot r.4 r.5

pub drop_each-requires-clause-numbers : goal.drop_each-requires-clause-numbers
drop_each-requires-clause-numbers g c =
    let r = c.requires in
    let e = c.args.entries.now in
    let n = c.args.nodes.now in
    let same = c.as_slice-numbers.ensures ∙ entry_nodes e n r.0 c.args.self.now r.1 r.2 r.3 c.args.slot r.4 r.5 c.get.result.now c.get.ensures.value in
    ap length same ∙ nodes_count e n r.0 c.args.self.now r.1 r.2 r.3 c.args.slot r.4 r.5

pub drop_each-requires-clause-stand : goal.drop_each-requires-clause-stand
drop_each-requires-clause-stand g c =
    let r = c.requires in
    let e = c.args.entries.now in
    let n = c.args.nodes.now in
    let same = c.as_slice-numbers.ensures ∙ entry_nodes e n r.0 c.args.self.now r.1 r.2 r.3 c.args.slot r.4 r.5 c.get.result.now c.get.ensures.value in
    (items_of (r.1 ++ r.2 ∷ r.3), r.5.indexes, nodes_are (ways_of c.args.self.now.indexes.items) c.as_slice-numbers.result.now r.1 r.2 r.3 same)

pub unlink-requires : goal.unlink-requires
unlink-requires g c =
    let r = c.requires in
    (slots_of r.1, slots_of r.3, chain_about c.args.entries.now c.args.nodes.now r.0 c.args.self.now r.1 r.2 r.3 c.args.slot r.4 r.5)

pub give_back-requires : goal.give_back-requires
give_back-requires g c =
    let r = c.requires in
    relinked_live IsSameStoredEntry c.args.entries.now c.unlink.new.pool c.args.slot c.unlink.ensures.values
    (entry_live c.args.entries.now c.args.nodes.now r.0 c.args.self.now r.1 r.2 r.3 c.args.slot r.4 r.5)

pub overflow_sub-self : goal.overflow_sub-self
overflow_sub-self g c =
    let r = c.requires in omega (arith, r.5.count, length-append r.1 (r.2 ∷ r.3))

pub returns-clause-content : goal.returns-clause-content
returns-clause-content g c v before p after here h =
    let e = c.args.entries.now in
    let n = c.args.nodes.now in
    let old = c.args.self.now in
    let slot = c.args.slot in
    let numbers = c.as_slice-numbers.result.now in
    let same = c.as_slice-numbers.ensures ∙ entry_nodes e n v old before p after slot here h c.get.result.now c.get.ensures.value in
    let new : Content = record { count = old.count - 1; entries = c.unlink.new.self; indexes = c.drop_each.new.indexes } in
    let some : new.count + 1 ≡ old.count = omega (arith, h.count, length-append before (p ∷ after)) in
    removed e c.unlink.new.pool c.give_back.new.entries n v old before p after slot here h c.give_back.ensures.updates c.unlink.ensures.values new c.drop_each.new.nodes numbers same
    (c.unlink.ensures.lies (slots_of before) (slots_of after) (chain_about e n v old before p after slot here h)) some c.drop_each.ensures.ways
    (c.drop_each.ensures.stand (items_of (before ++ p ∷ after)) h.indexes (nodes_are (ways_of old.indexes.items) numbers before p after same))

pub returns-clause-others : goal.returns-clause-others
returns-clause-others g c v before p after here h =
    let e = c.args.entries.now in
    let n = c.args.nodes.now in
    let old = c.args.self.now in
    let slot = c.args.slot in
    let numbers = c.as_slice-numbers.result.now in
    let same = c.as_slice-numbers.ensures ∙ entry_nodes e n v old before p after slot here h c.get.result.now c.get.ensures.value in
    others_left e c.unlink.new.pool c.give_back.new.entries n v old before p after slot here h c.give_back.ensures.updates c.drop_each.new.nodes
    (c.unlink.ensures.others (slots_of before) (slots_of after) (chain_about e n v old before p after slot here h))
    (c.drop_each.ensures.others (items_of (before ++ p ∷ after)) e v h.indexes (nodes_are (ways_of old.indexes.items) numbers before p after same) (entry_owned e n v old before p after slot here h))

pub returns-clause-live_entries : goal.returns-clause-live_entries
returns-clause-live_entries g c = omega (arith, c.give_back.ensures.live, c.unlink.ensures.values.live)
