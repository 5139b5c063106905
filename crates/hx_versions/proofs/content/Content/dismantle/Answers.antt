use Rattle.std.proofs.Common.{◌≡◌, ℕ, ◌+◌, List, length, map, refl, sym, ap, subst, ◌∙◌, arith}
use Rattle.std.specs.Prelude.{sum}
use Rattle.hx_versions.specs.Contents.{remaining_slots}
use Rattle.hx_versions.proofs.DismantlingLemmas.{entries_given, nodes_given}
use Rattle.hx_versions.proofs.content.Content.dismantle.Goals as goal

pub dismantle_each-given-requires : goal.dismantle_each-given-requires
dismantle_each-given-requires g c = let r = c.requires in (r.1.items, r.2.lists, r.2.indexes)

pub returns-then-given-n-clause-count : goal.returns-then-given-n-clause-count
returns-then-given-n-clause-count g c v left h =
    omega (arith, c.dismantle_each-given.ensures.count left.items h.lists h.indexes, c.if-given-n.true)

pub returns-then-given-n-clause-content : goal.returns-then-given-n-clause-content
returns-then-given-n-clause-content g c v left h =
    let step = c.dismantle_each-given in
    let s = step.ensures.stand left.items h.lists h.indexes in
    let e = c.args.entries.now in
    let left_is = nodes_given e e c.args.nodes.now step.new.nodes v step.result c.args.self.now (record c.args.self.now { indexes = step.new.indexes }) left s.0 h s.1 step.ensures.ways s.2 refl in
    let all : step.result ≡ c.args.n = omega (arith, c.if-given-n.true) in
    (left_is.0, left_is.1, subst (λ k. remaining_slots left_is.0 + k ≡ remaining_slots left) all left_is.2)

pub returns-then-given-n-clause-others : goal.returns-then-given-n-clause-others
returns-then-given-n-clause-others g c v left h = record {
  of_entries = λ slot stored is other. is;
  of_nodes = c.dismantle_each-given.ensures.others left.items c.args.entries.now v h.lists h.indexes h.owned;
}

pub returns-then-given-n-clause-live : goal.returns-then-given-n-clause-live
returns-then-given-n-clause-live g c =
    omega (arith, c.dismantle_each-given.ensures.live, c.if-given-n.true)

pub drop_entries-more-requires : goal.drop_entries-more-requires
drop_entries-more-requires g c = let r = c.requires in (r.0, r.1.slots, r.2.chain, r.2.found)

pub returns-clause-count : goal.returns-clause-count
returns-clause-count g c v left h =
    omega (arith, c.dismantle_each-given.ensures.count left.items h.lists h.indexes, c.if-given-n.false, c.drop_entries-more.ensures.count v left.slots h.chain h.found)

pub returns-clause-content : goal.returns-clause-content
returns-clause-content g c v left h =
    let step = c.dismantle_each-given in
    let more = c.drop_entries-more in
    let s = step.ensures.stand left.items h.lists h.indexes in
    let d = more.ensures.chain v left.slots h.chain h.found in
    let all : step.result ≡ sum (map length left.items) = omega (arith, step.ensures.count left.items h.lists h.indexes, c.if-given-n.false) in
    entries_given c.args.entries.now more.new.entries c.args.nodes.now step.new.nodes v step.result c.args.self.now (record c.args.self.now { indexes = step.new.indexes; entries = more.new.chain }) left s.0 h s.1 step.ensures.ways s.2
    d.0 more.result all d.1 d.2 d.3

pub returns-clause-others : goal.returns-clause-others
returns-clause-others g c v left h = record {
  of_entries = c.drop_entries-more.ensures.others v left.slots h.chain h.found;
  of_nodes = c.dismantle_each-given.ensures.others left.items c.args.entries.now v h.lists h.indexes h.owned;
}

pub returns-clause-live : goal.returns-clause-live
returns-clause-live g c = omega (arith, c.dismantle_each-given.ensures.live, c.drop_entries-more.ensures.live)

pub returns-then-given-n-clause-fewer_nodes : goal.returns-then-given-n-clause-fewer_nodes
returns-then-given-n-clause-fewer_nodes g c = omega (arith, c.dismantle_each-given.ensures.live)

pub returns-clause-fewer_entries : goal.returns-clause-fewer_entries
returns-clause-fewer_entries g c = omega (arith, c.drop_entries-more.ensures.live)

pub returns-clause-fewer_nodes : goal.returns-clause-fewer_nodes
returns-clause-fewer_nodes g c = omega (arith, c.dismantle_each-given.ensures.live)

pub overflow_add-result : goal.overflow_add-result
overflow_add-result g c =
    let r = c.requires in
    omega (arith, c.ranges.n.fits, c.dismantle_each-given.ensures.count r.1.items r.2.lists r.2.indexes, c.drop_entries-more.ensures.count r.0 r.1.slots r.2.chain r.2.found)
