use Rattle.std.proofs.Common.{◌<◌, length, get_or, refl, sym, ap, subst, ◌∙◌, arith}
use Rattle.std.specs.Prelude.{slice_get}
use Rattle.std.proofs.lemmas.List.{length-map}
use Rattle.std.proofs.lemmas.Option.{slice_get_within}
use Rattle.hx_versions.specs.Contents.{AreItemsOfVersion, IsNodeAt, ways_of}
use Rattle.hx_versions.proofs.IndexListLemmas.{get_within, way_of}
use Rattle.hx_versions.proofs.PuttingLemmas.{ways_length}
use Rattle.hx_versions.proofs.DroppingLemmas.{drop_all, drop_more, drop_none, drop_owned, node_left, partly_without}
use Rattle.hx_versions.proofs.indexing.drop_each.Goals as goal

pub loop-at-init : goal.loop-at-init
loop-at-init g c = record {
  ways = refl;
  spare = omega arith;
  live = omega arith;
  stand = λ items h are. drop_none c.args.numbers.now items c.args.nodes.now c.args.indexes.now.items h;
  others = λ items entries version h are owned id node stored is at other. is;
}

pub loop-at-preserved : goal.loop-at-preserved
loop-at-preserved g c =
    let i = c.loop-at.invariant in
    let first = c.args.indexes.now.items in
    let numbers = c.args.numbers.now in
    let at = c.loop-at.at in
    let drop = c.drop_at in
    let within : at < length (ways_of first) = omega (arith, c.loop-at-test.true, c.requires.numbers, length-map first way_of) in
    let way = get_within (ways_of first) at within in
    let here = ap (λ ws. slice_get ws at) i.ways ∙ way.1 in
    record {
      ways = drop.ensures.ways ∙ i.ways;
      spare = omega (arith, drop.ensures.spare, i.spare);
      live = omega (arith, drop.ensures.live, i.live);
      stand = λ items h are.
          let there = subst (λ ws. IsNodeAt ws at (get_or numbers at 0) (partly_without numbers at items)) (sym i.ways) (node_left (ways_of first) numbers at items are) in
          drop_more numbers at (get_or numbers at 0) items way.0.0 way.0.1 refl drop.new.nodes drop.new.indexes.items (ap (λ ws. slice_get ws at) drop.ensures.ways ∙ here)
          (drop.ensures.stand (partly_without numbers at items) way.0 (i.stand items h are) there here);
      others = λ items entries version h are owned id node stored is at_entry other.
          let now = partly_without numbers at items in
          let there = subst (λ ws. IsNodeAt ws at (get_or numbers at 0) now) (sym i.ways) (node_left (ways_of first) numbers at items are) in
          drop.ensures.others now entries version (i.stand items h are) there
          (subst (λ ws. AreItemsOfVersion entries version ws now) (sym i.ways) (drop_owned entries version numbers at items (ways_of first) owned))
          id node stored (i.others items entries version h are owned id node stored is at_entry other) at_entry other;
    }

pub returns-clause-stand : goal.returns-clause-stand
returns-clause-stand g c items h are =
    let indexes = c.loop-at.indexes.items in
    drop_all c.args.numbers.now c.loop-at.at items c.loop-at.nodes indexes
    (λ at way is. omega (arith, slice_get_within (ways_of indexes) at way is, length-map indexes way_of, ways_length indexes c.args.indexes.now.items c.loop-at.invariant.ways, c.requires.numbers, c.loop-at-test.false))
    (c.loop-at.invariant.stand items h are)
