use Rattle.std.proofs.Common.{◌≡◌, ◌<◌, append-nil, [], ◌∷◌, length, refl, sym, ap, subst, ◌∙◌, arith, set, length-set}
use Rattle.std.proofs.lemmas.List.{length-map}
use Rattle.std.proofs.lemmas.Option.{slice_get_within}
use Rattle.std.specs.Prelude.{slice_get}
use Rattle.hx_versions.specs.Contents.{AreItemsOfVersion, StandIn, ways_of}
use Rattle.hx_versions.proofs.PuttingLemmas.{next_key, partly_with, prepared_length, put_all, put_none, put_owned, put_step, ways_length}
use Rattle.hx_versions.proofs.IndexListLemmas.{way_of}
use Rattle.hx_versions.proofs.indexing.put_each.Goals as goal

pub loop-key-init : goal.loop-key-init
loop-key-init g c =
    let indexes = c.args.indexes.now.items in
    let many : length c.args.prepared.items ≡ length indexes = prepared_length c.requires.keys.0 indexes c.args.prepared.items c.requires.keys.1 in
    record {
      left = ([], sym (append-nil c.args.prepared.items));
      numbers = refl;
      ways = refl;
      spare = omega (arith, many);
      live = omega (arith, many);
      stand = λ items key h keys. put_none c.args.slot key c.args.numbers items c.args.nodes.now indexes (length c.args.prepared.items)
          (λ at way is. omega (arith, many, slice_get_within (ways_of indexes) at way is, length-map indexes way_of)) h;
      others = λ items entries version h owned own id node stored is at other. is;
    }

pub put_at-node-requires-clause-at : goal.put_at-node-requires-clause-at
put_at-node-requires-clause-at g c =
    let i = c.loop-key.invariant in
    (next_key c.requires.keys.0 c.args.indexes.now.items c.loop-key.indexes.items c.args.prepared.items c.loop-key.left.items c.pop.new.self.items i.left.0 c.in-Some.key c.len-at.result c.requires.keys.1 i.ways i.left.1 c.in-Some.ensures.items (omega (arith, c.len-at.ensures, c.pop.new.self.ok.0))).within

pub put_at-node-requires-clause-spare : goal.put_at-node-requires-clause-spare
put_at-node-requires-clause-spare g c =
    let i = c.loop-key.invariant in
    let next = next_key c.requires.keys.0 c.args.indexes.now.items c.loop-key.indexes.items c.args.prepared.items c.loop-key.left.items c.pop.new.self.items i.left.0 c.in-Some.key c.len-at.result c.requires.keys.1 i.ways i.left.1 c.in-Some.ensures.items (omega (arith, c.len-at.ensures, c.pop.new.self.ok.0)) in
    omega (arith, next.more, i.spare, c.requires.spare)

pub put_at-node-requires-clause-way : goal.put_at-node-requires-clause-way
put_at-node-requires-clause-way g c =
    let i = c.loop-key.invariant in
    (next_key c.requires.keys.0 c.args.indexes.now.items c.loop-key.indexes.items c.args.prepared.items c.loop-key.left.items c.pop.new.self.items i.left.0 c.in-Some.key c.len-at.result c.requires.keys.1 i.ways i.left.1 c.in-Some.ensures.items (omega (arith, c.len-at.ensures, c.pop.new.self.ok.0))).way

pub put_at-node-requires-clause-stand : goal.put_at-node-requires-clause-stand
put_at-node-requires-clause-stand g c =
    let key = c.requires.keys.0 in
    let items = c.requires.stand.0 in
    (partly_with c.args.slot key c.loop-key.numbers (length c.loop-key.left.items) items, c.loop-key.invariant.stand items key c.requires.stand.1 c.requires.keys.1)

pub put-requires : goal.put-requires
put-requires g c =
    let i = c.loop-key.invariant in
    let next = next_key c.requires.keys.0 c.args.indexes.now.items c.loop-key.indexes.items c.args.prepared.items c.loop-key.left.items c.pop.new.self.items i.left.0 c.in-Some.key c.len-at.result c.requires.keys.1 i.ways i.left.1 c.in-Some.ensures.items (omega (arith, c.len-at.ensures, c.pop.new.self.ok.0)) in
    omega (arith, next.within, i.numbers, c.requires.numbers, ways_length c.loop-key.indexes.items c.args.indexes.now.items i.ways)

pub loop-key-preserved : goal.loop-key-preserved
loop-key-preserved g c =
    let i = c.loop-key.invariant in
    let first = c.args.indexes.now.items in
    let left = c.loop-key.left.items in
    let rest = c.pop.new.self.items in
    let numbers = c.loop-key.numbers in
    let at = c.len-at.result in
    let put = c.put_at-node in
    let at_is : at ≡ length rest = omega (arith, c.len-at.ensures, c.pop.new.self.ok.0) in
    let next = next_key c.requires.keys.0 first c.loop-key.indexes.items c.args.prepared.items left rest i.left.0 c.in-Some.key at c.requires.keys.1 i.ways i.left.1 c.in-Some.ensures.items at_is in
    let within : at < length numbers = omega (arith, next.within, i.numbers, c.requires.numbers, ways_length c.loop-key.indexes.items first i.ways) in
    rw c.put.ensures (record {
      left = (c.in-Some.key ∷ i.left.0, next.whole);
      numbers = length-set numbers at put.result ∙ i.numbers;
      ways = put.ensures.ways ∙ i.ways;
      spare = omega (arith, put.ensures.spare, i.spare, next.more, at_is);
      live = omega (arith, put.ensures.live, i.live, next.more, at_is);
      stand = λ items key h keys.
          let mine = next_key key first c.loop-key.indexes.items c.args.prepared.items left rest i.left.0 c.in-Some.key at keys i.ways i.left.1 c.in-Some.ensures.items at_is in
          let way = ap (λ ws. slice_get ws at) put.ensures.ways ∙ mine.way in
          let new = put_step c.args.slot at put.result (length left) key c.in-Some.key.text numbers items c.in-Some.key.by c.in-Some.key.ci within mine.more mine.text put.new.nodes put.new.indexes.items way
          (put.ensures.stand (partly_with c.args.slot key numbers (length left) items) (i.stand items key h keys)) in
          subst (λ k. StandIn put.new.nodes put.new.indexes.items (partly_with c.args.slot key (set numbers at put.result) k items)) at_is new;
      others = λ items entries version h owned own id node stored is at_entry other.
          let key = c.requires.keys.0 in
          let now = partly_with c.args.slot key numbers (length left) items in
          put.ensures.others now entries version (i.stand items key h c.requires.keys.1)
          (subst (λ ws. AreItemsOfVersion entries version ws now) (sym i.ways) (put_owned entries version c.args.slot key numbers (length left) items (ways_of first) own owned))
          id node stored (i.others items entries version h owned own id node stored is at_entry other) at_entry other;
    })

pub returns-clause-stand : goal.returns-clause-stand
returns-clause-stand g c items key h keys =
    let none : length c.loop-key.left.items ≡ 0 = omega (arith, c.in_default.ensures.cases.0, c.loop-key.left.ok.0) in
    put_all c.args.slot key c.loop-key.numbers items c.loop-key.nodes c.loop-key.indexes.items
    (subst (λ k. StandIn c.loop-key.nodes c.loop-key.indexes.items (partly_with c.args.slot key c.loop-key.numbers k items)) none (c.loop-key.invariant.stand items key h keys))
