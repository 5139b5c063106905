use Rattle.std.proofs.Common.{◌≡◌, length, refl, sym, subst}
use Rattle.std.proofs.lemmas.Option.{slice_get_read}
use Rattle.hx_versions.specs.declared.stored_version.Owner.TheVariants.{Reference}
use Rattle.hx_versions.specs.Rows.{use_ways}
use Rattle.hx_versions.specs.Store.{AreAllBelow, IsRow}
use Rattle.hx_versions.proofs.GrowingLemmas.{here_is_searched, row_for, row_for_here, row_read}
use Rattle.hx_versions.proofs.growing.version_for.Goals as goal

pub set_indexes-requires : goal.set_indexes-requires
set_indexes-requires g c =
    let p = c.args.pools.now in
    let rows = c.args.rows.now.items in
    let row = c.index_mut-row.result.now in
    let owner = Reference c.args.r in
    let there = slice_get_read rows (length rows) c.args.r row refl c.requires.r c.index_mut-row.ensures.value in
    let stand = c.requires.stand row there in
    let at = c.in-At.ensures owner stand.0 stand.1 in
    (owner, row, at.0, at.1, at.2, at.5, subst (IsRow p owner row) at.3 stand.1)

pub put_new-requires-clause-stands : goal.put_new-requires-clause-stands
put_new-requires-clause-stands g c =
    let rows = c.args.rows.now.items in
    let row = c.index_mut-row.result.now in
    let there = slice_get_read rows (length rows) c.args.r row refl c.requires.r c.index_mut-row.ensures.value in
    let stand = c.requires.stand row there in
    (stand.0, stand.1, c.place_of-place.ensures (Reference c.args.r) stand.0 stand.1)

pub put_new-requires-in-Last-clause-stands : goal.put_new-requires-in-Last-clause-stands
put_new-requires-in-Last-clause-stands g c =
    let rows = c.args.rows.now.items in
    let row = c.index_mut-row.result.now in
    let there = slice_get_read rows (length rows) c.args.r row refl c.requires.r c.index_mut-row.ensures.value in
    let stand = c.requires.stand row there in
    (stand.0, stand.1, c.place_of-place.ensures (Reference c.args.r) stand.0 stand.1)

pub returns-in_ok-set_indexes-in-At-clause-ok : goal.returns-in_ok-set_indexes-in-At-clause-ok
returns-in_ok-set_indexes-in-At-clause-ok g c row vs is h searched =
    let p = c.args.pools.now in
    let owner = Reference c.args.r in
    let rows = c.args.rows.now.items in
    let read = c.index_mut-row.result.now in
    let ways = use_ways c.args.uses.now in
    let same : row ≡ read = row_read rows c.args.r row read is c.requires.r c.index_mut-row.ensures.value in
    let here = subst (λ x. IsRow p owner x vs) same h in
    let at = c.in-At.ensures owner vs here in
    let split = subst (IsRow p owner read) at.3 here in
    row_for_here c.in-At.slot c.args.number ways p c.set_indexes.new.pools rows c.args.r read vs at
    (c.in_ok-set_indexes-in-At.ensures.ok owner read at.0 at.1 at.2 at.5 (subst (λ k. AreAllBelow k at.0) (sym at.6) at.4) split (here_is_searched ways vs at.0 at.1 at.2 at.3 searched))

pub returns-in-Before-clause-ok : goal.returns-in-Before-clause-ok
returns-in-Before-clause-ok g c =
    row_for c.put_new.result c.args.number (use_ways c.args.uses.now) c.args.pools.now c.put_new.new.pools c.args.rows.now.items c.args.r c.index_mut-row.result.now c.put_new.new.row c.place_of-place.result
    c.requires.r c.index_mut-row.ensures.value c.place_of-place.ensures c.put_new.ensures.ok

pub returns-in-Last-clause-ok : goal.returns-in-Last-clause-ok
returns-in-Last-clause-ok g c =
    row_for c.put_new-in-Last.result c.args.number (use_ways c.args.uses.now) c.args.pools.now c.put_new-in-Last.new.pools c.args.rows.now.items c.args.r c.index_mut-row.result.now c.put_new-in-Last.new.row c.place_of-place.result
    c.requires.r c.index_mut-row.ensures.value c.place_of-place.ensures c.put_new-in-Last.ensures.ok
