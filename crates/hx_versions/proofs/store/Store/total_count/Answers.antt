use Rattle.std.proofs.Common.{sym, ap, ◌∙◌}
use Rattle.hx_versions.specs.declared.stored_version.Owner.TheVariants.{Reference}
use Rattle.hx_versions.specs.Rows.{total_count}
use Rattle.hx_versions.proofs.CountWalkLemmas.{total_seen}
use Rattle.hx_versions.proofs.StoreLemmas.{row_seen_at, row_there, versions_of}
use Rattle.hx_versions.proofs.store.Store.total_count.Goals as goal

pub count_entries-requires : goal.count_entries-requires
count_entries-requires g c =
    let s = c.self.inside in
    let row = c.index-row.result.now in
    let has = versions_of s.pools s.rows.items s.retired s.waiting s.filled c.args.r row c.self.invariant (row_there s.pools s.rows.items c.args.r row (rw (← c.self.view_is) at c.requires.row) c.index-row.ensures) in
    (Reference c.args.r, has.versions, has.stands)

pub returns : goal.returns
returns g c =
    let s = c.self.inside in
    let row = c.index-row.result.now in
    let has = versions_of s.pools s.rows.items s.retired s.waiting s.filled c.args.r row c.self.invariant (row_there s.pools s.rows.items c.args.r row (rw (← c.self.view_is) at c.requires.row) c.index-row.ensures) in
    rw (← c.self.view_is)
    (c.count_entries.ensures (Reference c.args.r) has.versions has.stands
    ∙ sym (ap total_count (row_seen_at s.pools s.rows.items c.args.r s.waiting row has) ∙ total_seen has.versions))
