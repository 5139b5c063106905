use Rattle.std.proofs.Common.{◌≡◌, ℕ, List, length, refl, sym, subst}
use Rattle.hx_versions.specs.declared.stored_version.Owner.TheVariants.{Reference}
use Rattle.hx_versions.specs.Rows.{AreNumbered, ShownVersion, version_numbered}
use Rattle.hx_versions.proofs.StoreLemmas.{row_seen_at, row_there, versions_of}
use Rattle.hx_versions.proofs.store.Store.filling.Goals as goal

pub filling_of-requires : goal.filling_of-requires
filling_of-requires g c =
    let s = c.self.inside in
    let row = c.index-row.result.now in
    let has = versions_of s.pools s.rows.items s.retired s.waiting s.filled c.args.r row c.self.invariant (row_there s.pools s.rows.items c.args.r row (rw (← c.self.view_is) at c.requires.row) c.index-row.ensures) in
    (Reference c.args.r, has.versions, has.stands)

pub returns-clause-count : goal.returns-clause-count
returns-clause-count g c =
    let s = c.self.inside in
    let row = c.index-row.result.now in
    let has = versions_of s.pools s.rows.items s.retired s.waiting s.filled c.args.r row c.self.invariant (row_there s.pools s.rows.items c.args.r row (rw (← c.self.view_is) at c.requires.row) c.index-row.ensures) in
    rw (← c.self.view_is)
    (subst (λ (xs : List ShownVersion). (first last : ℕ) → AreNumbered first last xs → c.filling_of.result.0 ≡ length (version_numbered c.args.number xs).entries) (sym (row_seen_at s.pools s.rows.items c.args.r s.waiting row has))
    (c.filling_of.ensures.count (Reference c.args.r) has.versions has.stands))

pub returns-clause-serial : goal.returns-clause-serial
returns-clause-serial g c =
    let s = c.self.inside in
    let row = c.index-row.result.now in
    let has = versions_of s.pools s.rows.items s.retired s.waiting s.filled c.args.r row c.self.invariant (row_there s.pools s.rows.items c.args.r row (rw (← c.self.view_is) at c.requires.row) c.index-row.ensures) in
    rw (← c.self.view_is)
    (subst (λ (xs : List ShownVersion). (first last : ℕ) → AreNumbered first last xs → c.filling_of.result.1 ≡ (version_numbered c.args.number xs).serial) (sym (row_seen_at s.pools s.rows.items c.args.r s.waiting row has))
    (c.filling_of.ensures.serial (Reference c.args.r) has.versions has.stands))
