use Rattle.std.proofs.Common.{◌≡◌, ℕ, List, length, refl, sym, subst}
use Rattle.std.specs.List.{list_any}
use Rattle.hx_versions.specs.Versions.{is_chosen}
use Rattle.hx_versions.specs.declared.stored_version.Owner.TheVariants.{Reference}
use Rattle.hx_versions.specs.Rows.{AreNumbered, ShownVersion, version_numbered}
use Rattle.hx_versions.proofs.StoreLemmas.{row_seen_at, row_there, versions_of}
use Rattle.hx_versions.proofs.store.Store.has_chosen.Goals as goal

pub has_chosen-requires : goal.has_chosen-requires
has_chosen-requires g c =
    let s = c.self.inside in
    let row = c.index-row.result.now in
    let has = versions_of s.pools s.rows.items s.retired s.waiting s.filled c.args.r row c.self.invariant (row_there s.pools s.rows.items c.args.r row (rw (← c.self.view_is) at c.requires.row) c.index-row.ensures) in
    (Reference c.args.r, has.versions, has.stands)

pub returns : goal.returns
returns g c =
    let s = c.self.inside in
    let row = c.index-row.result.now in
    let has = versions_of s.pools s.rows.items s.retired s.waiting s.filled c.args.r row c.self.invariant (row_there s.pools s.rows.items c.args.r row (rw (← c.self.view_is) at c.requires.row) c.index-row.ensures) in
    rw (← c.self.view_is)
    (subst (λ (xs : List ShownVersion). (first last : ℕ) → AreNumbered first last xs → c.has_chosen.result ≡ list_any (is_chosen c.args.choice.now) (version_numbered c.args.number xs).entries) (sym (row_seen_at s.pools s.rows.items c.args.r s.waiting row has))
    (c.has_chosen.ensures (Reference c.args.r) has.versions has.stands))
