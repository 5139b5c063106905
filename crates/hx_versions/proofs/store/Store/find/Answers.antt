use Rattle.std.proofs.Common.{◌≡◌, ◌+◌, ◌≤◌, List, sym, subst, ◌∙◌}
use Rattle.std.specs.Prelude.{IfOk, option_map}
use Rattle.hx_sample.specs.Find.{found_entry}
use Rattle.hx_sample.specs.Seen.{value_of}
use Rattle.hx_sample.specs.Tables.{entry_of}
use Rattle.hx_versions.specs.declared.stored_version.Owner.TheVariants.{Reference}
use Rattle.hx_versions.specs.Costs.{search_steps}
use Rattle.hx_versions.specs.Rows.{AreSearchedBy, ShownVersion, first_entries}
use Rattle.hx_versions.proofs.RowLemmas.{row_view}
use Rattle.hx_versions.proofs.StoreLemmas.{row_seen_at, row_there, versions_of}
use Rattle.hx_versions.proofs.store.Store.find.Goals as goal

pub find_in-requires-clause-row : goal.find_in-requires-clause-row
find_in-requires-clause-row g c =
    let s = c.self.inside in
    let row = c.index-row.result.now in
    let has = versions_of s.pools s.rows.items s.retired s.waiting s.filled c.args.r row c.self.invariant (row_there s.pools s.rows.items c.args.r row (rw (← c.self.view_is) at c.requires.row) c.index-row.ensures) in
    (Reference c.args.r, has.versions, has.stands)

pub find_in-requires-clause-way : goal.find_in-requires-clause-way
find_in-requires-clause-way g c owner vs h =
    let s = c.self.inside in
    let row = c.index-row.result.now in
    let has = versions_of s.pools s.rows.items s.retired s.waiting s.filled c.args.r row c.self.invariant (row_there s.pools s.rows.items c.args.r row (rw (← c.self.view_is) at c.requires.row) c.index-row.ensures) in
    let w = rw (← c.self.view_is) at c.requires.way in
    let same =
    row_seen_at s.pools s.rows.items c.args.r s.waiting row has
    ∙ sym (row_view s.pools (Reference c.args.r) row has.versions has.stands) ∙ row_view s.pools owner row vs h in
    (w.0, subst (AreSearchedBy w.0) same w.1, w.2)

pub returns-clause-found : goal.returns-clause-found
returns-clause-found g c =
    let s = c.self.inside in
    let row = c.index-row.result.now in
    let has = versions_of s.pools s.rows.items s.retired s.waiting s.filled c.args.r row c.self.invariant (row_there s.pools s.rows.items c.args.r row (rw (← c.self.view_is) at c.requires.row) c.index-row.ensures) in
    rw (← c.self.view_is)
    (subst (λ (xs : List ShownVersion). IfOk c.find_in.result (λ found. option_map entry_of found ≡ found_entry c.args.by c.args.ci (first_entries c.args.number xs) (value_of c.args.sample.now))) (sym (row_seen_at s.pools s.rows.items c.args.r s.waiting row has))
    (c.find_in.ensures.found (Reference c.args.r) has.versions has.stands))

pub returns-clause-cost : goal.returns-clause-cost
returns-clause-cost g c =
    let s = c.self.inside in
    let row = c.index-row.result.now in
    let has = versions_of s.pools s.rows.items s.retired s.waiting s.filled c.args.r row c.self.invariant (row_there s.pools s.rows.items c.args.r row (rw (← c.self.view_is) at c.requires.row) c.index-row.ensures) in
    rw (← c.self.view_is)
    (subst (λ (xs : List ShownVersion). c.find_in.new.steps ≤ c.args.steps.now + search_steps c.args.by c.args.ci (first_entries c.args.number xs) (value_of c.args.sample.now)) (sym (row_seen_at s.pools s.rows.items c.args.r s.waiting row has))
    (c.find_in.ensures.cost (Reference c.args.r) has.versions has.stands))
