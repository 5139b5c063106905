use Rattle.hx_versions.specs.declared.stored_version.Owner.TheVariants.{Reference}
use Rattle.hx_versions.proofs.StoreLemmas.{row_there, versions_of}
use Rattle.hx_versions.proofs.StoreLowerLemmas.{lowered_others, lowered_row, lowered_store, row_above}
use Rattle.hx_versions.proofs.store.Store.lower_numbers.Goals as goal

pub lower_in-requires : goal.lower_in-requires
lower_in-requires g c =
    let s = c.self.inside in
    let p = s.pools in
    let r = c.args.r in
    let row = c.index-row.result.now in
    let there = row_there p s.rows.items r row (rw (← c.self.view_is) at c.requires.row) c.index-row.ensures in
    let has = versions_of p s.rows.items s.retired s.waiting s.filled r row c.self.invariant there in
    (Reference r, has.versions, has.stands, row_above p s.rows.items r row has s.waiting c.args.by (rw (← c.self.view_is) at c.requires.above))

pub invariant_of-self : goal.invariant_of-self
invariant_of-self g c =
    let s = c.self.inside in
    let p = s.pools in
    let r = c.args.r in
    let row = c.index-row.result.now in
    let there = row_there p s.rows.items r row (rw (← c.self.view_is) at c.requires.row) c.index-row.ensures in
    let has = versions_of p s.rows.items s.retired s.waiting s.filled r row c.self.invariant there in
    let step = c.lower_in in
    lowered_store p s.rows.items r row has s.waiting c.args.by step.new.pools s.retired s.filled c.self.invariant there (step.ensures.lowered (Reference r) has.versions has.stands) (step.ensures.others (Reference r) has.versions has.stands) step.ensures.counts

pub returns-clause-lowered : goal.returns-clause-lowered
returns-clause-lowered g c =
    let s = c.self.inside in
    let p = s.pools in
    let r = c.args.r in
    let row = c.index-row.result.now in
    let there = row_there p s.rows.items r row (rw (← c.self.view_is) at c.requires.row) c.index-row.ensures in
    let has = versions_of p s.rows.items s.retired s.waiting s.filled r row c.self.invariant there in
    let step = c.lower_in in
    rw (← c.self.view_is) (lowered_row p s.rows.items r row has s.waiting c.args.by step.new.pools s.retired s.filled c.self.invariant there (step.ensures.lowered (Reference r) has.versions has.stands) (step.ensures.others (Reference r) has.versions has.stands) step.ensures.counts)

pub returns-clause-others : goal.returns-clause-others
returns-clause-others g c =
    let s = c.self.inside in
    let p = s.pools in
    let r = c.args.r in
    let row = c.index-row.result.now in
    let there = row_there p s.rows.items r row (rw (← c.self.view_is) at c.requires.row) c.index-row.ensures in
    let has = versions_of p s.rows.items s.retired s.waiting s.filled r row c.self.invariant there in
    let step = c.lower_in in
    rw (← c.self.view_is) (lowered_others p s.rows.items r row has s.waiting c.args.by step.new.pools s.retired s.filled c.self.invariant there (step.ensures.lowered (Reference r) has.versions has.stands) (step.ensures.others (Reference r) has.versions has.stands) step.ensures.counts)
