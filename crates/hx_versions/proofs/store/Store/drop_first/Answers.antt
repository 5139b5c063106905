use Rattle.std.proofs.Common.{◌+◌, ap, arith}
use Rattle.hx_versions.specs.Rows.{kept_slots}
use Rattle.hx_versions.proofs.StoreClauseLemmas.{same_rows}
use Rattle.hx_versions.proofs.StoreDropLemmas.{begins_from, dropped_cost, dropped_few, dropped_first, dropped_others, dropped_some, dropped_store, dropped_used, row_within, rows_within, same_seen, same_store, seen_at, slots_few, waiting_few}
use Rattle.hx_versions.proofs.StoreLemmas.{versions_of}
use Rattle.hx_versions.proofs.store.Store.drop_first.Goals as goal

pub drop_first-requires-clause-r : goal.drop_first-requires-clause-r
drop_first-requires-clause-r g c =
    rows_within c.self.inside.pools c.self.inside.rows.items c.args.r (rw (← c.self.view_is) at c.requires.row)

pub drop_first-requires-clause-stand : goal.drop_first-requires-clause-stand
drop_first-requires-clause-stand g c row is =
    let s = c.self.inside in
    let p = s.pools in
    let rows = s.rows.items in
    let r = c.args.r in
    let h = c.self.invariant in
    let has = versions_of p rows s.retired s.waiting s.filled r row h is in (has.versions, has.stands)

pub drop_first-requires-clause-few : goal.drop_first-requires-clause-few
drop_first-requires-clause-few g c row vs is stands =
    let s = c.self.inside in
    let p = s.pools in
    let rows = s.rows.items in
    let r = c.args.r in
    let h = c.self.invariant in
    slots_few p rows s.retired s.waiting s.filled h r vs (seen_at p rows s.retired s.waiting s.filled h r row vs is stands)

pub drop_first-requires-clause-wait : goal.drop_first-requires-clause-wait
drop_first-requires-clause-wait g c =
    (c.self.invariant.gone, c.self.invariant.wait)

pub overflow_add-self : goal.overflow_add-self
overflow_add-self g c =
    let s = c.self.inside in
    let p = s.pools in
    let rows = s.rows.items in
    let r = c.args.r in
    let h = c.self.invariant in
    let at = row_within p rows r (rw (← c.self.view_is) at c.requires.row) in
    let has = versions_of p rows s.retired s.waiting s.filled r at.0 h at.1 in
    let step = c.drop_first in
    let q = step.new.pools in
    let now = step.new.rows.items in
    let slots = c.in-Some.slots in
    let d = rw c.in-Some.is at (step.ensures.moves at.0 has.versions h.gone at.1 has.stands h.wait) in
    omega (arith, waiting_few p rows s.retired s.waiting s.filled h, dropped_few p q rows now s.retired step.new.retired s.waiting s.filled slots r c.args.number at.0 h at.1 has d)

pub fewer-self-inside-requires : goal.fewer-self-inside-requires
fewer-self-inside-requires g c more =
    let s = c.self.inside in
    let p = s.pools in
    let rows = s.rows.items in
    let r = c.args.r in
    let h = c.self.invariant in
    let at = row_within p rows r (rw (← c.self.view_is) at c.requires.row) in
    let has = versions_of p rows s.retired s.waiting s.filled r at.0 h at.1 in
    let step = c.drop_first in
    let q = step.new.pools in
    let now = step.new.rows.items in
    let slots = c.in-Some.slots in
    let d = rw c.in-Some.is at (step.ensures.moves at.0 has.versions h.gone at.1 has.stands h.wait) in
    dropped_some p q rows now s.retired step.new.retired s.waiting s.filled slots r c.args.number at.0 h at.1 has d more

pub invariant_of-self : goal.invariant_of-self
invariant_of-self g c =
    let s = c.self.inside in
    let p = s.pools in
    let rows = s.rows.items in
    let r = c.args.r in
    let h = c.self.invariant in
    let at = row_within p rows r (rw (← c.self.view_is) at c.requires.row) in
    let has = versions_of p rows s.retired s.waiting s.filled r at.0 h at.1 in
    let step = c.drop_first in
    let q = step.new.pools in
    let now = step.new.rows.items in
    let slots = c.in-Some.slots in
    let d = rw c.in-Some.is at (step.ensures.moves at.0 has.versions h.gone at.1 has.stands h.wait) in
    dropped_store p q rows now s.retired step.new.retired s.waiting s.filled slots r c.args.number at.0 h at.1 has d c.fewer-self-inside.result c.fewer-self-inside.ensures.less c.fewer-self-inside.ensures.same

pub returns-in-Some-clause-dropped : goal.returns-in-Some-clause-dropped
returns-in-Some-clause-dropped g c is =
    let s = c.self.inside in
    let p = s.pools in
    let rows = s.rows.items in
    let r = c.args.r in
    let h = c.self.invariant in
    let at = row_within p rows r (rw (← c.self.view_is) at c.requires.row) in
    let has = versions_of p rows s.retired s.waiting s.filled r at.0 h at.1 in
    let step = c.drop_first in
    let q = step.new.pools in
    let now = step.new.rows.items in
    let slots = c.in-Some.slots in
    let d = rw c.in-Some.is at (step.ensures.moves at.0 has.versions h.gone at.1 has.stands h.wait) in
    rw (← c.self.view_is) (dropped_first p q rows now s.retired step.new.retired s.waiting s.filled slots r c.args.number at.0 h at.1 has d c.fewer-self-inside.result c.fewer-self-inside.ensures.less c.fewer-self-inside.ensures.same)

pub returns-in-Some-clause-others : goal.returns-in-Some-clause-others
returns-in-Some-clause-others g c =
    let s = c.self.inside in
    let p = s.pools in
    let rows = s.rows.items in
    let r = c.args.r in
    let h = c.self.invariant in
    let at = row_within p rows r (rw (← c.self.view_is) at c.requires.row) in
    let has = versions_of p rows s.retired s.waiting s.filled r at.0 h at.1 in
    let step = c.drop_first in
    let q = step.new.pools in
    let now = step.new.rows.items in
    let slots = c.in-Some.slots in
    let d = rw c.in-Some.is at (step.ensures.moves at.0 has.versions h.gone at.1 has.stands h.wait) in
    rw (← c.self.view_is) (dropped_others p q rows now s.retired step.new.retired s.waiting s.filled slots r c.args.number at.0 h at.1 has d c.fewer-self-inside.result c.fewer-self-inside.ensures.less c.fewer-self-inside.ensures.same)

pub returns-in-Some-clause-used : goal.returns-in-Some-clause-used
returns-in-Some-clause-used g c =
    let s = c.self.inside in
    let p = s.pools in
    let rows = s.rows.items in
    let r = c.args.r in
    let h = c.self.invariant in
    let at = row_within p rows r (rw (← c.self.view_is) at c.requires.row) in
    let has = versions_of p rows s.retired s.waiting s.filled r at.0 h at.1 in
    let step = c.drop_first in
    let q = step.new.pools in
    let now = step.new.rows.items in
    let slots = c.in-Some.slots in
    let d = rw c.in-Some.is at (step.ensures.moves at.0 has.versions h.gone at.1 has.stands h.wait) in
    rw (← c.self.view_is) (dropped_used p q rows now s.retired step.new.retired s.waiting s.filled slots r c.args.number at.0 h at.1 has d c.fewer-self-inside.result c.fewer-self-inside.ensures.less c.fewer-self-inside.ensures.same)

pub returns-in-Some-clause-cost : goal.returns-in-Some-clause-cost
returns-in-Some-clause-cost g c =
    let s = c.self.inside in
    let p = s.pools in
    let rows = s.rows.items in
    let r = c.args.r in
    let h = c.self.invariant in
    let at = row_within p rows r (rw (← c.self.view_is) at c.requires.row) in
    let has = versions_of p rows s.retired s.waiting s.filled r at.0 h at.1 in
    let step = c.drop_first in
    let q = step.new.pools in
    let now = step.new.rows.items in
    let slots = c.in-Some.slots in
    let d = rw c.in-Some.is at (step.ensures.moves at.0 has.versions h.gone at.1 has.stands h.wait) in
    rw (← c.self.view_is) (dropped_cost p q rows now s.retired step.new.retired s.waiting s.filled slots r c.args.number at.0 h at.1 has d c.fewer-self-inside.result c.fewer-self-inside.ensures.less c.fewer-self-inside.ensures.same c.args.steps.now step.new.steps step.ensures.cost)

pub invariant_of-self-in-None : goal.invariant_of-self-in-None
invariant_of-self-in-None g c =
    let s = c.self.inside in
    let p = s.pools in
    let rows = s.rows.items in
    let r = c.args.r in
    let h = c.self.invariant in
    let at = row_within p rows r (rw (← c.self.view_is) at c.requires.row) in
    let has = versions_of p rows s.retired s.waiting s.filled r at.0 h at.1 in
    let step = c.drop_first in
    let q = step.new.pools in
    let now = step.new.rows.items in
    let last = step.ensures.last c.in-None.is in
    same_store p q rows now s.retired step.new.retired s.waiting s.filled last.0 last.1 last.2 h

pub returns-in-None-clause-last : goal.returns-in-None-clause-last
returns-in-None-clause-last g c is =
    let s = c.self.inside in
    let p = s.pools in
    let rows = s.rows.items in
    let r = c.args.r in
    let h = c.self.invariant in
    let at = row_within p rows r (rw (← c.self.view_is) at c.requires.row) in
    let has = versions_of p rows s.retired s.waiting s.filled r at.0 h at.1 in
    let step = c.drop_first in
    let q = step.new.pools in
    let now = step.new.rows.items in
    let last = step.ensures.last c.in-None.is in
    let same = same_seen p q rows now last.0 last.1 in
    rw (← c.self.view_is)
    (ap (λ xs. record { rows = xs; waiting = s.waiting }) same, begins_from p q rows now step.new.retired r c.args.number s.waiting at.0 has h.gone (rw c.in-None.is at (step.ensures.moves at.0 has.versions h.gone at.1 has.stands h.wait)))

pub returns-in-None-clause-others : goal.returns-in-None-clause-others
returns-in-None-clause-others g c =
    let s = c.self.inside in
    let p = s.pools in
    let rows = s.rows.items in
    let r = c.args.r in
    let h = c.self.invariant in
    let at = row_within p rows r (rw (← c.self.view_is) at c.requires.row) in
    let has = versions_of p rows s.retired s.waiting s.filled r at.0 h at.1 in
    let step = c.drop_first in
    let q = step.new.pools in
    let now = step.new.rows.items in
    let last = step.ensures.last c.in-None.is in
    let same = same_seen p q rows now last.0 last.1 in
    rw (← c.self.view_is, same) (same_rows p rows r at.0 has c.args.number s.waiting)

pub returns-in-None-clause-used : goal.returns-in-None-clause-used
returns-in-None-clause-used g c =
    let s = c.self.inside in
    let p = s.pools in
    let rows = s.rows.items in
    let r = c.args.r in
    let h = c.self.invariant in
    let at = row_within p rows r (rw (← c.self.view_is) at c.requires.row) in
    let has = versions_of p rows s.retired s.waiting s.filled r at.0 h at.1 in
    let step = c.drop_first in
    let q = step.new.pools in
    let now = step.new.rows.items in
    let last = step.ensures.last c.in-None.is in
    let same = same_seen p q rows now last.0 last.1 in
    rw (← c.self.view_is) (ap (λ xs. kept_slots xs + s.waiting) same)

pub returns-in-None-clause-cost : goal.returns-in-None-clause-cost
returns-in-None-clause-cost g c =
    let s = c.self.inside in
    let p = s.pools in
    let rows = s.rows.items in
    let r = c.args.r in
    let h = c.self.invariant in
    let at = row_within p rows r (rw (← c.self.view_is) at c.requires.row) in
    let has = versions_of p rows s.retired s.waiting s.filled r at.0 h at.1 in
    let step = c.drop_first in
    let q = step.new.pools in
    let now = step.new.rows.items in
    let last = step.ensures.last c.in-None.is in
    let same = same_seen p q rows now last.0 last.1 in
    rw (← c.self.view_is, same) (omega (arith, step.ensures.last_cost c.in-None.is))
