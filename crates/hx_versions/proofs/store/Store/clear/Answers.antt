use Rattle.std.proofs.Common.{◌+◌, [], refl, arith}
use Rattle.hx_versions.specs.declared.stored_version.Owner.TheVariants.{Reference}
use Rattle.hx_versions.specs.Rows.{changed_entries}
use Rattle.hx_versions.proofs.StoreClauseLemmas.{none_changes, row_stands, same_rows}
use Rattle.hx_versions.proofs.StoreClearLemmas.{absent_waiting, cleared_changes, cleared_counted, cleared_few, cleared_others, cleared_searched, cleared_some, cleared_waiting, has_cleared, place_here, seen_here}
use Rattle.hx_versions.proofs.StoreDropLemmas.{rows_within, waiting_few}
use Rattle.hx_versions.proofs.StoreLemmas.{row_there, versions_of}
use Rattle.hx_versions.proofs.VersionReadLemmas.{below_seen}
use Rattle.hx_versions.proofs.store.Store.clear.Goals as goal

pub slot_of-requires : goal.slot_of-requires
slot_of-requires g c =
    let s = c.self.inside in
    let p = s.pools in
    let rows = s.rows.items in
    let r = c.args.r in
    let row = c.index-row.result.now in
    let h = c.self.invariant in
    let there = row_there p rows r row (rw (← c.self.view_is) at c.requires.row) c.index-row.ensures in
    let has = versions_of p rows s.retired s.waiting s.filled r row h there in
    (Reference r, has.versions, has.stands)

pub clear_in-cleared-requires-clause-r : goal.clear_in-cleared-requires-clause-r
clear_in-cleared-requires-clause-r g c =
    rows_within c.self.inside.pools c.self.inside.rows.items c.args.r (rw (← c.self.view_is) at c.requires.row)

pub clear_in-cleared-requires-clause-stand : goal.clear_in-cleared-requires-clause-stand
clear_in-cleared-requires-clause-stand g c =
    let s = c.self.inside in
    let p = s.pools in
    let rows = s.rows.items in
    let r = c.args.r in
    let row = c.index-row.result.now in
    let h = c.self.invariant in
    let there = row_there p rows r row (rw (← c.self.view_is) at c.requires.row) c.index-row.ensures in
    let has = versions_of p rows s.retired s.waiting s.filled r row h there in
    let slot = c.in-Some.slot in
    let at = rw c.in-Some.is at (c.slot_of.ensures (Reference r) has.versions has.stands) in
    place_here p rows s.retired s.waiting s.filled r row h there has c.args.number slot at

pub clear_in-cleared-requires-clause-wait : goal.clear_in-cleared-requires-clause-wait
clear_in-cleared-requires-clause-wait g c =
    (c.self.invariant.gone, c.self.invariant.wait)

pub overflow_add-self : goal.overflow_add-self
overflow_add-self g c =
    let s = c.self.inside in
    let p = s.pools in
    let rows = s.rows.items in
    let r = c.args.r in
    let row = c.index-row.result.now in
    let h = c.self.invariant in
    let there = row_there p rows r row (rw (← c.self.view_is) at c.requires.row) c.index-row.ensures in
    let has = versions_of p rows s.retired s.waiting s.filled r row h there in
    let slot = c.in-Some.slot in
    let at = rw c.in-Some.is at (c.slot_of.ensures (Reference r) has.versions has.stands) in
    let stands = row_stands p rows r row has c.args.number slot at in
    let step = c.clear_in-cleared in
    let q = step.new.pools in
    let now = step.new.rows.items in
    let cleared = step.result in
    let empty = step.ensures.empty row at.0 at.1 at.2 there at.5 stands in
    let clears = step.ensures.clears row at.0 at.1 at.2 h.gone there at.5 stands h.wait in
    omega (arith, waiting_few p rows s.retired s.waiting s.filled h, cleared_few p rows s.retired s.waiting s.filled r row h there has c.args.number slot at q now step.new.retired cleared empty clears step.ensures.none)

pub fewer-self-inside-requires : goal.fewer-self-inside-requires
fewer-self-inside-requires g c more =
    let s = c.self.inside in
    let p = s.pools in
    let rows = s.rows.items in
    let r = c.args.r in
    let row = c.index-row.result.now in
    let h = c.self.invariant in
    let there = row_there p rows r row (rw (← c.self.view_is) at c.requires.row) c.index-row.ensures in
    let has = versions_of p rows s.retired s.waiting s.filled r row h there in
    let slot = c.in-Some.slot in
    let at = rw c.in-Some.is at (c.slot_of.ensures (Reference r) has.versions has.stands) in
    let stands = row_stands p rows r row has c.args.number slot at in
    let step = c.clear_in-cleared in
    let q = step.new.pools in
    let now = step.new.rows.items in
    let cleared = step.result in
    let empty = step.ensures.empty row at.0 at.1 at.2 there at.5 stands in
    let clears = step.ensures.clears row at.0 at.1 at.2 h.gone there at.5 stands h.wait in
    cleared_some p rows s.retired s.waiting s.filled r row h there has c.args.number slot at q now step.new.retired cleared empty clears step.ensures.none more

pub invariant_of-self : goal.invariant_of-self
invariant_of-self g c =
    let s = c.self.inside in
    let p = s.pools in
    let rows = s.rows.items in
    let r = c.args.r in
    let row = c.index-row.result.now in
    let h = c.self.invariant in
    let there = row_there p rows r row (rw (← c.self.view_is) at c.requires.row) c.index-row.ensures in
    let has = versions_of p rows s.retired s.waiting s.filled r row h there in
    let slot = c.in-Some.slot in
    let at = rw c.in-Some.is at (c.slot_of.ensures (Reference r) has.versions has.stands) in
    let stands = row_stands p rows r row has c.args.number slot at in
    let step = c.clear_in-cleared in
    let q = step.new.pools in
    let now = step.new.rows.items in
    let cleared = step.result in
    let empty = step.ensures.empty row at.0 at.1 at.2 there at.5 stands in
    let clears = step.ensures.clears row at.0 at.1 at.2 h.gone there at.5 stands h.wait in
    let k = has_cleared p rows s.retired s.waiting s.filled r row h there has c.args.number slot at q now step.new.retired cleared empty clears step.ensures.none c.fewer-self-inside.result c.fewer-self-inside.ensures.less c.fewer-self-inside.ensures.same in
    let was = seen_here p rows s.retired s.waiting s.filled r row h there has c.args.number slot at in
    k.stands

pub returns-clause-changes : goal.returns-clause-changes
returns-clause-changes g c =
    let s = c.self.inside in
    let p = s.pools in
    let rows = s.rows.items in
    let r = c.args.r in
    let row = c.index-row.result.now in
    let h = c.self.invariant in
    let there = row_there p rows r row (rw (← c.self.view_is) at c.requires.row) c.index-row.ensures in
    let has = versions_of p rows s.retired s.waiting s.filled r row h there in
    let slot = c.in-Some.slot in
    let at = rw c.in-Some.is at (c.slot_of.ensures (Reference r) has.versions has.stands) in
    let stands = row_stands p rows r row has c.args.number slot at in
    let step = c.clear_in-cleared in
    let q = step.new.pools in
    let now = step.new.rows.items in
    let cleared = step.result in
    let empty = step.ensures.empty row at.0 at.1 at.2 there at.5 stands in
    let clears = step.ensures.clears row at.0 at.1 at.2 h.gone there at.5 stands h.wait in
    let k = has_cleared p rows s.retired s.waiting s.filled r row h there has c.args.number slot at q now step.new.retired cleared empty clears step.ensures.none c.fewer-self-inside.result c.fewer-self-inside.ensures.less c.fewer-self-inside.ensures.same in
    let was = seen_here p rows s.retired s.waiting s.filled r row h there has c.args.number slot at in
    rw (← c.self.view_is) (cleared_changes p q rows now step.new.retired s.waiting (s.waiting + cleared) c.fewer-self-inside.result cleared r c.args.number _ _ _ was k at.6)

pub returns-clause-searched : goal.returns-clause-searched
returns-clause-searched g c =
    let s = c.self.inside in
    let p = s.pools in
    let rows = s.rows.items in
    let r = c.args.r in
    let row = c.index-row.result.now in
    let h = c.self.invariant in
    let there = row_there p rows r row (rw (← c.self.view_is) at c.requires.row) c.index-row.ensures in
    let has = versions_of p rows s.retired s.waiting s.filled r row h there in
    let slot = c.in-Some.slot in
    let at = rw c.in-Some.is at (c.slot_of.ensures (Reference r) has.versions has.stands) in
    let stands = row_stands p rows r row has c.args.number slot at in
    let step = c.clear_in-cleared in
    let q = step.new.pools in
    let now = step.new.rows.items in
    let cleared = step.result in
    let empty = step.ensures.empty row at.0 at.1 at.2 there at.5 stands in
    let clears = step.ensures.clears row at.0 at.1 at.2 h.gone there at.5 stands h.wait in
    let k = has_cleared p rows s.retired s.waiting s.filled r row h there has c.args.number slot at q now step.new.retired cleared empty clears step.ensures.none c.fewer-self-inside.result c.fewer-self-inside.ensures.less c.fewer-self-inside.ensures.same in
    let was = seen_here p rows s.retired s.waiting s.filled r row h there has c.args.number slot at in
    rw (← c.self.view_is) (cleared_searched p q rows now step.new.retired s.waiting (s.waiting + cleared) c.fewer-self-inside.result cleared r c.args.number _ _ _ was k)

pub returns-clause-counted : goal.returns-clause-counted
returns-clause-counted g c =
    let s = c.self.inside in
    let p = s.pools in
    let rows = s.rows.items in
    let r = c.args.r in
    let row = c.index-row.result.now in
    let h = c.self.invariant in
    let there = row_there p rows r row (rw (← c.self.view_is) at c.requires.row) c.index-row.ensures in
    let has = versions_of p rows s.retired s.waiting s.filled r row h there in
    let slot = c.in-Some.slot in
    let at = rw c.in-Some.is at (c.slot_of.ensures (Reference r) has.versions has.stands) in
    let stands = row_stands p rows r row has c.args.number slot at in
    let step = c.clear_in-cleared in
    let q = step.new.pools in
    let now = step.new.rows.items in
    let cleared = step.result in
    let empty = step.ensures.empty row at.0 at.1 at.2 there at.5 stands in
    let clears = step.ensures.clears row at.0 at.1 at.2 h.gone there at.5 stands h.wait in
    let k = has_cleared p rows s.retired s.waiting s.filled r row h there has c.args.number slot at q now step.new.retired cleared empty clears step.ensures.none c.fewer-self-inside.result c.fewer-self-inside.ensures.less c.fewer-self-inside.ensures.same in
    let was = seen_here p rows s.retired s.waiting s.filled r row h there has c.args.number slot at in
    rw (← c.self.view_is) (cleared_counted p q rows now step.new.retired s.waiting (s.waiting + cleared) c.fewer-self-inside.result cleared r c.args.number _ _ _ was k)

pub returns-clause-others : goal.returns-clause-others
returns-clause-others g c =
    let s = c.self.inside in
    let p = s.pools in
    let rows = s.rows.items in
    let r = c.args.r in
    let row = c.index-row.result.now in
    let h = c.self.invariant in
    let there = row_there p rows r row (rw (← c.self.view_is) at c.requires.row) c.index-row.ensures in
    let has = versions_of p rows s.retired s.waiting s.filled r row h there in
    let slot = c.in-Some.slot in
    let at = rw c.in-Some.is at (c.slot_of.ensures (Reference r) has.versions has.stands) in
    let stands = row_stands p rows r row has c.args.number slot at in
    let step = c.clear_in-cleared in
    let q = step.new.pools in
    let now = step.new.rows.items in
    let cleared = step.result in
    let empty = step.ensures.empty row at.0 at.1 at.2 there at.5 stands in
    let clears = step.ensures.clears row at.0 at.1 at.2 h.gone there at.5 stands h.wait in
    let k = has_cleared p rows s.retired s.waiting s.filled r row h there has c.args.number slot at q now step.new.retired cleared empty clears step.ensures.none c.fewer-self-inside.result c.fewer-self-inside.ensures.less c.fewer-self-inside.ensures.same in
    let was = seen_here p rows s.retired s.waiting s.filled r row h there has c.args.number slot at in
    rw (← c.self.view_is) (cleared_others p q rows now step.new.retired s.waiting (s.waiting + cleared) c.fewer-self-inside.result cleared r c.args.number _ _ _ was k)

pub returns-clause-waiting : goal.returns-clause-waiting
returns-clause-waiting g c =
    let s = c.self.inside in
    let p = s.pools in
    let rows = s.rows.items in
    let r = c.args.r in
    let row = c.index-row.result.now in
    let h = c.self.invariant in
    let there = row_there p rows r row (rw (← c.self.view_is) at c.requires.row) c.index-row.ensures in
    let has = versions_of p rows s.retired s.waiting s.filled r row h there in
    let slot = c.in-Some.slot in
    let at = rw c.in-Some.is at (c.slot_of.ensures (Reference r) has.versions has.stands) in
    let stands = row_stands p rows r row has c.args.number slot at in
    let step = c.clear_in-cleared in
    let q = step.new.pools in
    let now = step.new.rows.items in
    let cleared = step.result in
    let empty = step.ensures.empty row at.0 at.1 at.2 there at.5 stands in
    let clears = step.ensures.clears row at.0 at.1 at.2 h.gone there at.5 stands h.wait in
    let k = has_cleared p rows s.retired s.waiting s.filled r row h there has c.args.number slot at q now step.new.retired cleared empty clears step.ensures.none c.fewer-self-inside.result c.fewer-self-inside.ensures.less c.fewer-self-inside.ensures.same in
    let was = seen_here p rows s.retired s.waiting s.filled r row h there has c.args.number slot at in
    rw (← c.self.view_is) (λ first last all. cleared_waiting p q rows now step.new.retired s.waiting (s.waiting + cleared) c.fewer-self-inside.result cleared r c.args.number _ _ _ was k (below_seen c.args.number at.0 at.4) at.6)

pub returns-in_default-clause-changes : goal.returns-in_default-clause-changes
returns-in_default-clause-changes g c =
    let s = c.self.inside in
    let p = s.pools in
    let rows = s.rows.items in
    let r = c.args.r in
    let row = c.index-row.result.now in
    let h = c.self.invariant in
    let there = row_there p rows r row (rw (← c.self.view_is) at c.requires.row) c.index-row.ensures in
    let has = versions_of p rows s.retired s.waiting s.filled r row h there in
    let none = rw c.in_default.is at (c.slot_of.ensures (Reference r) has.versions has.stands) in
    rw (← c.self.view_is) (none_changes p rows r row has c.args.number s.waiting (changed_entries (λ _. [])) none refl)

pub returns-in_default-clause-others : goal.returns-in_default-clause-others
returns-in_default-clause-others g c =
    let s = c.self.inside in
    let p = s.pools in
    let rows = s.rows.items in
    let r = c.args.r in
    let row = c.index-row.result.now in
    let h = c.self.invariant in
    let there = row_there p rows r row (rw (← c.self.view_is) at c.requires.row) c.index-row.ensures in
    let has = versions_of p rows s.retired s.waiting s.filled r row h there in
    rw (← c.self.view_is) (same_rows p rows r row has c.args.number s.waiting)

pub returns-in_default-clause-waiting : goal.returns-in_default-clause-waiting
returns-in_default-clause-waiting g c =
    let s = c.self.inside in
    let p = s.pools in
    let rows = s.rows.items in
    let r = c.args.r in
    let row = c.index-row.result.now in
    let h = c.self.invariant in
    let there = row_there p rows r row (rw (← c.self.view_is) at c.requires.row) c.index-row.ensures in
    let has = versions_of p rows s.retired s.waiting s.filled r row h there in
    let none = rw c.in_default.is at (c.slot_of.ensures (Reference r) has.versions has.stands) in
    rw (← c.self.view_is) (absent_waiting p rows r row has c.args.number s.waiting none)
