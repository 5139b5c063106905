use Rattle.std.proofs.Common.{List, map, Some, refl, sym, ap, subst, ◌∙◌, arith}
use Rattle.hx_sample.specs.Changes.{without_chosen}
use Rattle.hx_sample.specs.Find.{Entry}
use Rattle.hx_versions.specs.declared.stored_version.Owner.TheVariants.{Reference}
use Rattle.hx_versions.specs.Contents.{without_chosen_entries}
use Rattle.hx_versions.specs.Versions.{is_chosen, Version}
use Rattle.hx_versions.specs.Rows.{changed_entries, IsCounted, IsSearchedBy}
use Rattle.hx_versions.specs.Store.{IsStore, seen_rows, shown_version}
use Rattle.hx_versions.proofs.StoreChangeLemmas.{changed_rows, changed_store, filled_left}
use Rattle.hx_versions.proofs.StoreClauseLemmas.{each_changes, emptied_some, entries_most, fewer_most, filled_within, left_most, none_changes, other_rows, row_changes, row_is_seen, row_stands, same_rows, searched_keeps}
use Rattle.hx_versions.proofs.StoreLemmas.{row_there, versions_of}
use Rattle.hx_versions.proofs.VersionReadLemmas.{seen_about}
use Rattle.hx_versions.proofs.WalkLemmas.{shown_without}
use Rattle.hx_versions.proofs.store.Store.delete.Goals as goal

pub slot_of-requires : goal.slot_of-requires
slot_of-requires g c =
    let s = c.self.inside in
    let p = s.pools in
    let r = c.args.r in
    let row = c.index-row.result.now in
    let there = row_there p s.rows.items r row (rw (← c.self.view_is) at c.requires.row) c.index-row.ensures in
    let has = versions_of p s.rows.items s.retired s.waiting s.filled r row c.self.invariant there in
    (Reference r, has.versions, has.stands)

pub delete_in-emptied-requires : goal.delete_in-emptied-requires
delete_in-emptied-requires g c =
    let s = c.self.inside in
    let p = s.pools in
    let r = c.args.r in
    let row = c.index-row.result.now in
    let there = row_there p s.rows.items r row (rw (← c.self.view_is) at c.requires.row) c.index-row.ensures in
    let has = versions_of p s.rows.items s.retired s.waiting s.filled r row c.self.invariant there in
    let at = rw c.in-Some.is at (c.slot_of.ensures (Reference r) has.versions has.stands) in
    let h = row_stands p s.rows.items r row has c.args.number c.in-Some.slot at in
    (Reference r, row, at.0, at.1, at.2, at.5, h)

pub fewer-self-inside-requires : goal.fewer-self-inside-requires
fewer-self-inside-requires g c some =
    let s = c.self.inside in
    let p = s.pools in
    let r = c.args.r in
    let row = c.index-row.result.now in
    let there = row_there p s.rows.items r row (rw (← c.self.view_is) at c.requires.row) c.index-row.ensures in
    let has = versions_of p s.rows.items s.retired s.waiting s.filled r row c.self.invariant there in
    let at = rw c.in-Some.is at (c.slot_of.ensures (Reference r) has.versions has.stands) in
    let h = row_stands p s.rows.items r row has c.args.number c.in-Some.slot at in
    let seen = row_is_seen p s.rows.items r row has c.args.number c.in-Some.slot at in
    let left = without_chosen_entries (is_chosen c.args.choice.now) at.1.placed in
    let one = emptied_some at.1.placed left c.delete_in-emptied.result (c.delete_in-emptied.ensures.emptied at.1 (Reference r) row at.0 at.2 at.5 h) some in
    let within = filled_within (seen_rows p s.rows.items) r (map shown_version at.0) (shown_version at.1) (map shown_version at.2) (seen ∙ ap Some (seen_about _ at.0 at.1 at.2 refl)) in
    omega (arith, one, within, c.self.invariant.counted.fills)

pub invariant_of-self : goal.invariant_of-self
invariant_of-self g c =
    let s = c.self.inside in
    let p = s.pools in
    let r = c.args.r in
    let row = c.index-row.result.now in
    let there = row_there p s.rows.items r row (rw (← c.self.view_is) at c.requires.row) c.index-row.ensures in
    let has = versions_of p s.rows.items s.retired s.waiting s.filled r row c.self.invariant there in
    let at = rw c.in-Some.is at (c.slot_of.ensures (Reference r) has.versions has.stands) in
    let h = row_stands p s.rows.items r row has c.args.number c.in-Some.slot at in
    let seen = row_is_seen p s.rows.items r row has c.args.number c.in-Some.slot at in
    let step = c.delete_in-emptied in
    let q = step.new.pools in
    let test = is_chosen c.args.choice.now in
    let left = without_chosen_entries test at.1.placed in
    let fit = step.ensures.fewer in
    let now = c.fewer-self-inside.result in
    let few = left_most test at.1.placed in
    let emptied = step.ensures.emptied at.1 (Reference r) row at.0 at.2 at.5 h in
    let most = fewer_most now s.filled step.result c.fewer-self-inside.ensures.less c.fewer-self-inside.ensures.same in
    let changes = step.ensures.changes (Reference r) row at.0 at.1 at.2 at.5 h in
    let stands = changed_store p q s.rows.items s.retired s.waiting s.filled now r row at.0 at.1 at.2 at.1.serial left c.self.invariant there seen changes fit.versions (filled_left now s.filled at.1.placed left step.result emptied few c.fewer-self-inside.ensures.less c.fewer-self-inside.ensures.same) (omega (arith, fit.spare, c.self.invariant.counted.spare, most)) (omega (arith, fit.versions, c.self.invariant.counted.versions_fit, most)) (omega (arith, fit.entries, c.self.invariant.counted.entries_fit)) (omega (arith, fit.nodes, c.self.invariant.counted.nodes_fit)) in
    subst (IsStore q s.rows.items s.retired s.waiting now) (sym (changed_rows p q s.rows.items s.retired s.waiting s.filled now r row at.0 at.1 at.2 at.1.serial left c.self.invariant there seen changes stands)) stands

pub returns-in_default-clause-changes : goal.returns-in_default-clause-changes
returns-in_default-clause-changes g c =
    let s = c.self.inside in
    let p = s.pools in
    let r = c.args.r in
    let row = c.index-row.result.now in
    let there = row_there p s.rows.items r row (rw (← c.self.view_is) at c.requires.row) c.index-row.ensures in
    let has = versions_of p s.rows.items s.retired s.waiting s.filled r row c.self.invariant there in
    let none = rw c.in_default.is at (c.slot_of.ensures (Reference r) has.versions has.stands) in
    rw (← c.self.view_is) (none_changes p s.rows.items r row has c.args.number s.waiting (changed_entries (without_chosen (is_chosen c.args.choice.now))) none refl)

pub returns-in_default-clause-others : goal.returns-in_default-clause-others
returns-in_default-clause-others g c =
    let s = c.self.inside in
    let p = s.pools in
    let r = c.args.r in
    let row = c.index-row.result.now in
    let there = row_there p s.rows.items r row (rw (← c.self.view_is) at c.requires.row) c.index-row.ensures in
    let has = versions_of p s.rows.items s.retired s.waiting s.filled r row c.self.invariant there in
    rw (← c.self.view_is) (same_rows p s.rows.items r row has c.args.number s.waiting)

pub returns-clause-changes : goal.returns-clause-changes
returns-clause-changes g c =
    let s = c.self.inside in
    let p = s.pools in
    let r = c.args.r in
    let row = c.index-row.result.now in
    let there = row_there p s.rows.items r row (rw (← c.self.view_is) at c.requires.row) c.index-row.ensures in
    let has = versions_of p s.rows.items s.retired s.waiting s.filled r row c.self.invariant there in
    let at = rw c.in-Some.is at (c.slot_of.ensures (Reference r) has.versions has.stands) in
    let h = row_stands p s.rows.items r row has c.args.number c.in-Some.slot at in
    let seen = row_is_seen p s.rows.items r row has c.args.number c.in-Some.slot at in
    let step = c.delete_in-emptied in
    let q = step.new.pools in
    let test = is_chosen c.args.choice.now in
    let left = without_chosen_entries test at.1.placed in
    let fit = step.ensures.fewer in
    let now = c.fewer-self-inside.result in
    let few = left_most test at.1.placed in
    let emptied = step.ensures.emptied at.1 (Reference r) row at.0 at.2 at.5 h in
    let most = fewer_most now s.filled step.result c.fewer-self-inside.ensures.less c.fewer-self-inside.ensures.same in
    let changes = step.ensures.changes (Reference r) row at.0 at.1 at.2 at.5 h in
    let stands = changed_store p q s.rows.items s.retired s.waiting s.filled now r row at.0 at.1 at.2 at.1.serial left c.self.invariant there seen changes fit.versions (filled_left now s.filled at.1.placed left step.result emptied few c.fewer-self-inside.ensures.less c.fewer-self-inside.ensures.same) (omega (arith, fit.spare, c.self.invariant.counted.spare, most)) (omega (arith, fit.versions, c.self.invariant.counted.versions_fit, most)) (omega (arith, fit.entries, c.self.invariant.counted.entries_fit)) (omega (arith, fit.nodes, c.self.invariant.counted.nodes_fit)) in
    let made : List Entry → Version = λ es. record { serial = at.1.serial; entries = es } in
    rw (← c.self.view_is) (row_changes p s.rows.items r row has c.args.number c.in-Some.slot at q s.retired s.waiting s.filled now at.1.serial left c.self.invariant there changes stands (changed_entries (without_chosen test)) (ap made (shown_without test at.1.placed)))

pub returns-clause-searched : goal.returns-clause-searched
returns-clause-searched g c =
    let s = c.self.inside in
    let p = s.pools in
    let r = c.args.r in
    let row = c.index-row.result.now in
    let there = row_there p s.rows.items r row (rw (← c.self.view_is) at c.requires.row) c.index-row.ensures in
    let has = versions_of p s.rows.items s.retired s.waiting s.filled r row c.self.invariant there in
    let at = rw c.in-Some.is at (c.slot_of.ensures (Reference r) has.versions has.stands) in
    let h = row_stands p s.rows.items r row has c.args.number c.in-Some.slot at in
    let seen = row_is_seen p s.rows.items r row has c.args.number c.in-Some.slot at in
    let step = c.delete_in-emptied in
    let q = step.new.pools in
    let test = is_chosen c.args.choice.now in
    let left = without_chosen_entries test at.1.placed in
    let fit = step.ensures.fewer in
    let now = c.fewer-self-inside.result in
    let few = left_most test at.1.placed in
    let emptied = step.ensures.emptied at.1 (Reference r) row at.0 at.2 at.5 h in
    let most = fewer_most now s.filled step.result c.fewer-self-inside.ensures.less c.fewer-self-inside.ensures.same in
    let changes = step.ensures.changes (Reference r) row at.0 at.1 at.2 at.5 h in
    let stands = changed_store p q s.rows.items s.retired s.waiting s.filled now r row at.0 at.1 at.2 at.1.serial left c.self.invariant there seen changes fit.versions (filled_left now s.filled at.1.placed left step.result emptied few c.fewer-self-inside.ensures.less c.fewer-self-inside.ensures.same) (omega (arith, fit.spare, c.self.invariant.counted.spare, most)) (omega (arith, fit.versions, c.self.invariant.counted.versions_fit, most)) (omega (arith, fit.entries, c.self.invariant.counted.entries_fit)) (omega (arith, fit.nodes, c.self.invariant.counted.nodes_fit)) in
    rw (← c.self.view_is) (λ ways all. each_changes p s.rows.items r row has c.args.number c.in-Some.slot at q s.retired s.waiting s.filled now at.1.serial left c.self.invariant there changes stands (IsSearchedBy ways) (searched_keeps ways (shown_version at.1) (shown_version (record at.1 { serial = at.1.serial; content = changes.content; placed = left })) changes.ways (λ none. shown_without test at.1.placed ∙ ap (without_chosen test) none)) all)

pub returns-clause-counted : goal.returns-clause-counted
returns-clause-counted g c =
    let s = c.self.inside in
    let p = s.pools in
    let r = c.args.r in
    let row = c.index-row.result.now in
    let there = row_there p s.rows.items r row (rw (← c.self.view_is) at c.requires.row) c.index-row.ensures in
    let has = versions_of p s.rows.items s.retired s.waiting s.filled r row c.self.invariant there in
    let at = rw c.in-Some.is at (c.slot_of.ensures (Reference r) has.versions has.stands) in
    let h = row_stands p s.rows.items r row has c.args.number c.in-Some.slot at in
    let seen = row_is_seen p s.rows.items r row has c.args.number c.in-Some.slot at in
    let step = c.delete_in-emptied in
    let q = step.new.pools in
    let test = is_chosen c.args.choice.now in
    let left = without_chosen_entries test at.1.placed in
    let fit = step.ensures.fewer in
    let now = c.fewer-self-inside.result in
    let few = left_most test at.1.placed in
    let emptied = step.ensures.emptied at.1 (Reference r) row at.0 at.2 at.5 h in
    let most = fewer_most now s.filled step.result c.fewer-self-inside.ensures.less c.fewer-self-inside.ensures.same in
    let changes = step.ensures.changes (Reference r) row at.0 at.1 at.2 at.5 h in
    let stands = changed_store p q s.rows.items s.retired s.waiting s.filled now r row at.0 at.1 at.2 at.1.serial left c.self.invariant there seen changes fit.versions (filled_left now s.filled at.1.placed left step.result emptied few c.fewer-self-inside.ensures.less c.fewer-self-inside.ensures.same) (omega (arith, fit.spare, c.self.invariant.counted.spare, most)) (omega (arith, fit.versions, c.self.invariant.counted.versions_fit, most)) (omega (arith, fit.entries, c.self.invariant.counted.entries_fit)) (omega (arith, fit.nodes, c.self.invariant.counted.nodes_fit)) in
    rw (← c.self.view_is) (λ all. each_changes p s.rows.items r row has c.args.number c.in-Some.slot at q s.retired s.waiting s.filled now at.1.serial left c.self.invariant there changes stands IsCounted (λ counted. (counted.0, entries_most at.1.placed left at.1.serial few counted.1)) all)

pub returns-clause-others : goal.returns-clause-others
returns-clause-others g c =
    let s = c.self.inside in
    let p = s.pools in
    let r = c.args.r in
    let row = c.index-row.result.now in
    let there = row_there p s.rows.items r row (rw (← c.self.view_is) at c.requires.row) c.index-row.ensures in
    let has = versions_of p s.rows.items s.retired s.waiting s.filled r row c.self.invariant there in
    let at = rw c.in-Some.is at (c.slot_of.ensures (Reference r) has.versions has.stands) in
    let h = row_stands p s.rows.items r row has c.args.number c.in-Some.slot at in
    let seen = row_is_seen p s.rows.items r row has c.args.number c.in-Some.slot at in
    let step = c.delete_in-emptied in
    let q = step.new.pools in
    let test = is_chosen c.args.choice.now in
    let left = without_chosen_entries test at.1.placed in
    let fit = step.ensures.fewer in
    let now = c.fewer-self-inside.result in
    let few = left_most test at.1.placed in
    let emptied = step.ensures.emptied at.1 (Reference r) row at.0 at.2 at.5 h in
    let most = fewer_most now s.filled step.result c.fewer-self-inside.ensures.less c.fewer-self-inside.ensures.same in
    let changes = step.ensures.changes (Reference r) row at.0 at.1 at.2 at.5 h in
    let stands = changed_store p q s.rows.items s.retired s.waiting s.filled now r row at.0 at.1 at.2 at.1.serial left c.self.invariant there seen changes fit.versions (filled_left now s.filled at.1.placed left step.result emptied few c.fewer-self-inside.ensures.less c.fewer-self-inside.ensures.same) (omega (arith, fit.spare, c.self.invariant.counted.spare, most)) (omega (arith, fit.versions, c.self.invariant.counted.versions_fit, most)) (omega (arith, fit.entries, c.self.invariant.counted.entries_fit)) (omega (arith, fit.nodes, c.self.invariant.counted.nodes_fit)) in
    rw (← c.self.view_is) (other_rows p s.rows.items r row has c.args.number c.in-Some.slot at q s.retired s.waiting s.filled now at.1.serial left c.self.invariant there changes stands)

pub returns-clause-waiting : goal.returns-clause-waiting
returns-clause-waiting g c = rw (← c.self.view_is) refl
