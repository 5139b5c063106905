use Rattle.std.proofs.Common.{◌≡◌, ◌+◌, List, length, map, set, refl, sym, ap, subst, ◌∙◌, arith}
use Rattle.std.proofs.lemmas.List.{length-map}
use Rattle.std.proofs.lemmas.Result.{on_ok_weaker}
use Rattle.hx_sample.specs.Changes.{with_value}
use Rattle.hx_sample.specs.Find.{Entry}
use Rattle.hx_versions.specs.declared.stored_version.Owner.TheVariants.{Reference}
use Rattle.hx_versions.specs.Contents.{entries_of, with_chosen_values}
use Rattle.hx_versions.specs.Versions.{is_chosen, Version}
use Rattle.hx_versions.specs.Rows.{changed_entries, row_at, AreCounted, AreSearchedBy, IsCounted, IsSearchedBy}
use Rattle.hx_versions.specs.Store.{IsStore, seen_rows, shown_version}
use Rattle.hx_versions.proofs.StoreChangeLemmas.{by_answer, changed_rows, changed_store, filled_values}
use Rattle.hx_versions.proofs.StoreClauseLemmas.{each_changes, none_changes, on_err, other_rows, row_changes, row_is_seen, row_stands, same_rows, searched_keeps, view_of}
use Rattle.hx_versions.proofs.StoreLemmas.{row_there, versions_of}
use Rattle.hx_versions.proofs.ValueWalkLemmas.{shown_values}
use Rattle.hx_versions.proofs.store.Store.set.Goals as goal

pub slot_of-requires : goal.slot_of-requires
slot_of-requires g c =
    let s = c.self.inside in
    let p = s.pools in
    let r = c.args.r in
    let row = c.index-row.result.now in
    let there = row_there p s.rows.items r row (rw (← c.self.view_is) at c.requires.row) c.index-row.ensures in
    let has = versions_of p s.rows.items s.retired s.waiting s.filled r row c.self.invariant there in
    (Reference r, has.versions, has.stands)

pub set_in-requires : goal.set_in-requires
set_in-requires g c =
    let s = c.self.inside in
    let p = s.pools in
    let r = c.args.r in
    let row = c.index-row.result.now in
    let there = row_there p s.rows.items r row (rw (← c.self.view_is) at c.requires.row) c.index-row.ensures in
    let has = versions_of p s.rows.items s.retired s.waiting s.filled r row c.self.invariant there in
    let at = rw c.in-Some.is at (c.slot_of.ensures (Reference r) has.versions has.stands) in
    let h = row_stands p s.rows.items r row has c.args.number c.in-Some.slot at in
    let seen = row_is_seen p s.rows.items r row has c.args.number c.in-Some.slot at in
    (Reference r, row, at.0, at.1, at.2, at.5, h)

pub invariant_of-self : goal.invariant_of-self
invariant_of-self g c =
    let s = c.self.inside in
    let p = s.pools in
    let r = c.args.r in
    let row = c.index-row.result.now in
    let there = row_there p s.rows.items r row (rw (← c.self.view_is) at c.requires.row) c.index-row.ensures in
    let has = versions_of p s.rows.items s.retired s.waiting s.filled r row c.self.invariant there in
    let at = rw c.in-Some.is at (c.slot_of.ensures (Reference r) has.versions has.stands) in
    let h = row_stands p s.rows.items r row has c.args.number c.in-Some.slot at in
    let seen = row_is_seen p s.rows.items r row has c.args.number c.in-Some.slot at in
    let step = c.set_in in
    let q = step.new.pools in
    let test = is_chosen c.args.choice.now in
    let value = c.args.value.now in
    let left = with_chosen_values test value at.1.placed in
    let fit = step.ensures.fewer in
    by_answer step.result (λ ok.
    let changes = ok (Reference r) row at.0 at.1 at.2 at.5 h in
    let stands = changed_store p q s.rows.items s.retired s.waiting s.filled s.filled r row at.0 at.1 at.2 at.1.serial left c.self.invariant there seen changes fit.versions (ap (λ k. s.filled + k) (sym (filled_values test value at.1.placed))) (omega (arith, fit.spare, c.self.invariant.counted.spare)) (omega (arith, fit.versions, c.self.invariant.counted.versions_fit)) (omega (arith, fit.entries, c.self.invariant.counted.entries_fit)) (omega (arith, fit.nodes, c.self.invariant.counted.nodes_fit)) in
    subst (IsStore q s.rows.items s.retired s.waiting s.filled) (sym (changed_rows p q s.rows.items s.retired s.waiting s.filled s.filled r row at.0 at.1 at.2 at.1.serial left c.self.invariant there seen changes stands)) stands)
    (λ same. subst (λ x. IsStore x s.rows.items s.retired s.waiting s.filled (seen_rows x s.rows.items)) (sym same) c.self.invariant)
    step.ensures.ok step.ensures.err

pub returns-in_default-clause-ok : goal.returns-in_default-clause-ok
returns-in_default-clause-ok g c =
    let s = c.self.inside in
    let p = s.pools in
    let r = c.args.r in
    let row = c.index-row.result.now in
    let there = row_there p s.rows.items r row (rw (← c.self.view_is) at c.requires.row) c.index-row.ensures in
    let has = versions_of p s.rows.items s.retired s.waiting s.filled r row c.self.invariant there in
    let none = rw c.in_default.is at (c.slot_of.ensures (Reference r) has.versions has.stands) in
    rw (← c.self.view_is) (none_changes p s.rows.items r row has c.args.number s.waiting (changed_entries (map (with_value (is_chosen c.args.choice.now) c.args.value.now))) none refl)

pub returns-in_default-clause-others : goal.returns-in_default-clause-others
returns-in_default-clause-others g c =
    let s = c.self.inside in
    let p = s.pools in
    let r = c.args.r in
    let row = c.index-row.result.now in
    let there = row_there p s.rows.items r row (rw (← c.self.view_is) at c.requires.row) c.index-row.ensures in
    let has = versions_of p s.rows.items s.retired s.waiting s.filled r row c.self.invariant there in
    rw (← c.self.view_is) (same_rows p s.rows.items r row has c.args.number s.waiting)

pub returns-clause-ok : goal.returns-clause-ok
returns-clause-ok g c =
    let s = c.self.inside in
    let p = s.pools in
    let r = c.args.r in
    let row = c.index-row.result.now in
    let there = row_there p s.rows.items r row (rw (← c.self.view_is) at c.requires.row) c.index-row.ensures in
    let has = versions_of p s.rows.items s.retired s.waiting s.filled r row c.self.invariant there in
    let at = rw c.in-Some.is at (c.slot_of.ensures (Reference r) has.versions has.stands) in
    let h = row_stands p s.rows.items r row has c.args.number c.in-Some.slot at in
    let seen = row_is_seen p s.rows.items r row has c.args.number c.in-Some.slot at in
    let step = c.set_in in
    let q = step.new.pools in
    let test = is_chosen c.args.choice.now in
    let value = c.args.value.now in
    let left = with_chosen_values test value at.1.placed in
    let fit = step.ensures.fewer in
    let made : List Entry → Version = λ es. record { serial = at.1.serial; entries = es } in
    rw (← c.self.view_is) (on_ok_weaker step.result (λ ok.
    let changes = ok (Reference r) row at.0 at.1 at.2 at.5 h in
    let stands = changed_store p q s.rows.items s.retired s.waiting s.filled s.filled r row at.0 at.1 at.2 at.1.serial left c.self.invariant there seen changes fit.versions (ap (λ k. s.filled + k) (sym (filled_values test value at.1.placed))) (omega (arith, fit.spare, c.self.invariant.counted.spare)) (omega (arith, fit.versions, c.self.invariant.counted.versions_fit)) (omega (arith, fit.entries, c.self.invariant.counted.entries_fit)) (omega (arith, fit.nodes, c.self.invariant.counted.nodes_fit)) in
    row_changes p s.rows.items r row has c.args.number c.in-Some.slot at q s.retired s.waiting s.filled s.filled at.1.serial left c.self.invariant there changes stands (changed_entries (map (with_value test value))) (ap made (shown_values test value at.1.placed))) step.ensures.ok)

pub returns-clause-searched : goal.returns-clause-searched
returns-clause-searched g c =
    let s = c.self.inside in
    let p = s.pools in
    let r = c.args.r in
    let row = c.index-row.result.now in
    let there = row_there p s.rows.items r row (rw (← c.self.view_is) at c.requires.row) c.index-row.ensures in
    let has = versions_of p s.rows.items s.retired s.waiting s.filled r row c.self.invariant there in
    let at = rw c.in-Some.is at (c.slot_of.ensures (Reference r) has.versions has.stands) in
    let h = row_stands p s.rows.items r row has c.args.number c.in-Some.slot at in
    let seen = row_is_seen p s.rows.items r row has c.args.number c.in-Some.slot at in
    let step = c.set_in in
    let q = step.new.pools in
    let test = is_chosen c.args.choice.now in
    let value = c.args.value.now in
    let left = with_chosen_values test value at.1.placed in
    let fit = step.ensures.fewer in
    rw (← c.self.view_is) (λ ways all. by_answer step.result (λ ok.
    let changes = ok (Reference r) row at.0 at.1 at.2 at.5 h in
    let stands = changed_store p q s.rows.items s.retired s.waiting s.filled s.filled r row at.0 at.1 at.2 at.1.serial left c.self.invariant there seen changes fit.versions (ap (λ k. s.filled + k) (sym (filled_values test value at.1.placed))) (omega (arith, fit.spare, c.self.invariant.counted.spare)) (omega (arith, fit.versions, c.self.invariant.counted.versions_fit)) (omega (arith, fit.entries, c.self.invariant.counted.entries_fit)) (omega (arith, fit.nodes, c.self.invariant.counted.nodes_fit)) in
    each_changes p s.rows.items r row has c.args.number c.in-Some.slot at q s.retired s.waiting s.filled s.filled at.1.serial left c.self.invariant there changes stands (IsSearchedBy ways) (searched_keeps ways (shown_version at.1) (shown_version (record at.1 { serial = at.1.serial; content = changes.content; placed = left })) changes.ways (λ none. shown_values test value at.1.placed ∙ ap (map (with_value test value)) none)) all)
    (λ same. subst (λ x. AreSearchedBy ways (row_at (view_of x s.rows.items s.waiting) r)) (sym same) all)
    step.ensures.ok step.ensures.err)

pub returns-clause-counted : goal.returns-clause-counted
returns-clause-counted g c =
    let s = c.self.inside in
    let p = s.pools in
    let r = c.args.r in
    let row = c.index-row.result.now in
    let there = row_there p s.rows.items r row (rw (← c.self.view_is) at c.requires.row) c.index-row.ensures in
    let has = versions_of p s.rows.items s.retired s.waiting s.filled r row c.self.invariant there in
    let at = rw c.in-Some.is at (c.slot_of.ensures (Reference r) has.versions has.stands) in
    let h = row_stands p s.rows.items r row has c.args.number c.in-Some.slot at in
    let seen = row_is_seen p s.rows.items r row has c.args.number c.in-Some.slot at in
    let step = c.set_in in
    let q = step.new.pools in
    let test = is_chosen c.args.choice.now in
    let value = c.args.value.now in
    let left = with_chosen_values test value at.1.placed in
    let fit = step.ensures.fewer in
    let many : length (entries_of left) ≡ length (entries_of at.1.placed) = ap length (shown_values test value at.1.placed) ∙ length-map (entries_of at.1.placed) (with_value test value) in
    rw (← c.self.view_is) (λ all. by_answer step.result (λ ok.
    let changes = ok (Reference r) row at.0 at.1 at.2 at.5 h in
    let stands = changed_store p q s.rows.items s.retired s.waiting s.filled s.filled r row at.0 at.1 at.2 at.1.serial left c.self.invariant there seen changes fit.versions (ap (λ k. s.filled + k) (sym (filled_values test value at.1.placed))) (omega (arith, fit.spare, c.self.invariant.counted.spare)) (omega (arith, fit.versions, c.self.invariant.counted.versions_fit)) (omega (arith, fit.entries, c.self.invariant.counted.entries_fit)) (omega (arith, fit.nodes, c.self.invariant.counted.nodes_fit)) in
    each_changes p s.rows.items r row has c.args.number c.in-Some.slot at q s.retired s.waiting s.filled s.filled at.1.serial left c.self.invariant there changes stands IsCounted (λ counted. (counted.0, omega (arith, counted.1, many))) all)
    (λ same. subst (λ x. AreCounted (row_at (view_of x s.rows.items s.waiting) r)) (sym same) all)
    step.ensures.ok step.ensures.err)

pub returns-clause-others : goal.returns-clause-others
returns-clause-others g c =
    let s = c.self.inside in
    let p = s.pools in
    let r = c.args.r in
    let row = c.index-row.result.now in
    let there = row_there p s.rows.items r row (rw (← c.self.view_is) at c.requires.row) c.index-row.ensures in
    let has = versions_of p s.rows.items s.retired s.waiting s.filled r row c.self.invariant there in
    let at = rw c.in-Some.is at (c.slot_of.ensures (Reference r) has.versions has.stands) in
    let h = row_stands p s.rows.items r row has c.args.number c.in-Some.slot at in
    let seen = row_is_seen p s.rows.items r row has c.args.number c.in-Some.slot at in
    let step = c.set_in in
    let q = step.new.pools in
    let test = is_chosen c.args.choice.now in
    let value = c.args.value.now in
    let left = with_chosen_values test value at.1.placed in
    let fit = step.ensures.fewer in
    rw (← c.self.view_is) (by_answer step.result (λ ok.
    let changes = ok (Reference r) row at.0 at.1 at.2 at.5 h in
    let stands = changed_store p q s.rows.items s.retired s.waiting s.filled s.filled r row at.0 at.1 at.2 at.1.serial left c.self.invariant there seen changes fit.versions (ap (λ k. s.filled + k) (sym (filled_values test value at.1.placed))) (omega (arith, fit.spare, c.self.invariant.counted.spare)) (omega (arith, fit.versions, c.self.invariant.counted.versions_fit)) (omega (arith, fit.entries, c.self.invariant.counted.entries_fit)) (omega (arith, fit.nodes, c.self.invariant.counted.nodes_fit)) in
    other_rows p s.rows.items r row has c.args.number c.in-Some.slot at q s.retired s.waiting s.filled s.filled at.1.serial left c.self.invariant there changes stands)
    (λ same. ap (λ x. seen_rows x s.rows.items) same ∙ same_rows p s.rows.items r row has c.args.number s.waiting ∙ ap (λ x. set (seen_rows p s.rows.items) r (row_at (view_of x s.rows.items s.waiting) r)) (sym same))
    step.ensures.ok step.ensures.err)

pub returns-clause-waiting : goal.returns-clause-waiting
returns-clause-waiting g c = rw (← c.self.view_is) refl

pub returns-clause-err : goal.returns-clause-err
returns-clause-err g c =
    let s = c.self.inside in
    rw (← c.self.view_is) (on_err c.set_in.result (λ same. ap (λ x. view_of x s.rows.items s.waiting) same) c.set_in.ensures.err)
