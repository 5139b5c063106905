use Rattle.std.proofs.Common.{◌≡◌, ◌+◌, ◌*◌, ◌^◌, ◌<◌, ◌≤◌, List, length, sym, ap, subst, ◌∙◌, arith}
use Rattle.std.proofs.lemmas.List.{length-map}
use Rattle.std.proofs.lemmas.Result.{err_from_is_err_and}
use Rattle.hx_versions.specs.declared.stored_version.Owner.TheVariants.{Reference}
use Rattle.hx_versions.specs.NewEntries.{AreReadyFor, added_entries, added_entry}
use Rattle.hx_versions.specs.Rows.{AreCounted, AreNumbered, AreSearchedBy, ShownVersion, StoreView, row_at, use_ways, version_numbered}
use Rattle.hx_versions.specs.Store.{IsRow, seen_rows}
use Rattle.hx_versions.proofs.GrowingLemmas.{use_way}
use Rattle.hx_versions.proofs.IndexListLemmas.{some_same}
use Rattle.hx_versions.proofs.StoreAppendLemmas.{appends_to, entries_spare, few_placed, left_others, left_rows, left_store, nodes_spare, reserved_rows, reserved_store, row_before}
use Rattle.hx_versions.proofs.store.Store.append.Goals as goal

pub invariant_of-self : goal.invariant_of-self
invariant_of-self g c =
    let s = c.self.inside in
    let p0 = s.pools in
    let p = c.reserve.new.pools in
    let rows = s.rows.items in
    reserved_store p0 p rows s.retired s.waiting s.filled c.self.invariant c.reserve.ensures.kept

pub returns-in_err-reserve-clause-searched : goal.returns-in_err-reserve-clause-searched
returns-in_err-reserve-clause-searched g c =
    let s = c.self.inside in
    let p0 = s.pools in
    let p = c.reserve.new.pools in
    let rows = s.rows.items in
    let same = reserved_rows p0 p rows s.retired s.waiting s.filled c.self.invariant c.reserve.ensures.kept in
    let seen : List (List ShownVersion) → StoreView = λ xs. record { rows = xs; waiting = s.waiting } in
    subst (λ xs. AreSearchedBy (use_ways c.args.uses.now) (row_at (seen xs) c.args.r)) (sym same) (rw (← c.self.view_is) at c.requires.searched)

pub returns-in_err-reserve-clause-counted : goal.returns-in_err-reserve-clause-counted
returns-in_err-reserve-clause-counted g c =
    let s = c.self.inside in
    let p0 = s.pools in
    let p = c.reserve.new.pools in
    let rows = s.rows.items in
    let same = reserved_rows p0 p rows s.retired s.waiting s.filled c.self.invariant c.reserve.ensures.kept in
    let seen : List (List ShownVersion) → StoreView = λ xs. record { rows = xs; waiting = s.waiting } in
    rw (← c.self.view_is) (λ first last numbered all some most. subst (λ xs. AreCounted (row_at (seen xs) c.args.r)) (sym same) all)

pub returns-in_err-reserve-clause-others : goal.returns-in_err-reserve-clause-others
returns-in_err-reserve-clause-others g c =
    let s = c.self.inside in
    let p0 = s.pools in
    let p = c.reserve.new.pools in
    let rows = s.rows.items in
    let same = reserved_rows p0 p rows s.retired s.waiting s.filled c.self.invariant c.reserve.ensures.kept in
    rw (← c.self.view_is) (left_others (seen_rows p0 rows) (seen_rows p rows) c.args.r s.waiting (rw (← c.self.view_is) at c.requires.row) same)

pub returns-in_err-reserve-clause-err : goal.returns-in_err-reserve-clause-err
returns-in_err-reserve-clause-err g c =
    let s = c.self.inside in
    let p0 = s.pools in
    let p = c.reserve.new.pools in
    let rows = s.rows.items in
    let same = reserved_rows p0 p rows s.retired s.waiting s.filled c.self.invariant c.reserve.ensures.kept in
    let seen : List (List ShownVersion) → StoreView = λ xs. record { rows = xs; waiting = s.waiting } in
    let fault = err_from_is_err_and c.from_residual.result c.from_residual.ensures.1 in
    rw fault.1 (ap seen same ∙ c.self.view_is)

pub version_for-requires-clause-stand : goal.version_for-requires-clause-stand
version_for-requires-clause-stand g c =
    let s = c.self.inside in
    let p0 = s.pools in
    let p = c.reserve.new.pools in
    let rows = s.rows.items in
    let r = c.args.r in
    let ways = use_ways c.args.uses.now in
    let b = row_before p0 p rows s.retired s.waiting s.filled r c.self.invariant c.reserve.ensures.kept (rw (← c.self.view_is) at c.requires.row) in
    λ row is. (b.has.versions, subst (λ x. IsRow p (Reference r) x b.has.versions) (some_same b.row row (sym b.is ∙ is)) b.has.stands)

pub invariant_of-self-in_err-slot : goal.invariant_of-self-in_err-slot
invariant_of-self-in_err-slot g c =
    let s = c.self.inside in
    let p0 = s.pools in
    let p = c.reserve.new.pools in
    let rows = s.rows.items in
    let fault = c.in_err-slot.ensures in
    left_store p c.version_for.new.pools rows c.version_for.new.rows.items fault.err fault.err_rows s.retired s.waiting s.filled
    (reserved_store p0 p rows s.retired s.waiting s.filled c.self.invariant c.reserve.ensures.kept)

pub returns-in_err-slot-clause-searched : goal.returns-in_err-slot-clause-searched
returns-in_err-slot-clause-searched g c =
    let s = c.self.inside in
    let p0 = s.pools in
    let p = c.reserve.new.pools in
    let rows = s.rows.items in
    let q = c.version_for.new.pools in
    let now = c.version_for.new.rows.items in
    let fault = c.in_err-slot.ensures in
    let same = left_rows p q rows now fault.err fault.err_rows (seen_rows p0 rows) (reserved_rows p0 p rows s.retired s.waiting s.filled c.self.invariant c.reserve.ensures.kept) in
    let seen : List (List ShownVersion) → StoreView = λ xs. record { rows = xs; waiting = s.waiting } in
    subst (λ xs. AreSearchedBy (use_ways c.args.uses.now) (row_at (seen xs) c.args.r)) (sym same) (rw (← c.self.view_is) at c.requires.searched)

pub returns-in_err-slot-clause-counted : goal.returns-in_err-slot-clause-counted
returns-in_err-slot-clause-counted g c =
    let s = c.self.inside in
    let p0 = s.pools in
    let p = c.reserve.new.pools in
    let rows = s.rows.items in
    let q = c.version_for.new.pools in
    let now = c.version_for.new.rows.items in
    let fault = c.in_err-slot.ensures in
    let same = left_rows p q rows now fault.err fault.err_rows (seen_rows p0 rows) (reserved_rows p0 p rows s.retired s.waiting s.filled c.self.invariant c.reserve.ensures.kept) in
    let seen : List (List ShownVersion) → StoreView = λ xs. record { rows = xs; waiting = s.waiting } in
    rw (← c.self.view_is) (λ first last numbered all some most. subst (λ xs. AreCounted (row_at (seen xs) c.args.r)) (sym same) all)

pub returns-in_err-slot-clause-others : goal.returns-in_err-slot-clause-others
returns-in_err-slot-clause-others g c =
    let s = c.self.inside in
    let p0 = s.pools in
    let p = c.reserve.new.pools in
    let rows = s.rows.items in
    let q = c.version_for.new.pools in
    let now = c.version_for.new.rows.items in
    let fault = c.in_err-slot.ensures in
    let same = left_rows p q rows now fault.err fault.err_rows (seen_rows p0 rows) (reserved_rows p0 p rows s.retired s.waiting s.filled c.self.invariant c.reserve.ensures.kept) in
    rw (← c.self.view_is) (left_others (seen_rows p0 rows) (seen_rows q now) c.args.r s.waiting (rw (← c.self.view_is) at c.requires.row) same)

pub returns-in_err-slot-clause-err : goal.returns-in_err-slot-clause-err
returns-in_err-slot-clause-err g c =
    let s = c.self.inside in
    let p0 = s.pools in
    let p = c.reserve.new.pools in
    let rows = s.rows.items in
    let q = c.version_for.new.pools in
    let now = c.version_for.new.rows.items in
    let fault = c.in_err-slot.ensures in
    let same = left_rows p q rows now fault.err fault.err_rows (seen_rows p0 rows) (reserved_rows p0 p rows s.retired s.waiting s.filled c.self.invariant c.reserve.ensures.kept) in
    let seen : List (List ShownVersion) → StoreView = λ xs. record { rows = xs; waiting = s.waiting } in
    let gives = err_from_is_err_and c.from_residual-in_err-slot.result c.from_residual-in_err-slot.ensures.1 in
    rw gives.1 (ap seen same ∙ c.self.view_is)

pub append_in-filled-requires : goal.append_in-filled-requires
append_in-filled-requires g c =
    let s = c.self.inside in
    let p0 = s.pools in
    let p = c.reserve.new.pools in
    let rows = s.rows.items in
    let r = c.args.r in
    let ways = use_ways c.args.uses.now in
    let b = row_before p0 p rows s.retired s.waiting s.filled r c.self.invariant c.reserve.ensures.kept (rw (← c.self.view_is) at c.requires.row) in
    let q = c.version_for.new.pools in
    let v = c.in_ok-slot.ensures.ok b.row b.has.versions b.is b.has.stands (subst (AreSearchedBy ways) b.seen (rw (← c.self.view_is) at c.requires.searched)) in
    let f = v.has in
    let items = c.args.added.entries.items in
    let count : c.len.result ≡ length items = omega (arith, c.len.ensures, c.args.added.entries.ok.0) in
    let room = c.in_ok-reserve.ensures.room in
    let ready = subst (λ ws. AreReadyFor ws items) (sym f.ways_are) c.requires.ready in
    let numbers = rw (← c.self.view_is) at c.requires.numbered in
    let few = (rw (← c.self.view_is) at c.requires.few) numbers.0 numbers.1 numbers.2 in (
      Reference r,
      v.row,
      f.before,
      f.version,
      f.after,
      f.here,
      f.stands,
      ready,
      few_placed p q rows r b.row v.row c.in_ok-slot.slot c.args.number ways b.has f (length items) numbers.0 numbers.1 (subst (AreNumbered numbers.0 numbers.1) b.seen numbers.2)
          (subst (λ vs. length (version_numbered c.args.number vs).entries + length items < 2 ^ 32) b.seen few),
      entries_spare p q rows r b.row v.row c.in_ok-slot.slot c.args.number ways b.has f (length items) (omega (arith, count, room.entries_spare)),
      nodes_spare p q rows r b.row v.row c.in_ok-slot.slot c.args.number ways b.has f (length items) (length c.args.uses.now) (sym (length-map c.args.uses.now use_way))
          (subst (λ k. k * length c.args.uses.now ≤ p.nodes.spare) count room.nodes_spare),
    )

pub invariant_of-self-2 : goal.invariant_of-self-2
invariant_of-self-2 g c =
    let s = c.self.inside in
    let p0 = s.pools in
    let p = c.reserve.new.pools in
    let rows = s.rows.items in
    let r = c.args.r in
    let ways = use_ways c.args.uses.now in
    let b = row_before p0 p rows s.retired s.waiting s.filled r c.self.invariant c.reserve.ensures.kept (rw (← c.self.view_is) at c.requires.row) in
    let q = c.version_for.new.pools in
    let v = c.in_ok-slot.ensures.ok b.row b.has.versions b.is b.has.stands (subst (AreSearchedBy ways) b.seen (rw (← c.self.view_is) at c.requires.searched)) in
    let f = v.has in
    let items = c.args.added.entries.items in
    let count : c.len.result ≡ length items = omega (arith, c.len.ensures, c.args.added.entries.ok.0) in
    let room = c.in_ok-reserve.ensures.room in
    let ready = subst (λ ws. AreReadyFor ws items) (sym f.ways_are) c.requires.ready in
    let a = c.append_in-filled.ensures.appends (Reference r) v.row f.before f.version f.after f.here f.stands ready in
    let d = appends_to p q rows r b.row v.row c.in_ok-slot.slot c.args.number ways b.has f c.append_in-filled.new.pools c.append_in-filled.result c.args.added.serial (added_entries items) a c.version_for.new.rows.items v.rows_are s.retired s.waiting s.filled c.more-self-inside.result
    (reserved_store p0 p rows s.retired s.waiting s.filled c.self.invariant c.reserve.ensures.kept) b.is p0 (reserved_rows p0 p rows s.retired s.waiting s.filled c.self.invariant c.reserve.ensures.kept) b.seen
    c.len.result (length c.args.uses.now) (count ∙ sym (length-map items added_entry)) (sym (length-map c.args.uses.now use_way)) room c.more-self-inside.ensures.more c.more-self-inside.ensures.same in
    d.stands

pub returns-clause-ok : goal.returns-clause-ok
returns-clause-ok g c =
    let s = c.self.inside in
    let p0 = s.pools in
    let p = c.reserve.new.pools in
    let rows = s.rows.items in
    let r = c.args.r in
    let ways = use_ways c.args.uses.now in
    let b = row_before p0 p rows s.retired s.waiting s.filled r c.self.invariant c.reserve.ensures.kept (rw (← c.self.view_is) at c.requires.row) in
    let q = c.version_for.new.pools in
    let v = c.in_ok-slot.ensures.ok b.row b.has.versions b.is b.has.stands (subst (AreSearchedBy ways) b.seen (rw (← c.self.view_is) at c.requires.searched)) in
    let f = v.has in
    let items = c.args.added.entries.items in
    let count : c.len.result ≡ length items = omega (arith, c.len.ensures, c.args.added.entries.ok.0) in
    let room = c.in_ok-reserve.ensures.room in
    let ready = subst (λ ws. AreReadyFor ws items) (sym f.ways_are) c.requires.ready in
    let a = c.append_in-filled.ensures.appends (Reference r) v.row f.before f.version f.after f.here f.stands ready in
    let d = appends_to p q rows r b.row v.row c.in_ok-slot.slot c.args.number ways b.has f c.append_in-filled.new.pools c.append_in-filled.result c.args.added.serial (added_entries items) a c.version_for.new.rows.items v.rows_are s.retired s.waiting s.filled c.more-self-inside.result
    (reserved_store p0 p rows s.retired s.waiting s.filled c.self.invariant c.reserve.ensures.kept) b.is p0 (reserved_rows p0 p rows s.retired s.waiting s.filled c.self.invariant c.reserve.ensures.kept) b.seen
    c.len.result (length c.args.uses.now) (count ∙ sym (length-map items added_entry)) (sym (length-map c.args.uses.now use_way)) room c.more-self-inside.ensures.more c.more-self-inside.ensures.same in
    rw (← c.self.view_is) d.changes

pub returns-clause-searched : goal.returns-clause-searched
returns-clause-searched g c =
    let s = c.self.inside in
    let p0 = s.pools in
    let p = c.reserve.new.pools in
    let rows = s.rows.items in
    let r = c.args.r in
    let ways = use_ways c.args.uses.now in
    let b = row_before p0 p rows s.retired s.waiting s.filled r c.self.invariant c.reserve.ensures.kept (rw (← c.self.view_is) at c.requires.row) in
    let q = c.version_for.new.pools in
    let v = c.in_ok-slot.ensures.ok b.row b.has.versions b.is b.has.stands (subst (AreSearchedBy ways) b.seen (rw (← c.self.view_is) at c.requires.searched)) in
    let f = v.has in
    let items = c.args.added.entries.items in
    let count : c.len.result ≡ length items = omega (arith, c.len.ensures, c.args.added.entries.ok.0) in
    let room = c.in_ok-reserve.ensures.room in
    let ready = subst (λ ws. AreReadyFor ws items) (sym f.ways_are) c.requires.ready in
    let a = c.append_in-filled.ensures.appends (Reference r) v.row f.before f.version f.after f.here f.stands ready in
    let d = appends_to p q rows r b.row v.row c.in_ok-slot.slot c.args.number ways b.has f c.append_in-filled.new.pools c.append_in-filled.result c.args.added.serial (added_entries items) a c.version_for.new.rows.items v.rows_are s.retired s.waiting s.filled c.more-self-inside.result
    (reserved_store p0 p rows s.retired s.waiting s.filled c.self.invariant c.reserve.ensures.kept) b.is p0 (reserved_rows p0 p rows s.retired s.waiting s.filled c.self.invariant c.reserve.ensures.kept) b.seen
    c.len.result (length c.args.uses.now) (count ∙ sym (length-map items added_entry)) (sym (length-map c.args.uses.now use_way)) room c.more-self-inside.ensures.more c.more-self-inside.ensures.same in
    d.searched (rw (← c.self.view_is) at c.requires.searched)

pub returns-clause-counted : goal.returns-clause-counted
returns-clause-counted g c =
    let s = c.self.inside in
    let p0 = s.pools in
    let p = c.reserve.new.pools in
    let rows = s.rows.items in
    let r = c.args.r in
    let ways = use_ways c.args.uses.now in
    let b = row_before p0 p rows s.retired s.waiting s.filled r c.self.invariant c.reserve.ensures.kept (rw (← c.self.view_is) at c.requires.row) in
    let q = c.version_for.new.pools in
    let v = c.in_ok-slot.ensures.ok b.row b.has.versions b.is b.has.stands (subst (AreSearchedBy ways) b.seen (rw (← c.self.view_is) at c.requires.searched)) in
    let f = v.has in
    let items = c.args.added.entries.items in
    let count : c.len.result ≡ length items = omega (arith, c.len.ensures, c.args.added.entries.ok.0) in
    let room = c.in_ok-reserve.ensures.room in
    let ready = subst (λ ws. AreReadyFor ws items) (sym f.ways_are) c.requires.ready in
    let a = c.append_in-filled.ensures.appends (Reference r) v.row f.before f.version f.after f.here f.stands ready in
    let d = appends_to p q rows r b.row v.row c.in_ok-slot.slot c.args.number ways b.has f c.append_in-filled.new.pools c.append_in-filled.result c.args.added.serial (added_entries items) a c.version_for.new.rows.items v.rows_are s.retired s.waiting s.filled c.more-self-inside.result
    (reserved_store p0 p rows s.retired s.waiting s.filled c.self.invariant c.reserve.ensures.kept) b.is p0 (reserved_rows p0 p rows s.retired s.waiting s.filled c.self.invariant c.reserve.ensures.kept) b.seen
    c.len.result (length c.args.uses.now) (count ∙ sym (length-map items added_entry)) (sym (length-map c.args.uses.now use_way)) room c.more-self-inside.ensures.more c.more-self-inside.ensures.same in
    rw (← c.self.view_is) (λ first last numbered all some most. d.counted first last numbered all some (subst (λ k. length (version_numbered c.args.number (row_at (record { rows = seen_rows p0 rows; waiting = s.waiting }) r)).entries + k ≤ c.args.added.serial) (sym (length-map items added_entry)) most))

pub returns-clause-others : goal.returns-clause-others
returns-clause-others g c =
    let s = c.self.inside in
    let p0 = s.pools in
    let p = c.reserve.new.pools in
    let rows = s.rows.items in
    let r = c.args.r in
    let ways = use_ways c.args.uses.now in
    let b = row_before p0 p rows s.retired s.waiting s.filled r c.self.invariant c.reserve.ensures.kept (rw (← c.self.view_is) at c.requires.row) in
    let q = c.version_for.new.pools in
    let v = c.in_ok-slot.ensures.ok b.row b.has.versions b.is b.has.stands (subst (AreSearchedBy ways) b.seen (rw (← c.self.view_is) at c.requires.searched)) in
    let f = v.has in
    let items = c.args.added.entries.items in
    let count : c.len.result ≡ length items = omega (arith, c.len.ensures, c.args.added.entries.ok.0) in
    let room = c.in_ok-reserve.ensures.room in
    let ready = subst (λ ws. AreReadyFor ws items) (sym f.ways_are) c.requires.ready in
    let a = c.append_in-filled.ensures.appends (Reference r) v.row f.before f.version f.after f.here f.stands ready in
    let d = appends_to p q rows r b.row v.row c.in_ok-slot.slot c.args.number ways b.has f c.append_in-filled.new.pools c.append_in-filled.result c.args.added.serial (added_entries items) a c.version_for.new.rows.items v.rows_are s.retired s.waiting s.filled c.more-self-inside.result
    (reserved_store p0 p rows s.retired s.waiting s.filled c.self.invariant c.reserve.ensures.kept) b.is p0 (reserved_rows p0 p rows s.retired s.waiting s.filled c.self.invariant c.reserve.ensures.kept) b.seen
    c.len.result (length c.args.uses.now) (count ∙ sym (length-map items added_entry)) (sym (length-map c.args.uses.now use_way)) room c.more-self-inside.ensures.more c.more-self-inside.ensures.same in
    rw (← c.self.view_is) d.others
