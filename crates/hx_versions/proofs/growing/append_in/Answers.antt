use Rattle.std.proofs.Common.{◌≡◌, ◌+◌, ◌*◌, ◌≤◌, ◌++◌, length, Some, refl, sym, ap, subst, ◌∙◌, arith, length-append}
use Rattle.std.proofs.lemmas.List.{length-map, map-append}
use Rattle.hx_pool.specs.Pool.{get, live_count}
use Rattle.hx_versions.specs.declared.content.Content.{Content}
use Rattle.hx_versions.specs.declared.stored_version.StoredVersion.{StoredVersion}
use Rattle.hx_versions.specs.Contents.{PlacedEntry, entries_of, ways_of}
use Rattle.hx_versions.specs.NewEntries.{AreReadyFor, added_entry}
use Rattle.hx_versions.proofs.ChangingLemmas.{changes_at, content_at, emptied_is, live_by_counts, version_at}
use Rattle.hx_versions.proofs.GrowingLemmas.{grown_nodes}
use Rattle.hx_versions.proofs.IndexListLemmas.{way_of}
use Rattle.hx_versions.proofs.MovingLemmas.{set_live}
use Rattle.hx_versions.proofs.TidyLemmas.{updates_on}
use Rattle.hx_versions.proofs.growing.append_in.Goals as goal

pub take_content-content-requires : goal.take_content-content-requires
take_content-content-requires g c =
    let r = c.requires in
    let p = c.args.pools.now in
    let at = version_at r.0 p r.1 r.2 r.3 r.4 c.args.slot r.5 r.6 in
    set_live (get p.versions c.args.slot) at.0 at.1

pub append_each-requires-clause-count : goal.append_each-requires-clause-count
append_each-requires-clause-count g c =
    let r = c.requires in
    let p = c.args.pools.now in
    let at = version_at r.0 p r.1 r.2 r.3 r.4 c.args.slot r.5 r.6 in
    let t = c.take_content-content.ensures.taken at.0 at.1 in
    let stands = content_at r.0 p r.1 r.2 r.3 r.4 c.args.slot r.5 r.6 c.take_content-content.result t.0 in
    omega (arith, stands.count, r.8)

pub append_each-requires-clause-slots : goal.append_each-requires-clause-slots
append_each-requires-clause-slots g c = c.requires.9

pub append_each-requires-clause-nodes : goal.append_each-requires-clause-nodes
append_each-requires-clause-nodes g c =
    let r = c.requires in
    let p = c.args.pools.now in
    let at = version_at r.0 p r.1 r.2 r.3 r.4 c.args.slot r.5 r.6 in
    let t = c.take_content-content.ensures.taken at.0 at.1 in
    let content_is : c.take_content-content.result ≡ r.3.content = t.0 ∙ at.5 in
    let many : length (ways_of r.3.content.indexes.items) ≡ length c.take_content-content.result.indexes.items =
    sym (ap (λ (x : Content). length (ways_of x.indexes.items)) content_is) ∙ length-map c.take_content-content.result.indexes.items way_of in
    subst (λ k. length c.args.added.items * k ≤ p.nodes.spare) many r.10

pub append_each-requires-clause-ready : goal.append_each-requires-clause-ready
append_each-requires-clause-ready g c =
    let r = c.requires in
    let p = c.args.pools.now in
    let at = version_at r.0 p r.1 r.2 r.3 r.4 c.args.slot r.5 r.6 in
    let t = c.take_content-content.ensures.taken at.0 at.1 in
    let content_is : c.take_content-content.result ≡ r.3.content = t.0 ∙ at.5 in
    subst (λ (x : Content). AreReadyFor (ways_of x.indexes.items) c.args.added.items) (sym content_is) r.7

pub append_each-requires-clause-content : goal.append_each-requires-clause-content
append_each-requires-clause-content g c =
    let r = c.requires in
    let p = c.args.pools.now in
    let at = version_at r.0 p r.1 r.2 r.3 r.4 c.args.slot r.5 r.6 in
    let t = c.take_content-content.ensures.taken at.0 at.1 in
    (r.3.placed, content_at r.0 p r.1 r.2 r.3 r.4 c.args.slot r.5 r.6 c.take_content-content.result t.0)

pub put_content-requires : goal.put_content-requires
put_content-requires g c =
    let r = c.requires in
    let p = c.args.pools.now in
    let at = version_at r.0 p r.1 r.2 r.3 r.4 c.args.slot r.5 r.6 in
    let t = c.take_content-content.ensures.taken at.0 at.1 in
    set_live (get c.take_content-content.new.versions c.args.slot) (record at.0 { content = t.1 }) t.2.changed

pub put_serial-requires : goal.put_serial-requires
put_serial-requires g c =
    let r = c.requires in
    let p = c.args.pools.now in
    let at = version_at r.0 p r.1 r.2 r.3 r.4 c.args.slot r.5 r.6 in
    let t = c.take_content-content.ensures.taken at.0 at.1 in
    let put = c.put_content.ensures.put (record at.0 { content = t.1 }) t.2.changed in
    set_live (get c.put_content.new.versions c.args.slot) (record at.0 { content = c.append_each.new.self }) put.changed

pub returns : goal.returns
returns g c = record {
  appends = λ owner row before v after here h ready.
      let p = c.args.pools.now in
      let slot = c.args.slot in
      let taken = c.take_content-content in
      let step = c.append_each in
      let put = c.put_content in
      let last = c.put_serial in
      let at = version_at owner p row before v after slot here h in
      let t = taken.ensures.taken at.0 at.1 in
      let stands = content_at owner p row before v after slot here h taken.result t.0 in
      let more = step.ensures.content v.placed stands in
      let placed = v.placed ++ more.0 in
      let s1 : StoredVersion = record at.0 { content = t.1 } in
      let s2 : StoredVersion = record at.0 { content = step.new.self } in
      let s3 : StoredVersion = record at.0 { serial = c.args.serial; content = step.new.self } in
      let put_at = updates_on p.versions taken.new.versions put.new.versions slot (Some s1) (Some s2) t.2 (put.ensures.put s1 t.2.changed) in
      let updates = updates_on p.versions put.new.versions last.new.versions slot (Some s2) (Some s3) put_at (last.ensures.put s2 put_at.changed) in
      let content_is : taken.result ≡ v.content = t.0 ∙ at.5 in
      let ways = step.ensures.ways ∙ ap (λ (x : Content). ways_of x.indexes.items) content_is in
      let wide : length taken.result.indexes.items ≡ length (ways_of v.content.indexes.items) =
      sym (length-map taken.result.indexes.items way_of) ∙ ap (λ (x : Content). length (ways_of x.indexes.items)) content_is in
      let entry = λ (x : PlacedEntry). x.entry in
      let many : length more.0 ≡ length c.args.added.items = sym (length-map more.0 entry) ∙ ap length more.1 ∙ length-map c.args.added.items added_entry in
      let whole : length placed ≡ length v.placed + length c.args.added.items = omega (arith, length-append v.placed more.0, many) in
      let nodes : live_count step.new.nodes ≡ live_count p.nodes + length c.args.added.items * length (ways_of v.content.indexes.items) =
      step.ensures.live_nodes ∙ ap (λ k. live_count p.nodes + length c.args.added.items * k) wide in
      record {
        placed = placed;
        entries_are = map-append entry v.placed more.0 ∙ ap (λ es. entries_of v.placed ++ es) more.1;
        changes =
            changes_at owner p row before v after slot here h (record { entries = step.new.entries; versions = last.new.versions; nodes = step.new.nodes }) s3 step.new.self c.args.serial placed updates step.ensures.others refl refl refl refl refl more.2 ways
            (live_by_counts (live_count p.entries) (live_count p.nodes) (live_count step.new.entries) (live_count step.new.nodes) (length v.placed) (length placed) (length (ways_of v.content.indexes.items)) (omega (arith, step.ensures.live_entries, whole)) (grown_nodes (live_count p.nodes) (live_count step.new.nodes) (length v.placed) (length c.args.added.items) (length placed) (length (ways_of v.content.indexes.items)) whole nodes));
        filled_is = c.has_filled-filled.ensures ∙ emptied_is placed v.placed step.new.self.count taken.result.count more.2.count stands.count;
        versions = omega (arith, taken.ensures.live, put.ensures.live, last.ensures.live);
        spare = omega (arith, taken.ensures.spare, put.ensures.spare, last.ensures.spare);
        entries = omega (arith, step.ensures.live_entries, length-map c.args.added.items added_entry);
        nodes = nodes ∙ ap (λ k. live_count p.nodes + k * length (ways_of v.content.indexes.items)) (sym (length-map c.args.added.items added_entry));
      };
}
