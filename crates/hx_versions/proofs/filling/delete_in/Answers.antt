use Rattle.std.proofs.Common.{◌≡◌, length, Some, refl, sym, ap, ◌∙◌, arith}
use Rattle.std.proofs.lemmas.List.{length-map}
use Rattle.hx_pool.specs.Pool.{get}
use Rattle.hx_versions.specs.declared.stored_version.StoredVersion.{StoredVersion}
use Rattle.hx_versions.specs.Contents.{ways_of, without_chosen_entries}
use Rattle.hx_versions.specs.Versions.{is_chosen}
use Rattle.hx_versions.proofs.ChangingLemmas.{changes_at, content_at, emptied_is, fewer_by_counts, live_by_counts, version_at}
use Rattle.hx_versions.proofs.IndexListLemmas.{way_of}
use Rattle.hx_versions.proofs.MovingLemmas.{set_live}
use Rattle.hx_versions.proofs.TidyLemmas.{updates_on}
use Rattle.hx_versions.proofs.filling.delete_in.Goals as goal

pub take_content-content-requires : goal.take_content-content-requires
take_content-content-requires g c =
    let r = c.requires in
    let p = c.args.pools.now in
    let at = version_at r.0 p r.1 r.2 r.3 r.4 c.args.slot r.5 r.6 in
    set_live (get p.versions c.args.slot) at.0 at.1

pub delete_chosen-requires : goal.delete_chosen-requires
delete_chosen-requires g c =
    let r = c.requires in
    let p = c.args.pools.now in
    let at = version_at r.0 p r.1 r.2 r.3 r.4 c.args.slot r.5 r.6 in
    let t = c.take_content-content.ensures.taken at.0 at.1 in
    (c.args.slot, r.3.placed, content_at r.0 p r.1 r.2 r.3 r.4 c.args.slot r.5 r.6 c.take_content-content.result t.0)

pub put_content-requires : goal.put_content-requires
put_content-requires g c =
    let r = c.requires in
    let p = c.args.pools.now in
    let at = version_at r.0 p r.1 r.2 r.3 r.4 c.args.slot r.5 r.6 in
    let t = c.take_content-content.ensures.taken at.0 at.1 in
    set_live (get c.take_content-content.new.versions c.args.slot) (record at.0 { content = t.1 }) t.2.changed

pub returns-clause-changes : goal.returns-clause-changes
returns-clause-changes g c owner row before v after here h =
    let p = c.args.pools.now in
    let slot = c.args.slot in
    let step = c.delete_chosen in
    let put = c.put_content in
    let at = version_at owner p row before v after slot here h in
    let t = c.take_content-content.ensures.taken at.0 at.1 in
    let stands = content_at owner p row before v after slot here h c.take_content-content.result t.0 in
    let left = without_chosen_entries (is_chosen c.args.choice.now) v.placed in
    let now = step.ensures.content slot v.placed stands in
    let s' : StoredVersion = record at.0 { content = step.new.self } in
    let updates = updates_on p.versions c.take_content-content.new.versions put.new.versions slot (Some (record at.0 { content = t.1 })) (Some s') t.2 (put.ensures.put (record at.0 { content = t.1 }) t.2.changed) in
    let first : c.take_content-content.result ≡ v.content = t.0 ∙ at.5 in
    let ways = step.ensures.ways ∙ ap (λ (x : _). ways_of x.indexes.items) first in
    let many : length (ways_of v.content.indexes.items) ≡ length c.take_content-content.result.indexes.items =
    sym (ap (λ (x : _). length (ways_of x.indexes.items)) first) ∙ length-map c.take_content-content.result.indexes.items way_of in
    let live = live_by_counts _ _ _ _ c.take_content-content.result.count step.new.self.count (length c.take_content-content.result.indexes.items) step.ensures.live_entries step.ensures.live_nodes in
    changes_at owner p row before v after slot here h (record { entries = step.new.entries; versions = put.new.versions; nodes = step.new.nodes }) s' step.new.self v.serial left updates (step.ensures.others slot v.placed stands) refl refl refl at.4 refl now ways
    (rw (many, sym stands.count, sym now.count) live)

pub returns-clause-fewer : goal.returns-clause-fewer
returns-clause-fewer g c = record {
  versions = omega (arith, c.take_content-content.ensures.live, c.put_content.ensures.live);
  spare = omega (arith, c.take_content-content.ensures.spare, c.put_content.ensures.spare);
  entries = omega (arith, c.delete_chosen.ensures.live_entries, c.delete_chosen.ensures.count);
  nodes = fewer_by_counts _ _ c.take_content-content.result.count c.delete_chosen.new.self.count (length c.take_content-content.result.indexes.items) c.delete_chosen.ensures.count c.delete_chosen.ensures.live_nodes;
}

pub returns-clause-emptied : goal.returns-clause-emptied
returns-clause-emptied g c v owner row before after here h =
    let at = version_at owner c.args.pools.now row before v after c.args.slot here h in
    let t = c.take_content-content.ensures.taken at.0 at.1 in
    let stands = content_at owner c.args.pools.now row before v after c.args.slot here h c.take_content-content.result t.0 in
    let now = c.delete_chosen.ensures.content c.args.slot v.placed stands in
    c.has_emptied-emptied.ensures
    ∙ emptied_is v.placed (without_chosen_entries (is_chosen c.args.choice.now) v.placed) c.take_content-content.result.count c.delete_chosen.new.self.count stands.count now.count
