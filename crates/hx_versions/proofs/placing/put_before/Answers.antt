use Rattle.std.proofs.Common.{◌≡◌, ◌∷◌, ◌++◌, Some, refl, sym, ap, subst, ◌∙◌}
use Rattle.hx_pool.specs.Pool.{get}
use Rattle.hx_pool.proofs.LyingLemmas.{free_off, lies_updated}
use Rattle.hx_versions.specs.StoredVersions.{version_links}
use Rattle.hx_versions.proofs.MovingLemmas.{set_live}
use Rattle.hx_versions.proofs.PlacingLemmas.{puts}
use Rattle.hx_versions.proofs.placing.put_before.Goals as goal

pub insert_before-requires-clause-live : goal.insert_before-requires-clause-live
insert_before-requires-clause-live g c =
    set_live (get c.take-slot.new.self c.take-slot.result) c.args.version c.take-slot.ensures.updates.changed

pub insert_before-requires-clause-lies : goal.insert_before-requires-clause-lies
insert_before-requires-clause-lies g c =
    let r = c.requires.lies in
    let p0 = c.args.versions.now in
    let p1 = c.take-slot.new.self in
    let slot = c.take-slot.result in
    let list = r.0 ++ c.args.at ∷ r.1 in
    let off = free_off version_links p0 c.args.row.now list slot r.2 c.take-slot.ensures.was_free in
    (r.0, r.1, lies_updated version_links p0 p1 c.args.row.now list slot (Some c.args.version) r.2 off c.take-slot.ensures.updates, off)

pub returns-clause-puts : goal.returns-clause-puts
returns-clause-puts g c xs ys lies =
    let p0 = c.args.versions.now in
    let p1 = c.take-slot.new.self in
    let slot = c.take-slot.result in
    let list = xs ++ c.args.at ∷ ys in
    let off = free_off version_links p0 c.args.row.now list slot lies c.take-slot.ensures.was_free in
    let still = lies_updated version_links p0 p1 c.args.row.now list slot (Some c.args.version) lies off c.take-slot.ensures.updates in
    let put = c.insert_before in
    puts p0 p1 put.new.pool put.new.self slot c.args.version xs (c.args.at ∷ ys) c.take-slot.ensures.was_free c.take-slot.ensures.updates
    (put.ensures.lies xs ys still off) put.ensures.values (put.ensures.others xs ys still)
