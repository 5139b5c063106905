use Rattle.std.proofs.Common.{◌≡◌, [], ◌∷◌, ◌++◌, Some, IsSome, refl, sym, ap, subst, ◌∙◌, append-nil}
use Rattle.hx_pool.specs.Chain.{IsIn}
use Rattle.hx_pool.specs.Pool.{get}
use Rattle.hx_pool.proofs.LyingLemmas.{free_off, lies_updated}
use Rattle.hx_versions.specs.StoredVersions.{version_links}
use Rattle.hx_versions.proofs.MovingLemmas.{set_live}
use Rattle.hx_versions.proofs.PlacingLemmas.{puts}
use Rattle.hx_versions.proofs.placing.put_last.Goals as goal

pub push_back-requires-clause-live : goal.push_back-requires-clause-live
push_back-requires-clause-live g c =
    set_live (get c.take-slot.new.self c.take-slot.result) c.args.version c.take-slot.ensures.updates.changed

pub push_back-requires-clause-lies : goal.push_back-requires-clause-lies
push_back-requires-clause-lies g c =
    let r = c.requires.lies in
    let p0 = c.args.versions.now in
    let p1 = c.take-slot.new.self in
    let slot = c.take-slot.result in
    let off = free_off version_links p0 c.args.row.now r.0 slot r.1 c.take-slot.ensures.was_free in
    (r.0, lies_updated version_links p0 p1 c.args.row.now r.0 slot (Some c.args.version) r.1 off c.take-slot.ensures.updates, off)

pub returns-clause-puts : goal.returns-clause-puts
returns-clause-puts g c xs lies =
    let p0 = c.args.versions.now in
    let p1 = c.take-slot.new.self in
    let slot = c.take-slot.result in
    let off = free_off version_links p0 c.args.row.now xs slot lies c.take-slot.ensures.was_free in
    let still = lies_updated version_links p0 p1 c.args.row.now xs slot (Some c.args.version) lies off c.take-slot.ensures.updates in
    let put = c.push_back in
    puts p0 p1 put.new.pool put.new.self slot c.args.version xs [] c.take-slot.ensures.was_free c.take-slot.ensures.updates
    (put.ensures.lies xs still off) put.ensures.values (λ k away. put.ensures.others xs still k (λ there. away (subst (λ zs. IsIn k (slot ∷ zs)) (sym (append-nil xs)) there)))
