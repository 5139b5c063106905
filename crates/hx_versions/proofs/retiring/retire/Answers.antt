use Rattle.std.proofs.Common.{◌≡◌, ◌++◌, Option, Some, None, IsSome, refl, sym, ap, subst, ◌∙◌}
use Rattle.hx_pool.specs.Pool.{get, IsLive}
use Rattle.hx_pool.proofs.LyingLemmas.{relinked_live}
use Rattle.hx_versions.specs.declared.stored_version.Owner.TheVariants.{Retired}
use Rattle.hx_versions.specs.StoredVersions.{IsSameStoredVersion}
use Rattle.hx_versions.proofs.MovingLemmas.{gone_off, live_value, moves, row_apart, row_still, set_live, still_there, waits_still}
use Rattle.hx_versions.proofs.retiring.retire.Goals as goal

pub unlink-requires : goal.unlink-requires
unlink-requires g c = (c.requires.lies.0, c.requires.lies.1, c.requires.lies.3)

pub set_retired-requires : goal.set_retired-requires
set_retired-requires g c =
    relinked_live IsSameStoredVersion c.args.versions.now c.unlink.new.pool c.args.slot c.unlink.ensures.values c.requires.live

pub push_back-requires-clause-live : goal.push_back-requires-clause-live
push_back-requires-clause-live g c =
    let live = relinked_live IsSameStoredVersion c.args.versions.now c.unlink.new.pool c.args.slot c.unlink.ensures.values c.requires.live in
    let value = live_value (get c.unlink.new.pool c.args.slot) live in
    set_live (get c.set_retired.new.versions c.args.slot) (record value.0 { owner = Retired }) (c.set_retired.ensures.set value.0 value.1).changed

pub push_back-requires-clause-lies : goal.push_back-requires-clause-lies
push_back-requires-clause-lies g c =
    let r = c.requires.lies in
    let p0 = c.args.versions.now in
    let p1 = c.unlink.new.pool in
    let p2 = c.set_retired.new.versions in
    let live = relinked_live IsSameStoredVersion p0 p1 c.args.slot c.unlink.ensures.values c.requires.live in
    let value = live_value (get p0 c.args.slot) c.requires.live in
    let unlinked = c.unlink.ensures.lies r.0 r.1 r.3 in
    let others = c.unlink.ensures.others r.0 r.1 r.3 in
    let wait1 = c.unlink.ensures.apart r.0 r.1 r.2 c.args.retired.now r.3 r.5 r.4 in
    let here = still_there p0 p1 p2 p2 c.args.row.now c.unlink.new.self c.args.retired.now c.args.retired.now c.args.slot value.0 r.0 r.1 r.2 value.1 r.3 r.4 r.5 unlinked c.unlink.ensures.values others wait1 in (
      r.2,
      waits_still p0 p1 p2 p2 c.args.row.now c.unlink.new.self c.args.retired.now c.args.retired.now c.args.slot value.0 r.0 r.1 r.2 value.1 r.3 r.4 r.5 unlinked c.unlink.ensures.values others wait1
          (record value.0 { owner = Retired }) (c.set_retired.ensures.set value.0 here),
      gone_off p0 p1 p2 p2 c.args.row.now c.unlink.new.self c.args.retired.now c.args.retired.now c.args.slot value.0 r.0 r.1 r.2 value.1 r.3 r.4 r.5 unlinked c.unlink.ensures.values others wait1,
    )

pub returns-clause-moved : goal.returns-clause-moved
returns-clause-moved g c xs ys gone stored is lies wait apart =
    let p0 = c.args.versions.now in
    let p1 = c.unlink.new.pool in
    let p2 = c.set_retired.new.versions in
    let p3 = c.push_back.new.pool in
    let unlinked = c.unlink.ensures.lies xs ys lies in
    let others = c.unlink.ensures.others xs ys lies in
    let wait1 = c.unlink.ensures.apart xs ys gone c.args.retired.now lies apart wait in
    let row1 = c.unlink.new.self in
    let here = still_there p0 p1 p2 p3 c.args.row.now row1 c.args.retired.now c.push_back.new.self c.args.slot stored xs ys gone is lies wait apart unlinked c.unlink.ensures.values others wait1 in
    let set = c.set_retired.ensures.set stored here in
    let waits = waits_still p0 p1 p2 p3 c.args.row.now row1 c.args.retired.now c.push_back.new.self c.args.slot stored xs ys gone is lies wait apart unlinked c.unlink.ensures.values others wait1 (record stored { owner = Retired }) set in
    let off = gone_off p0 p1 p2 p3 c.args.row.now row1 c.args.retired.now c.push_back.new.self c.args.slot stored xs ys gone is lies wait apart unlinked c.unlink.ensures.values others wait1 in
    let row2 = row_still p0 p1 p2 p3 c.args.row.now row1 c.args.retired.now c.push_back.new.self c.args.slot stored xs ys gone is lies wait apart unlinked c.unlink.ensures.values others wait1 (record stored { owner = Retired }) set in
    let separate = row_apart p0 p1 p2 p3 c.args.row.now row1 c.args.retired.now c.push_back.new.self c.args.slot stored xs ys gone is lies wait apart unlinked c.unlink.ensures.values others wait1 (record stored { owner = Retired }) set in
    moves p0 p1 p2 p3 c.args.row.now row1 c.args.retired.now c.push_back.new.self c.args.slot stored xs ys gone is lies wait apart unlinked c.unlink.ensures.values others wait1 (record stored { owner = Retired }) set refl
    (c.push_back.ensures.apart gone (xs ++ ys) row1 waits separate row2)
    (c.push_back.ensures.lies gone waits off)
    c.push_back.ensures.values
    (c.push_back.ensures.others gone waits)
