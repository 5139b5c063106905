use Rattle.std.proofs.Common.{◌∷◌, ◌++◌, None, ap, arith}
use Rattle.hx_versions.specs.declared.stored_version.StoredVersion.{StoredVersion}
use Rattle.hx_versions.specs.Contents.{ways_of}
use Rattle.hx_versions.specs.Store.{version_slots_of}
use Rattle.hx_versions.proofs.PlaceLemmas.{count_in, few_in, item_within, lies_in, live_in, number_read, owner_read, row_read, row_there_is, serial_read, slots_answered}
use Rattle.hx_versions.proofs.RetiringCallLemmas.{chains_put, clears, live_put, never_cleared}
use Rattle.hx_versions.proofs.retiring.clear_in.Goals as goal

pub get-version-requires : goal.get-version-requires
get-version-requires g c =
    let p = c.args.pools.now in
    let r = c.args.r in
    let slot = c.args.slot in
    let at = item_within c.args.rows.now.items r c.requires.r in
    let s = c.requires.stand at.0 at.1 in
    live_in p r at.0 s.0 s.1 s.2 slot s.3 s.4

pub slots_of_version-slots-requires-clause-live : goal.slots_of_version-slots-requires-clause-live
slots_of_version-slots-requires-clause-live g c =
    let p = c.args.pools.now in
    let r = c.args.r in
    let slot = c.args.slot in
    let at = item_within c.args.rows.now.items r c.requires.r in
    let s = c.requires.stand at.0 at.1 in
    live_in p r at.0 s.0 s.1 s.2 slot s.3 s.4

pub slots_of_version-slots-requires-clause-few : goal.slots_of_version-slots-requires-clause-few
slots_of_version-slots-requires-clause-few g c stored is =
    let p = c.args.pools.now in
    let r = c.args.r in
    let slot = c.args.slot in
    let at = item_within c.args.rows.now.items r c.requires.r in
    let s = c.requires.stand at.0 at.1 in
    few_in p r at.0 s.0 s.1 s.2 slot s.3 s.4 s.5 stored is

pub put_before-requires-clause-spare : goal.put_before-requires-clause-spare
put_before-requires-clause-spare g c =
    let p = c.args.pools.now in
    let r = c.args.r in
    let slot = c.args.slot in
    let at = item_within c.args.rows.now.items r c.requires.r in
    let s = c.requires.stand at.0 at.1 in
    s.6 (omega (arith, c.if-version-eq0.false, count_in p r at.0 s.0 s.1 s.2 slot s.3 s.4 c.get-version.result.now c.get-version.ensures.value))

pub put_before-requires-clause-lies : goal.put_before-requires-clause-lies
put_before-requires-clause-lies g c =
    let p = c.args.pools.now in
    let rows = c.args.rows.now.items in
    let r = c.args.r in
    let slot = c.args.slot in
    let row = c.index_mut-row.result.now in
    let there = row_read rows r row c.requires.r c.index_mut-row.ensures.value in
    let s = c.requires.stand row there in
    (version_slots_of s.0, version_slots_of s.2, lies_in p r row s.0 s.1 s.2 slot s.3 s.4)

pub retire-requires-clause-live : goal.retire-requires-clause-live
retire-requires-clause-live g c =
    let p = c.args.pools.now in
    let rows = c.args.rows.now.items in
    let r = c.args.r in
    let slot = c.args.slot in
    let row = c.index_mut-row.result.now in
    let there = row_read rows r row c.requires.r c.index_mut-row.ensures.value in
    let s = c.requires.stand row there in
    let version = c.get-version.result.now in
    let is = c.get-version.ensures.value in
    let put = c.put_before in
    let new : StoredVersion = record { owner = version.owner; number = version.number; serial = version.serial; content = c.empty_content.result; links = record { prev = None; next = None } } in
    let w = c.requires.wait in
    live_put p r row s.0 s.1 s.2 slot s.3 s.4 c.args.retired.now w.0 w.1 put.new.versions put.new.row put.result new put.ensures.puts (owner_read p r row s.0 s.1 s.2 slot s.3 s.4 version is) (number_read p r row s.0 s.1 s.2 slot s.3 s.4 version is) (serial_read p r row s.0 s.1 s.2 slot s.3 s.4 version is) (c.empty_content.ensures.content p.entries p.nodes put.result)

pub retire-requires-clause-lies : goal.retire-requires-clause-lies
retire-requires-clause-lies g c =
    let p = c.args.pools.now in
    let rows = c.args.rows.now.items in
    let r = c.args.r in
    let slot = c.args.slot in
    let row = c.index_mut-row.result.now in
    let there = row_read rows r row c.requires.r c.index_mut-row.ensures.value in
    let s = c.requires.stand row there in
    let version = c.get-version.result.now in
    let is = c.get-version.ensures.value in
    let put = c.put_before in
    let new : StoredVersion = record { owner = version.owner; number = version.number; serial = version.serial; content = c.empty_content.result; links = record { prev = None; next = None } } in
    let w = c.requires.wait in
    chains_put p r row s.0 s.1 s.2 slot s.3 s.4 c.args.retired.now w.0 w.1 put.new.versions put.new.row put.result new put.ensures.puts (owner_read p r row s.0 s.1 s.2 slot s.3 s.4 version is) (number_read p r row s.0 s.1 s.2 slot s.3 s.4 version is) (serial_read p r row s.0 s.1 s.2 slot s.3 s.4 version is) (c.empty_content.ensures.content p.entries p.nodes put.result)

pub returns-then-version-eq0-clause-clears : goal.returns-then-version-eq0-clause-clears
returns-then-version-eq0-clause-clears g c row before v after gone is here h wait some =
    let p = c.args.pools.now in
    let rows = c.args.rows.now.items in
    let many = count_in p c.args.r row before v after c.args.slot here h c.get-version.result.now c.get-version.ensures.value in
    never_cleared 0 p p rows rows c.args.r c.args.retired.now before v after gone (omega (arith, many, c.if-version-eq0.true)) some

pub returns-clause-empty : goal.returns-clause-empty
returns-clause-empty g c row before v after is here h none =
    let many = count_in c.args.pools.now c.args.r row before v after c.args.slot here h c.get-version.result.now c.get-version.ensures.value in
    absurd (omega (arith, none, many, c.if-version-eq0.false))

pub returns-clause-clears : goal.returns-clause-clears
returns-clause-clears g c row before v after gone is here h wait some =
    let p = c.args.pools.now in
    let rows = c.args.rows.now.items in
    let r = c.args.r in
    let slot = c.args.slot in
    let now = c.index_mut-row.result.now in
    let there = row_read rows r now c.requires.r c.index_mut-row.ensures.value in
    let stands = row_there_is p rows r row now (before ++ v ∷ after) is there h in
    let version = c.get-version.result.now in
    let read = c.get-version.ensures.value in
    let put = c.put_before in
    let new : StoredVersion = record { owner = version.owner; number = version.number; serial = version.serial; content = c.empty_content.result; links = record { prev = None; next = None } } in
    let many = slots_answered p r now before v after slot here stands c.slots_of_version-slots.result c.slots_of_version-slots.ensures.slots in
    clears p r now before v after slot here stands c.args.retired.now gone wait put.new.versions put.new.row put.result new put.ensures.puts (owner_read p r now before v after slot here stands version read) (number_read p r now before v after slot here stands version read) (serial_read p r now before v after slot here stands version read) (c.empty_content.ensures.content p.entries p.nodes put.result)
    c.retire.new.versions c.retire.new.row c.retire.new.retired c.retire.ensures.moved c.slots_of_version-slots.result rows many (ap ways_of c.empty_content.ensures.indexes) put.ensures.live c.retire.ensures.live put.ensures.spare c.retire.ensures.spare
