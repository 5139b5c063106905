use Rattle.std.proofs.Common.{◌-◌, [], sym, ◌∙◌, arith}
use Rattle.hx_pool.specs.Chain.{links_at}
use Rattle.hx_versions.specs.StoredVersions.{version_links}
use Rattle.hx_versions.specs.Store.{retired_slots_of, version_slots_of}
use Rattle.hx_versions.proofs.PlaceLemmas.{apart_in, few_in, first_version, lies_in, live_in, number_answered, row_read, row_there_is, slots_answered}
use Rattle.hx_versions.proofs.RetiringCallLemmas.{first_drops, first_few, first_row, none_smaller}
use Rattle.hx_versions.proofs.retiring.drop_first.Goals as goal

pub slots_of_version-slots-requires-clause-live : goal.slots_of_version-slots-requires-clause-live
slots_of_version-slots-requires-clause-live g c =
    let p = c.args.pools.now in
    let rows = c.args.rows.now.items in
    let r = c.args.r in
    let slot = c.in-Some.slot in
    let row = c.index.result.now in
    let there = row_read rows r row c.requires.r c.index.ensures in
    let stand = c.requires.stand row there in
    let f = first_version stand.0 slot (sym c.in-Some.is ∙ c.front.ensures (links_at version_links p.versions) (version_slots_of stand.0) stand.1.chain) in
    let h = first_row p r row stand.0 slot f stand.1 in
    live_in p r row [] f.version f.after slot f.here h

pub slots_of_version-slots-requires-clause-few : goal.slots_of_version-slots-requires-clause-few
slots_of_version-slots-requires-clause-few g c stored is =
    let p = c.args.pools.now in
    let rows = c.args.rows.now.items in
    let r = c.args.r in
    let slot = c.in-Some.slot in
    let row = c.index.result.now in
    let there = row_read rows r row c.requires.r c.index.ensures in
    let stand = c.requires.stand row there in
    let f = first_version stand.0 slot (sym c.in-Some.is ∙ c.front.ensures (links_at version_links p.versions) (version_slots_of stand.0) stand.1.chain) in
    let h = first_row p r row stand.0 slot f stand.1 in
    few_in p r row [] f.version f.after slot f.here h
    (first_few p r row stand.0 slot f stand.1 (c.requires.few row stand.0 there stand.1)) stored is

pub retire-requires-clause-live : goal.retire-requires-clause-live
retire-requires-clause-live g c =
    let p = c.args.pools.now in
    let rows = c.args.rows.now.items in
    let r = c.args.r in
    let slot = c.in-Some.slot in
    let row = c.index.result.now in
    let there = row_read rows r row c.requires.r c.index.ensures in
    let stand = c.requires.stand row there in
    let f = first_version stand.0 slot (sym c.in-Some.is ∙ c.front.ensures (links_at version_links p.versions) (version_slots_of stand.0) stand.1.chain) in
    let h = first_row p r row stand.0 slot f stand.1 in
    let now = c.index_mut-row.result.now in
    let here = row_read rows r now c.requires.r c.index_mut-row.ensures.value in
    let stands = first_row p r now stand.0 slot f (row_there_is p rows r row now stand.0 there here stand.1) in
    live_in p r now [] f.version f.after slot f.here stands

pub retire-requires-clause-lies : goal.retire-requires-clause-lies
retire-requires-clause-lies g c =
    let p = c.args.pools.now in
    let rows = c.args.rows.now.items in
    let r = c.args.r in
    let slot = c.in-Some.slot in
    let row = c.index.result.now in
    let there = row_read rows r row c.requires.r c.index.ensures in
    let stand = c.requires.stand row there in
    let f = first_version stand.0 slot (sym c.in-Some.is ∙ c.front.ensures (links_at version_links p.versions) (version_slots_of stand.0) stand.1.chain) in
    let h = first_row p r row stand.0 slot f stand.1 in
    let now = c.index_mut-row.result.now in
    let here = row_read rows r now c.requires.r c.index_mut-row.ensures.value in
    let stands = first_row p r now stand.0 slot f (row_there_is p rows r row now stand.0 there here stand.1) in
    let wait = c.requires.wait in (
      [],
      version_slots_of f.after,
      retired_slots_of wait.0,
      lies_in p r now [] f.version f.after slot f.here stands,
      wait.1.lies,
      apart_in p r now [] f.version f.after slot f.here stands c.args.retired.now wait.0 wait.1,
    )

pub overflow_sub-row : goal.overflow_sub-row
overflow_sub-row g c =
    let p = c.args.pools.now in
    let rows = c.args.rows.now.items in
    let r = c.args.r in
    let slot = c.in-Some.slot in
    let row = c.index.result.now in
    let there = row_read rows r row c.requires.r c.index.ensures in
    let stand = c.requires.stand row there in
    let f = first_version stand.0 slot (sym c.in-Some.is ∙ c.front.ensures (links_at version_links p.versions) (version_slots_of stand.0) stand.1.chain) in
    let h = first_row p r row stand.0 slot f stand.1 in
    let now = c.index_mut-row.result.now in
    let here = row_read rows r now c.requires.r c.index_mut-row.ensures.value in
    let stands = first_row p r now stand.0 slot f (row_there_is p rows r row now stand.0 there here stand.1) in
    omega (arith, stands.count)

pub returns-then-number-number_in-clause-moves : goal.returns-then-number-number_in-clause-moves
returns-then-number-number_in-clause-moves g c row vs gone is h wait =
    let p = c.args.pools.now in
    let rows = c.args.rows.now.items in
    let r = c.args.r in
    let slot = c.in-Some.slot in
    let now = c.index.result.now in
    let there = row_read rows r now c.requires.r c.index.ensures in
    let stands = row_there_is p rows r row now vs is there h in
    let f = first_version vs slot (sym c.in-Some.is ∙ c.front.ensures (links_at version_links p.versions) (version_slots_of vs) stands.chain) in
    let first = first_row p r now vs slot f stands in
    let found = number_answered p r now [] f.version f.after slot f.here first c.number_in.result c.number_in.ensures.number in
    none_smaller c.args.number p p rows rows r c.args.retired.now vs gone slot f (omega (arith, found, c.if-number-number_in.true))

pub returns-clause-moves : goal.returns-clause-moves
returns-clause-moves g c row vs gone is h wait =
    let p = c.args.pools.now in
    let rows = c.args.rows.now.items in
    let r = c.args.r in
    let slot = c.in-Some.slot in
    let now = c.index.result.now in
    let there = row_read rows r now c.requires.r c.index.ensures in
    let stands = row_there_is p rows r row now vs is there h in
    let f = first_version vs slot (sym c.in-Some.is ∙ c.front.ensures (links_at version_links p.versions) (version_slots_of vs) stands.chain) in
    let at = c.index_mut-row.result.now in
    let here = row_read rows r at c.requires.r c.index_mut-row.ensures.value in
    let whole = row_there_is p rows r row at vs is here h in
    let first = first_row p r at vs slot f whole in
    let found = number_answered p r at [] f.version f.after slot f.here first c.number_in.result c.number_in.ensures.number in
    let many = slots_answered p r at [] f.version f.after slot f.here first c.slots_of_version-slots.result c.slots_of_version-slots.ensures.slots in
    first_drops p r at vs slot f whole c.args.retired.now gone wait c.retire.new.versions c.retire.new.row c.retire.new.retired c.args.number c.slots_of_version-slots.result (at.count - 1) rows c.retire.ensures.moved (omega (arith, first.count)) (omega (arith, found, c.if-number-number_in.false)) many c.retire.ensures.live c.retire.ensures.spare
