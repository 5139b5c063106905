use Rattle.std.proofs.Common.{refl}
use Rattle.hx_versions.specs.declared.content.Content.{Content}
use Rattle.hx_versions.specs.declared.pools.Row.{Row}
use Rattle.hx_versions.specs.Rows.{use_ways}
use Rattle.hx_versions.specs.Store.{version_slots_of}
use Rattle.hx_versions.proofs.GrowingLemmas.{bare_content, has_new, splits_at, splits_chain}
use Rattle.hx_versions.proofs.growing.put_new.Goals as goal

pub put_in_place-slot-requires-clause-lies : goal.put_in_place-slot-requires-clause-lies
put_in_place-slot-requires-clause-lies g c =
    let r = c.requires.stands in
    let split = splits_at c.args.number c.args.place r.0 c.requires.free r.2 in (
      version_slots_of split.before,
      version_slots_of split.after,
      splits_chain c.args.pools.now c.args.owner c.args.row.now c.args.number c.args.place r.0 r.1 split,
      split.begins,
    )

pub returns-clause-ok : goal.returns-clause-ok
returns-clause-ok g c vs h at =
    let p = c.args.pools.now in
    let put = c.put_in_place-slot in
    let empty = c.empty_content-content.result in
    let content : Content = record empty { indexes = c.in_ok-content.field-0 } in
    let bare = bare_content p.entries p.nodes put.result empty content (c.empty_content-content.ensures.content p.entries p.nodes put.result) refl refl c.in_ok-content.ensures.bare in
    let split = splits_at c.args.number c.args.place vs c.requires.free at in
    let row' : Row = record { versions = put.new.row; count = c.in-Some.count } in
    let chain = splits_chain p c.args.owner c.args.row.now c.args.number c.args.place vs h split in
    has_new p c.args.owner c.args.row.now c.args.number c.args.place vs h split (use_ways c.args.uses.now) put.new.versions row' put.result _
    (put.ensures.puts (version_slots_of split.before) (version_slots_of split.after) chain split.begins)
    refl refl refl c.in_ok-content.ensures.ways bare c.in-Some.ensures.1 put.ensures.spare put.ensures.live
