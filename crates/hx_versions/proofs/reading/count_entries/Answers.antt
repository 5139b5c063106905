use Rattle.std.proofs.Common.{sym, ◌∙◌, arith}
use Rattle.hx_pool.specs.Chain.{links_at}
use Rattle.hx_versions.specs.StoredVersions.{version_links}
use Rattle.hx_versions.specs.Store.{version_slots_of}
use Rattle.hx_versions.proofs.CountWalkLemmas.{count_about, count_begins, count_ends, count_on, count_there, first_at, lies_about, none_at, none_left}
use Rattle.hx_versions.proofs.VersionWalkLemmas.{live_at}
use Rattle.hx_versions.proofs.reading.count_entries.Goals as goal

pub loop-passed-init : goal.loop-passed-init
loop-passed-init g c = record {
  few = omega arith;
  counted = λ owner vs h.
      count_begins vs c.front-at.result (c.front-at.ensures (links_at version_links c.args.pools.now.versions) (version_slots_of vs) h.chain);
}

pub get-version-requires : goal.get-version-requires
get-version-requires g c =
    let r = c.requires in
    let i = c.loop-passed in
    let w = i.invariant.counted r.0 r.1 r.2 in
    let a = first_at c.in-Some.slot w.rest (sym c.in-Some.is ∙ w.here) in
    live_at c.args.pools.now r.0 c.args.row.now r.1 w.before a.version a.after c.in-Some.slot r.2 (count_about r.1 i.at i._passed i.count w c.in-Some.slot a) a.here

pub next-at-requires : goal.next-at-requires
next-at-requires g c =
    let r = c.requires in
    let i = c.loop-passed in
    let w = i.invariant.counted r.0 r.1 r.2 in
    let a = first_at c.in-Some.slot w.rest (sym c.in-Some.is ∙ w.here) in
    (version_slots_of w.before, version_slots_of a.after, lies_about c.args.pools.now r.0 c.args.row.now r.1 w.before a.version a.after c.in-Some.slot r.2 (count_about r.1 i.at i._passed i.count w c.in-Some.slot a) a.here)

pub loop-passed-preserved : goal.loop-passed-preserved
loop-passed-preserved g c = record {
  few = omega arith;
  counted = λ owner vs h.
      let p = c.args.pools.now in
      let row = c.args.row.now in
      let i = c.loop-passed in
      let slot = c.in-Some.slot in
      let w = i.invariant.counted owner vs h in
      let a = first_at slot w.rest (sym c.in-Some.is ∙ w.here) in
      let whole = count_about vs i.at i._passed i.count w slot a in
      let many = count_there p owner row vs w.before a.version a.after slot h whole a.here c.get-version.result.now c.get-version.ensures.value in
      count_on vs i.at i._passed i.count w c.next-at.result slot c.from-count.result a (c.from-count.ensures ∙ many)
      (c.next-at.ensures.next (version_slots_of w.before) (version_slots_of a.after) (lies_about p owner row vs w.before a.version a.after slot h whole a.here));
}

pub returns-in_default : goal.returns-in_default
returns-in_default g c owner vs h =
    let i = c.loop-passed in
    let w = i.invariant.counted owner vs h in
    count_ends vs i.at i._passed i.count w (none_at w.rest (sym c.in_default.is ∙ w.here))

pub returns : goal.returns
returns g c owner vs h =
    let i = c.loop-passed in
    let w = i.invariant.counted owner vs h in
    count_ends vs i.at i._passed i.count w (none_left w.rest (omega (arith, w.left, h.count, c.loop-passed-test.false)))
