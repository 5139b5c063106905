use Rattle.std.proofs.Common.{sym, ap, ◌∙◌}
use Rattle.hx_versions.specs.Versions.{Version}
use Rattle.hx_versions.proofs.ContentLemmas.{content_view}
use Rattle.hx_versions.proofs.VersionReadLemmas.{content_stands, entries_are, slot_live, version_missing}
use Rattle.hx_versions.proofs.reading.entries_of.Goals as goal

pub get-version-requires : goal.get-version-requires
get-version-requires g c =
    let r = c.requires in
    slot_live c.args.pools.now r.0 c.args.row.now r.1 c.args.number c.in-Some.slot r.2 (rw c.in-Some.is at (c.slot_of.ensures r.0 r.1 r.2))

pub of_content-requires : goal.of_content-requires
of_content-requires g c =
    let r = c.requires in
    let p = c.args.pools.now in
    let at = rw c.in-Some.is at (c.slot_of.ensures r.0 r.1 r.2) in
    (c.in-Some.slot, at.1.placed, content_stands p r.0 c.args.row.now r.1 c.args.number c.in-Some.slot r.2 at c.get-version.result.now c.get-version.ensures.value)

pub returns-in-Some : goal.returns-in-Some
returns-in-Some g c owner vs h first last numbered =
    let p = c.args.pools.now in
    let slot = c.in-Some.slot in
    let at = rw c.in-Some.is at (c.slot_of.ensures owner vs h) in
    let stored = c.get-version.result.now in
    c.of_content.ensures
    ∙ content_view p.entries p.nodes slot stored.content at.1.placed (content_stands p owner c.args.row.now vs c.args.number slot h at stored c.get-version.ensures.value)
    ∙ sym (entries_are p owner c.args.row.now vs c.args.number slot h at stored c.get-version.ensures.value)

pub returns-in-None : goal.returns-in-None
returns-in-None g c owner vs h first last numbered =
    c.none.ensures
    ∙ ap (λ (x : Version). x.entries) (sym (version_missing c.args.number first last vs (rw c.in-None.is at (c.slot_of.ensures owner vs h)) numbered))
