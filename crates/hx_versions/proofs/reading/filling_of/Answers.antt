use Rattle.std.proofs.Common.{length, sym, ap}
use Rattle.hx_versions.specs.Versions.{Version}
use Rattle.hx_versions.proofs.VersionReadLemmas.{count_is, serial_is, slot_live, version_missing}
use Rattle.hx_versions.proofs.reading.filling_of.Goals as goal

pub get-version-requires : goal.get-version-requires
get-version-requires g c =
    let r = c.requires in
    slot_live c.args.pools.now r.0 c.args.row.now r.1 c.args.number c.in-Some.slot r.2 (rw c.in-Some.is at (c.slot_of.ensures r.0 r.1 r.2))

pub returns-in-Some-clause-count : goal.returns-in-Some-clause-count
returns-in-Some-clause-count g c owner vs h first last numbered =
    count_is c.args.pools.now owner c.args.row.now vs c.args.number c.in-Some.slot h (rw c.in-Some.is at (c.slot_of.ensures owner vs h)) c.get-version.result.now c.get-version.ensures.value

pub returns-in-Some-clause-serial : goal.returns-in-Some-clause-serial
returns-in-Some-clause-serial g c owner vs h first last numbered =
    serial_is c.args.pools.now owner c.args.row.now vs c.args.number c.in-Some.slot h (rw c.in-Some.is at (c.slot_of.ensures owner vs h)) c.get-version.result.now c.get-version.ensures.value

pub returns-in-None-clause-count : goal.returns-in-None-clause-count
returns-in-None-clause-count g c owner vs h first last numbered =
    ap (λ (x : Version). length x.entries) (sym (version_missing c.args.number first last vs (rw c.in-None.is at (c.slot_of.ensures owner vs h)) numbered))

pub returns-in-None-clause-serial : goal.returns-in-None-clause-serial
returns-in-None-clause-serial g c owner vs h first last numbered =
    ap (λ (x : Version). x.serial) (sym (version_missing c.args.number first last vs (rw c.in-None.is at (c.slot_of.ensures owner vs h)) numbered))
