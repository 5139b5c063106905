use Rattle.std.proofs.Common.{[], ◌∷◌, sym, append-nil}
use Rattle.hx_versions.proofs.reading.slot_of.Goals as goal

pub returns-in-At : goal.returns-in-At
returns-in-At g c owner vs h = rw c.in-At.is at (c.place_of.ensures owner vs h)

pub returns-in-Before : goal.returns-in-Before
returns-in-Before g c owner vs h =
    let b = rw c.in-Before.is at (c.place_of.ensures owner vs h) in
    (b.0, b.1 ∷ b.2, b.3, b.4, b.6)

pub returns-in-Last : goal.returns-in-Last
returns-in-Last g c owner vs h =
    (vs, [], sym (append-nil vs), rw c.in-Last.is at (c.place_of.ensures owner vs h), tt)
