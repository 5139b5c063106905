use Rattle.std.proofs.Common.{List, Some, sym, ap, ◌∙◌, arith}
use Rattle.hx_pool.specs.Chain.{links_at}
use Rattle.hx_sample.specs.Find.{Entry, found_entry}
use Rattle.hx_sample.specs.Seen.{value_of}
use Rattle.hx_versions.specs.StoredVersions.{version_links}
use Rattle.hx_versions.specs.Store.{version_slots_of}
use Rattle.hx_versions.proofs.FirstVersionLemmas.{empty_first, entries_first, first_live, first_placed, first_stands, none_first, none_found, other_first, searched_in, way_first, way_within}
use Rattle.hx_versions.proofs.reading.find_in.Goals as goal

pub get-version-requires : goal.get-version-requires
get-version-requires g c =
    let r = c.requires.row in
    let p = c.args.pools.now in
    let is = sym c.in-Some.is ∙ c.front.ensures (links_at version_links p.versions) (version_slots_of r.1) r.2.chain in
    first_live p r.0 c.args.row.now r.1 r.2 c.args.number c.in-Some.slot is

pub find-requires-clause-at : goal.find-requires-clause-at
find-requires-clause-at g c =
    let r = c.requires.row in
    let p = c.args.pools.now in
    let version = c.get-version.result.now in
    let is = sym c.in-Some.is ∙ c.front.ensures (links_at version_links p.versions) (version_slots_of r.1) r.2.chain in
    let w = c.requires.way r.0 r.1 r.2 in
    way_within version.content.indexes.items c.args.place (c.args.by, c.args.ci)
    (way_first p r.0 c.args.row.now r.1 r.2 c.args.number c.in-Some.slot is version c.get-version.ensures.value w.0 c.args.place (c.args.by, c.args.ci) (λ none. omega (arith, none, c.if-version-eq0.false)) w.1 w.2)

pub find-requires-clause-content : goal.find-requires-clause-content
find-requires-clause-content g c =
    let r = c.requires.row in
    let p = c.args.pools.now in
    let version = c.get-version.result.now in
    let is = sym c.in-Some.is ∙ c.front.ensures (links_at version_links p.versions) (version_slots_of r.1) r.2.chain in
    (c.in-Some.slot, first_placed p r.0 c.args.row.now r.1 r.2 c.args.number c.in-Some.slot is, first_stands p r.0 c.args.row.now r.1 r.2 c.args.number c.in-Some.slot is version c.get-version.ensures.value)

pub returns-in_default-clause-found : goal.returns-in_default-clause-found
returns-in_default-clause-found g c owner vs h =
    let p = c.args.pools.now in
    let v = value_of c.args.sample.now in
    let is = sym c.in_default.is ∙ c.front.ensures (links_at version_links p.versions) (version_slots_of vs) h.chain in
    let none = none_first p owner c.args.row.now vs h c.args.number is in
    none_found c.args.by c.args.ci v
    ∙ ap (λ (es : List Entry). found_entry c.args.by c.args.ci es v) (sym none)

pub returns-then-version-number-clause-found : goal.returns-then-version-number-clause-found
returns-then-version-number-clause-found g c owner vs h =
    let p = c.args.pools.now in
    let v = value_of c.args.sample.now in
    let version = c.get-version.result.now in
    let is = sym c.in-Some.is ∙ c.front.ensures (links_at version_links p.versions) (version_slots_of vs) h.chain in
    let none = other_first p owner c.args.row.now vs h c.args.number c.in-Some.slot is version c.get-version.ensures.value c.if-version-number.true in
    none_found c.args.by c.args.ci v
    ∙ ap (λ (es : List Entry). found_entry c.args.by c.args.ci es v) (sym none)

pub returns-then-version-eq0-clause-found : goal.returns-then-version-eq0-clause-found
returns-then-version-eq0-clause-found g c owner vs h =
    let p = c.args.pools.now in
    let v = value_of c.args.sample.now in
    let version = c.get-version.result.now in
    let is = sym c.in-Some.is ∙ c.front.ensures (links_at version_links p.versions) (version_slots_of vs) h.chain in
    let none = empty_first p owner c.args.row.now vs h c.args.number c.in-Some.slot is version c.get-version.ensures.value c.if-version-number.false c.if-version-eq0.true in
    none_found c.args.by c.args.ci v
    ∙ ap (λ (es : List Entry). found_entry c.args.by c.args.ci es v) (sym none)

pub returns-in-Some-2-clause-found : goal.returns-in-Some-2-clause-found
returns-in-Some-2-clause-found g c owner vs h =
    let p = c.args.pools.now in
    let row = c.args.row.now in
    let v = value_of c.args.sample.now in
    let slot = c.in-Some.slot in
    let version = c.get-version.result.now in
    let at = c.get-version.ensures.value in
    let is = sym c.in-Some.is ∙ c.front.ensures (links_at version_links p.versions) (version_slots_of vs) h.chain in
    let w = c.requires.way owner vs h in
    let way = way_first p owner row vs h c.args.number slot is version at w.0 c.args.place (c.args.by, c.args.ci) (λ none. omega (arith, none, c.if-version-eq0.false)) w.1 w.2 in
    let same = entries_first p owner row vs h c.args.number slot is version at c.if-version-number.false in
    let found = rw c.in-Some-2.is at (c.in_ok-found.ensures.found slot (first_placed p owner row vs h c.args.number slot is) (c.args.by, c.args.ci) (first_stands p owner row vs h c.args.number slot is version at) way) in
    ap Some c.hit.ensures ∙ found
    ∙ ap (λ (es : List Entry). found_entry c.args.by c.args.ci es v) (sym same)

pub returns-in-None-clause-found : goal.returns-in-None-clause-found
returns-in-None-clause-found g c owner vs h =
    let p = c.args.pools.now in
    let row = c.args.row.now in
    let v = value_of c.args.sample.now in
    let slot = c.in-Some.slot in
    let version = c.get-version.result.now in
    let at = c.get-version.ensures.value in
    let is = sym c.in-Some.is ∙ c.front.ensures (links_at version_links p.versions) (version_slots_of vs) h.chain in
    let w = c.requires.way owner vs h in
    let way = way_first p owner row vs h c.args.number slot is version at w.0 c.args.place (c.args.by, c.args.ci) (λ none. omega (arith, none, c.if-version-eq0.false)) w.1 w.2 in
    let same = entries_first p owner row vs h c.args.number slot is version at c.if-version-number.false in
    let found = rw c.in-None.is at (c.in_ok-found.ensures.found slot (first_placed p owner row vs h c.args.number slot is) (c.args.by, c.args.ci) (first_stands p owner row vs h c.args.number slot is version at) way) in
    found ∙ ap (λ (es : List Entry). found_entry c.args.by c.args.ci es v) (sym same)

pub returns-in-Some-2-clause-cost : goal.returns-in-Some-2-clause-cost
returns-in-Some-2-clause-cost g c owner vs h =
    let p = c.args.pools.now in
    let row = c.args.row.now in
    let v = value_of c.args.sample.now in
    let slot = c.in-Some.slot in
    let version = c.get-version.result.now in
    let at = c.get-version.ensures.value in
    let is = sym c.in-Some.is ∙ c.front.ensures (links_at version_links p.versions) (version_slots_of vs) h.chain in
    let w = c.requires.way owner vs h in
    let placed = first_placed p owner row vs h c.args.number slot is in
    let way = way_first p owner row vs h c.args.number slot is version at w.0 c.args.place (c.args.by, c.args.ci) (λ none. omega (arith, none, c.if-version-eq0.false)) w.1 w.2 in
    let same = entries_first p owner row vs h c.args.number slot is version at c.if-version-number.false in
    let cost = c.in_ok-found.ensures.cost slot placed (c.args.by, c.args.ci) (first_stands p owner row vs h c.args.number slot is version at) way in
    omega (arith, c.get-version.ensures.cost, cost, searched_in c.args.place c.args.by c.args.ci v placed _ same)

pub returns-in-None-clause-cost : goal.returns-in-None-clause-cost
returns-in-None-clause-cost g c owner vs h =
    let p = c.args.pools.now in
    let row = c.args.row.now in
    let v = value_of c.args.sample.now in
    let slot = c.in-Some.slot in
    let version = c.get-version.result.now in
    let at = c.get-version.ensures.value in
    let is = sym c.in-Some.is ∙ c.front.ensures (links_at version_links p.versions) (version_slots_of vs) h.chain in
    let w = c.requires.way owner vs h in
    let placed = first_placed p owner row vs h c.args.number slot is in
    let way = way_first p owner row vs h c.args.number slot is version at w.0 c.args.place (c.args.by, c.args.ci) (λ none. omega (arith, none, c.if-version-eq0.false)) w.1 w.2 in
    let same = entries_first p owner row vs h c.args.number slot is version at c.if-version-number.false in
    let cost = c.in_ok-found.ensures.cost slot placed (c.args.by, c.args.ci) (first_stands p owner row vs h c.args.number slot is version at) way in
    omega (arith, c.get-version.ensures.cost, cost, searched_in c.args.place c.args.by c.args.ci v placed _ same)

pub returns-in_err-found-clause-cost : goal.returns-in_err-found-clause-cost
returns-in_err-found-clause-cost g c owner vs h =
    let p = c.args.pools.now in
    let row = c.args.row.now in
    let v = value_of c.args.sample.now in
    let slot = c.in-Some.slot in
    let version = c.get-version.result.now in
    let at = c.get-version.ensures.value in
    let is = sym c.in-Some.is ∙ c.front.ensures (links_at version_links p.versions) (version_slots_of vs) h.chain in
    let w = c.requires.way owner vs h in
    let placed = first_placed p owner row vs h c.args.number slot is in
    let way = way_first p owner row vs h c.args.number slot is version at w.0 c.args.place (c.args.by, c.args.ci) (λ none. omega (arith, none, c.if-version-eq0.false)) w.1 w.2 in
    let same = entries_first p owner row vs h c.args.number slot is version at c.if-version-number.false in
    let cost = c.in_err-found.ensures.cost slot placed (c.args.by, c.args.ci) (first_stands p owner row vs h c.args.number slot is version at) way in
    omega (arith, c.get-version.ensures.cost, cost, searched_in c.args.place c.args.by c.args.ci v placed _ same)

pub returns-in_err-found-clause-free : goal.returns-in_err-found-clause-free
returns-in_err-found-clause-free g c listed =
    let r = c.requires.row in
    let p = c.args.pools.now in
    let version = c.get-version.result.now in
    let is = sym c.in-Some.is ∙ c.front.ensures (links_at version_links p.versions) (version_slots_of r.1) r.2.chain in
    let w = c.requires.way r.0 r.1 r.2 in
    let way = way_first p r.0 c.args.row.now r.1 r.2 c.args.number c.in-Some.slot is version c.get-version.ensures.value w.0 c.args.place (c.args.by, c.args.ci) (λ none. omega (arith, none, c.if-version-eq0.false)) w.1 w.2 in
    let lost = c.in_err-found.ensures.free (c.args.by, c.args.ci) way listed in
    absurd (cc)
