use Rattle.std.proofs.Common.{IsSome, refl, sym, subst, ◌∙◌}
use Rattle.hx_versions.specs.Contents.{LeadsTo, slots_of, ways_of}
use Rattle.hx_versions.specs.Versions.{is_chosen}
use Rattle.hx_versions.proofs.PlacedLemmas.{chain_about}
use Rattle.hx_versions.proofs.ReachLemmas.{chain_leads, index_leads, key_sought}
use Rattle.hx_versions.proofs.content.Content.next_to.Goals as goal

pub next_with-requires-clause-index : goal.next_with-requires-clause-index
next_with-requires-clause-index g c =
    let is = rw c.in-Some.is at c.requires.way.1 in is.0

pub next-requires : goal.next-requires
next-requires g c =
    let r = c.requires.content in
    (slots_of r.1, slots_of r.3, chain_about c.args.entries.now c.args.nodes.now r.0 c.args.self.now r.1 r.2 r.3 c.args.slot r.4 r.5)

pub returns-in-Some : goal.returns-in-Some
returns-in-Some g c chosen v before p after here leads hit h =
    let is = rw c.in-Some.is at leads in
    let some = subst IsSome (sym c.in-Some.is) refl in
    index_leads (is_chosen chosen) c.args.way c.next_with.result after
    (c.next_with.ensures.found v before p after here h
    ∙ key_sought (ways_of c.args.self.now.indexes.items) (c.in-Some.at, c.in-Some._key) chosen p is (hit some) after)

pub returns-in-None : goal.returns-in-None
returns-in-None g c chosen v before p after here leads hit h =
    subst (λ way. LeadsTo way (is_chosen chosen) c.next.result after) (sym c.in-None.is)
    (chain_leads (is_chosen chosen) c.next.result after
    (c.next.ensures.next (slots_of before) (slots_of after) (chain_about c.args.entries.now c.args.nodes.now v c.args.self.now before p after c.args.slot here h)))
