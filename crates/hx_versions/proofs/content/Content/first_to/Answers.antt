use Rattle.std.proofs.Common.{sym, ap, subst, ◌∙◌}
use Rattle.hx_pool.specs.Chain.{links_at}
use Rattle.hx_versions.specs.StoredEntries.{entry_links}
use Rattle.hx_versions.specs.Contents.{LeadsTo, first_chosen, slots_of}
use Rattle.hx_versions.specs.Versions.{is_chosen}
use Rattle.hx_versions.proofs.ReachLemmas.{chain_leads, index_leads}
use Rattle.hx_versions.proofs.content.Content.first_to.Goals as goal

pub first_with-requires-clause-index : goal.first_with-requires-clause-index
first_with-requires-clause-index g c =
    let is = rw c.in-Some.is at c.requires.way.1 in is.0

pub returns-in-Some : goal.returns-in-Some
returns-in-Some g c chosen e v placed leads h =
    let is = rw c.in-Some.is at leads in
    index_leads (is_chosen chosen) c.args.way c.first_with.result placed
    (c.first_with.ensures.found e v placed h
    ∙ ap (λ test. first_chosen test placed) (sym (ap is_chosen is.1)))

pub returns-in-None : goal.returns-in-None
returns-in-None g c chosen e v placed leads h =
    subst (λ way. LeadsTo way (is_chosen chosen) c.front.result placed) (sym c.in-None.is)
    (chain_leads (is_chosen chosen) c.front.result placed (c.front.ensures (links_at entry_links e) (slots_of placed) h.chain))
