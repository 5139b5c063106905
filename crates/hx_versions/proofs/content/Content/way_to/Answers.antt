use Rattle.hx_versions.proofs.content.Content.way_to.Goals as goal

pub returns-in-None-clause-chain : goal.returns-in-None-clause-chain
returns-in-None-clause-chain c is key at by_key keeps =
    c.text_index.ensures.none c.in-None.is at keeps
