use Rattle.hx_refs.proofs.KeptLemmas.{found_within}
use Rattle.hx_refs.proofs.kept_references.KeptReferences.add_to.Goals as goal

pub append-requires-clause-pairs : goal.append-requires-clause-pairs
append-requires-clause-pairs g c seen is = (c.args.pairs.now, c.in_ok-added.ensures.entries seen is)

pub returns-clause-ok : goal.returns-clause-ok
returns-clause-ok g c =
    let found = found_within c.args.self.now.kept c.args.r c.requires.r in
    c.in_ok-append.ensures.ok found.0 c.args.pairs.now found.1 (c.in_ok-added.ensures.entries found.0 found.1)
