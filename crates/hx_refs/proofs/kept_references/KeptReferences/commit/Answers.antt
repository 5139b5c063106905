use Rattle.hx_refs.proofs.FilledLemmas.{filled_length}
use Rattle.std.proofs.Common.{ap, sym, ◌∙◌, arith}
use Rattle.hx_refs.specs.Changes.{answer, commit_fault}
use Rattle.hx_refs.proofs.ChangeLemmas.{fault_here, may_commit}
use Rattle.hx_refs.proofs.kept_references.KeptReferences.commit.Goals as goal

pub set_current-requires-clause-version : goal.set_current-requires-clause-version
set_current-requires-clause-version g c seen is =
    let requires = rw (← c.self.view_is) at c.requires in
    may_commit c.self.inside.references.items c.self.inside.store c.args.r c.index-reference.result.now requires c.index-reference.ensures c.self.invariant
    c.args.number seen c.in_default.ensures (rw (← c.self.view_is) at is)

pub returns-in-Some-clause-answer : goal.returns-in-Some-clause-answer
returns-in-Some-clause-answer g c =
    let requires = rw (← c.self.view_is) at c.requires in
    rw (← c.self.view_is)
    (ap (answer tt)
    (c.in-Some.ensures
    ∙ sym (fault_here c.self.inside.references.items c.self.inside.store c.args.r c.index-reference.result.now requires c.index-reference.ensures c.self.invariant (commit_fault c.args.number))))

pub returns-clause-answer : goal.returns-clause-answer
returns-clause-answer g c =
    let requires = rw (← c.self.view_is) at c.requires in
    rw (← c.self.view_is)
    (ap (answer tt)
    (c.in_default.ensures
    ∙ sym (fault_here c.self.inside.references.items c.self.inside.store c.args.r c.index-reference.result.now requires c.index-reference.ensures c.self.invariant (commit_fault c.args.number))))

pub index-reference-requires : goal.index-reference-requires
index-reference-requires g c =
    omega (arith, rw (← c.self.view_is) at c.requires, filled_length c.self.inside.references.items c.self.inside.store.rows, c.self.inside.references.ok.0)
