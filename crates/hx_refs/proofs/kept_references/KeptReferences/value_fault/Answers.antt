use Rattle.std.proofs.Common.{arith, sym, ◌∙◌}
use Rattle.hx_refs.specs.Changes.{deletion_fault, value_fault}
use Rattle.hx_refs.specs.Kept.{filled}
use Rattle.hx_versions.specs.Rows.{row_at}
use Rattle.hx_versions.specs.Versions.{is_chosen}
use Rattle.hx_refs.proofs.ChangeLemmas.{fault_here, fault_of, fine_value, lacking_value, refused_value}
use Rattle.hx_refs.proofs.FilledLemmas.{filled_length}
use Rattle.hx_refs.proofs.KeptLemmas.{found_within}
use Rattle.hx_refs.proofs.kept_references.KeptReferences.value_fault.Goals as goal

pub index-reference-requires : goal.index-reference-requires
index-reference-requires c =
    omega (arith, rw (← c.self.view_is) at c.requires, filled_length c.self.inside.references.items c.self.inside.store.rows, c.self.inside.references.ok.0)

pub returns-in-Some : goal.returns-in-Some
returns-in-Some c =
    let test = is_chosen c.args.choice.now in
    let found = found_within c.args.self.now.kept c.args.r c.requires in
    sym (fault_of c.args.self.now.kept c.args.r found.0 (value_fault c.args.ver test c.args.value.now) found.1
    ∙ lacking_value c.args.ver test c.args.value.now found.0.shown c.in-Some.fault
    (sym (c.in-Some.ensures ∙ fault_of c.args.self.now.kept c.args.r found.0 (deletion_fault c.args.ver test) found.1)))

pub returns-then-refuses_value : goal.returns-then-refuses_value
returns-then-refuses_value c =
    let kept = c.self.inside.references.items in
    let store = c.self.inside.store in
    let k = c.index-reference.result.now in
    let test = is_chosen c.args.choice.now in
    let requires = rw (← c.self.view_is) at c.requires in
    let none = (rw (← c.self.view_is) at c.in_default.ensures)
    ∙ fault_here kept store c.args.r k requires c.index-reference.ensures c.self.invariant (deletion_fault c.args.ver test) in
    rw (← c.self.view_is)
    (sym (fault_here kept store c.args.r k requires c.index-reference.ensures c.self.invariant (value_fault c.args.ver test c.args.value.now)
    ∙ refused_value c.args.ver test c.args.value.now (filled k (row_at store c.args.r)).shown (sym none)
    (sym c.refuses_value.ensures ∙ c.if-refuses_value.true)))

pub returns : goal.returns
returns c =
    let kept = c.self.inside.references.items in
    let store = c.self.inside.store in
    let k = c.index-reference.result.now in
    let test = is_chosen c.args.choice.now in
    let requires = rw (← c.self.view_is) at c.requires in
    let none = (rw (← c.self.view_is) at c.in_default.ensures)
    ∙ fault_here kept store c.args.r k requires c.index-reference.ensures c.self.invariant (deletion_fault c.args.ver test) in
    rw (← c.self.view_is)
    (sym (fault_here kept store c.args.r k requires c.index-reference.ensures c.self.invariant (value_fault c.args.ver test c.args.value.now)
    ∙ fine_value c.args.ver test c.args.value.now (filled k (row_at store c.args.r)).shown (sym none)
    (sym c.refuses_value.ensures ∙ c.if-refuses_value.false)))
