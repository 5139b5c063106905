use Rattle.std.proofs.Common.{◌≡◌, sym}
use Rattle.std.specs.Prelude.{None, Some}
use Rattle.hx_refs.specs.Changes.{deletion_fault, fault_at, value_fault}
use Rattle.hx_refs.proofs.ChangeLemmas.{may_own}
use Rattle.hx_cli.specs.Effects.{is_meant}
use Rattle.hx_cli.proofs.KeyLemmas.{meant_key, meant_number, none_valued}
use Rattle.hx_cli.proofs.keys.set_value.Goals as goal

pub returns-in_default-clause-refused : goal.returns-in_default-clause-refused
returns-in_default-clause-refused c =
    rw (meant_key c.args.word.now c.in_default.ensures.cases) c.set_key.ensures.refused

pub returns-in-Some-number_after_sign-clause-ok : goal.returns-in-Some-number_after_sign-clause-ok
returns-in-Some-number_after_sign-clause-ok c =
    let says = c.in-Some.ensures.cases in
    rw (meant_number c.args.word.now c.in-Some.rest.now (Some c.in-Some-number_after_sign.number) says.0 says.1 c.in-Some-number_after_sign.ensures)
    c.set_id.ensures.ok

pub returns-in-Some-number_after_sign-clause-refused : goal.returns-in-Some-number_after_sign-clause-refused
returns-in-Some-number_after_sign-clause-refused c =
    let says = c.in-Some.ensures.cases in
    rw (meant_number c.args.word.now c.in-Some.rest.now (Some c.in-Some-number_after_sign.number) says.0 says.1 c.in-Some-number_after_sign.ensures)
    c.set_id.ensures.refused

pub returns-in-None-clause-refused : goal.returns-in-None-clause-refused
returns-in-None-clause-refused c =
    let says = c.in-Some.ensures.cases in
    let test = is_meant c.args.word.now in
    let refused : fault_at c.args.refs.now.content c.args.r (deletion_fault c.args.ver test) ≡ Some c.no_number_fault.result =
    rw (meant_number c.args.word.now c.in-Some.rest.now None says.0 says.1 c.in-None.ensures) c.no_number_fault.ensures in
    may_own (fault_at c.args.refs.now.content c.args.r (value_fault c.args.ver test c.args.value.now)) c.no_number_fault.result
    (sym (none_valued c.args.refs.now.content c.args.r c.args.ver test c.args.value.now c.no_number_fault.result refused))
