use Rattle.std.proofs.Common.{refl}
use Rattle.std.specs.Prelude.{None, Some}
use Rattle.hx_cli.proofs.KeyLemmas.{meant_number}
use Rattle.hx_cli.proofs.keys.delete.Goals as goal

pub returns-in-Some-number_after_sign-clause-ok : goal.returns-in-Some-number_after_sign-clause-ok
returns-in-Some-number_after_sign-clause-ok c =
    let says = c.in-Some.ensures.cases in
    rw (meant_number c.args.word.now c.in-Some.rest.now (Some c.in-Some-number_after_sign.number) says.0 says.1 c.in-Some-number_after_sign.ensures)
    c.del_id.ensures.ok

pub returns-in-None-clause-answer : goal.returns-in-None-clause-answer
returns-in-None-clause-answer c =
    let says = c.in-Some.ensures.cases in
    let meant = meant_number c.args.word.now c.in-Some.rest.now None says.0 says.1 c.in-None.ensures in
    rw (meant, c.no_number_fault.ensures) refl
