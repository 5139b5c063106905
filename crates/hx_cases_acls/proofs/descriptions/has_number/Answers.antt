use Rattle.std.proofs.Common.{◌≢◌, ◌≤◌, length, rules, arith}
use Rattle.hx_cases_acls.proofs.DescriptionLemmas.{all_before, no_number_so_far, HasOtherNumber}
use Rattle.hx_cases_acls.proofs.descriptions.has_number.Goals as goal

pub loop-position-preserved : goal.loop-position-preserved
loop-position-preserved c =
    let other : c.info.result.id ≢ c.args.number = search rules in
    no_number_so_far c.args.number c.loop-position.position c.args.refs.now.content.references c.info.result
    c.loop-position.invariant c.info.ensures other

pub returns : goal.returns
returns c =
    let past : length c.args.refs.now.content.references ≤ c.loop-position.position =
    omega (arith, c.loop-position-test.false, c.len-position-end.ensures) in
    λ _. all_before (HasOtherNumber c.args.number) c.loop-position.position c.args.refs.now.content.references past
    c.loop-position.invariant
