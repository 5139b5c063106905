use Rattle.std.proofs.Common.{◌≡◌, ◌≤◌, false, length, rules, arith}
use Rattle.hx_cases_acls.proofs.DescriptionLemmas.{all_before, no_file_so_far, HasOtherFile}
use Rattle.hx_cases_acls.proofs.descriptions.has_name.Goals as goal

pub loop-position-preserved : goal.loop-position-preserved
loop-position-preserved c =
    let other : c.is_named.result ≡ false = search rules in
    no_file_so_far c.args.name.now c.loop-position.position c.args.refs.now.content.references _
    c.loop-position.invariant c.file.ensures (c.is_named.ensures other)

pub returns : goal.returns
returns c =
    let past : length c.args.refs.now.content.references ≤ c.loop-position.position =
    omega (arith, c.loop-position-test.false, c.len-position-end.ensures) in
    λ _. all_before (HasOtherFile c.args.name.now) c.loop-position.position c.args.refs.now.content.references past
    c.loop-position.invariant
