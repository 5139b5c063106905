use Rattle.std.specs.Prelude.{◌≡◌, true, drop, take}
use Rattle.hx_acl.specs.Expressions.{cond_has_expressions}
use Rattle.hx_acl.specs.Typing.{is_cond_typed}
use Rattle.hx_acl.proofs.building.build_cond.Given as goal

-- as with the terms of a conjunction
abbrev pub invariant-loop-conj : goal.invariant-loop-conj
invariant-loop-conj g l = record {
  built : l.built ≡ take l.conj-index l.cond;
  typed : is_cond_typed (drop l.conj-index l.cond) ≡ true;
  expressions : cond_has_expressions (drop l.conj-index l.cond) ≡ cond_has_expressions l.cond;
  counted : (g.M.ReMaker.state l.maker).too_large ≡ (g.M.ReMaker.state l.fn.maker).too_large;
  large : (g.M.ReMaker.state l.maker).large ≡ (g.M.ReMaker.state l.fn.maker).large;
}
