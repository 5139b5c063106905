use Rattle.std.specs.Prelude.{◌≡◌, drop}
use Rattle.hx_ast.specs.Acls.{IsCond, cond_passes}
use Rattle.hx_load.specs.Configuration.{has_patterns}
use Rattle.hx_load.proofs.statements.judge_cond.Given as goal

-- as with the terms of a conjunction
abbrev pub invariant-loop-conj : goal.invariant-loop-conj
invariant-loop-conj g l = record {
  patterns : cond_passes has_patterns (drop l.conj-index l.cond) ≡ cond_passes has_patterns l.cond;
  allowed : IsCond (drop l.conj-index l.cond);
  count : (g.M.ReMaker.state l.maker).too_large ≡ (g.M.ReMaker.state l.fn.maker).too_large;
  last : (g.M.ReMaker.state l.maker).large ≡ (g.M.ReMaker.state l.fn.maker).large;
}
