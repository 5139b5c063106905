use Rattle.std.specs.Prelude.{◌≡◌, drop}
use Rattle.std.specs.List.{All, list_all}
use Rattle.hx_ast.specs.Acls.{use_passes}
use Rattle.hx_ast.specs.Acls.{IsAclUse}
use Rattle.hx_load.specs.Configuration.{has_patterns}
use Rattle.hx_load.proofs.statements.judge_conj.Given as goal

-- the patterns of the terms that are left are some exactly where those of all are; and the maker's
-- count and last text stay
abbrev pub invariant-loop-term : goal.invariant-loop-term
invariant-loop-term g l = record {
  patterns : list_all (λ term. use_passes has_patterns term.acl) (drop l.term-index l.conj)
      ≡ list_all (λ term. use_passes has_patterns term.acl) l.conj;
  allowed : All (λ term. IsAclUse term.acl) (drop l.term-index l.conj);
  count : (g.M.ReMaker.state l.maker).too_large ≡ (g.M.ReMaker.state l.fn.maker).too_large;
  last : (g.M.ReMaker.state l.maker).large ≡ (g.M.ReMaker.state l.fn.maker).large;
}
