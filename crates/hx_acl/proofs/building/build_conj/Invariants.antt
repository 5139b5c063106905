use Rattle.std.specs.Prelude.{◌≡◌, true, drop, take}
use Rattle.std.specs.List.{list_all}
use Rattle.hx_ast.specs.Acls.{use_passes}
use Rattle.hx_acl.specs.Expressions.{has_expressions}
use Rattle.hx_acl.specs.Typing.{is_decl_typed}
use Rattle.hx_acl.proofs.building.build_conj.Given as goal

-- what is built so far; the types of what is left fit, and it has its expressions exactly where the
-- whole has; and the maker's count and last text stay
abbrev pub invariant-loop-term : goal.invariant-loop-term
invariant-loop-term g l = record {
  built : l.built ≡ take l.term-index l.conj;
  typed : list_all (λ term. use_passes is_decl_typed term.acl) (drop l.term-index l.conj) ≡ true;
  expressions : list_all (λ term. use_passes (λ decl. has_expressions decl.expr) term.acl) (drop l.term-index l.conj)
      ≡ list_all (λ term. use_passes (λ decl. has_expressions decl.expr) term.acl) l.conj;
  counted : (g.M.ReMaker.state l.maker).too_large ≡ (g.M.ReMaker.state l.fn.maker).too_large;
  large : (g.M.ReMaker.state l.maker).large ≡ (g.M.ReMaker.state l.fn.maker).large;
}
