use Rattle.std.specs.Prelude.{◌≡◌, drop}
use Rattle.std.specs.List.{list_all}
use Rattle.hx_ast.specs.Acls.{use_passes}
use Rattle.hx_acl.specs.Typing.{is_decl_typed}
use Rattle.hx_acl.proofs.typing.is_conj_typed.Given as goal

abbrev pub invariant-loop-term : goal.invariant-loop-term
invariant-loop-term l =
    list_all (λ term. use_passes is_decl_typed term.acl) (drop l.term-index l.conj)
    ≡ list_all (λ term. use_passes is_decl_typed term.acl) l.conj
