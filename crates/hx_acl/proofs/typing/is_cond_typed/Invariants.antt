use Rattle.std.specs.Prelude.{◌≡◌, drop}
use Rattle.hx_acl.specs.Typing.{is_cond_typed}
use Rattle.hx_acl.proofs.typing.is_cond_typed.Given as goal

abbrev pub invariant-loop-conj : goal.invariant-loop-conj
invariant-loop-conj l = is_cond_typed (drop l.conj-index l.cond) ≡ is_cond_typed l.cond
