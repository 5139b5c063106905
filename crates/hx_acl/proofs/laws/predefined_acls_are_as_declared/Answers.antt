use Rattle.hx_acl.proofs.KeyLemmas.{keys_as_declared}
use Rattle.hx_acl.proofs.laws.predefined_acls_are_as_declared.Goals as goal

pub returns : goal.returns
returns c = λ context heads lists fetch position list ignores_case words at.
    keys_as_declared context heads lists fetch position (record { by = c.args.by; ci = c.args.ci; list = list }) ignores_case words at c.none_is_found_where_none_hits.ensures
