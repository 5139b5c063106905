use Rattle.std.specs.Prelude.{not}
use Rattle.std.proofs.Common.{ap}
use Rattle.hx_expr.specs.Values.{expr_values}
use Rattle.hx_acl.specs.Matching.{finds_entry}
use Rattle.hx_acl.proofs.HoldsLemmas.{none_match}
use Rattle.hx_acl.proofs.laws.missing_samples_match_nothing.Goals as goal

pub returns-clause-matches : goal.returns-clause-matches
returns-clause-matches c = λ context heads lists none.
    none_match c.args.decl.now.by (finds_entry heads lists c.args.decl.now.heads) (expr_values context heads lists c.args.decl.now.expr) none

pub returns-clause-negated : goal.returns-clause-negated
returns-clause-negated c = λ context heads lists acls none.
    ap not (none_match c.args.decl.now.by (finds_entry heads lists c.args.decl.now.heads) (expr_values context heads lists c.args.decl.now.expr) none)
