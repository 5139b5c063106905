use Rattle.std.proofs.Common.{◌≡◌, Some, ap, sym, ◌∙◌}
use Rattle.hx_http.specs.Target.{path_before_query, path_of}
use Rattle.hx_http.proofs.PlaceLemmas.{before_query_fits, path_fits, with_path_at}
use Rattle.hx_http.proofs.target.path_place.Goals as goal

pub overflow_sub-result : goal.overflow_sub-result
overflow_sub-result c =
    let is : path_of c.args.target.now ≡ Some c.in-Some.path.now
    = ap path_before_query (sym c.before_query-before.ensures) ∙ sym c.in-Some.ensures in
    rw c.before_query-before.ensures (path_fits c.args.target.now c.in-Some.path.now is)

pub returns-in-Some-clause-within : goal.returns-in-Some-clause-within
returns-in-Some-clause-within c =
    rw c.before_query-before.ensures (before_query_fits c.args.target.now)

pub returns-in-Some-clause-path : goal.returns-in-Some-clause-path
returns-in-Some-clause-path c = λ path.
    let is : path_of c.args.target.now ≡ Some c.in-Some.path.now
    = ap path_before_query (sym c.before_query-before.ensures) ∙ sym c.in-Some.ensures in
    rw c.before_query-before.ensures
    (with_path_at c.args.target.now c.in-Some.path.now path
    (sym (rw c.as_slice.ensures at c.if-eq.ensures)) is)
