use Rattle.hx_fetch.specs.Fetches.{occurrences_of, takes_last}
use Rattle.hx_expr.specs.Values.{value_after}
use Rattle.hx_expr.proofs.ValueLemmas.{none_after, end_mapped}
use Rattle.hx_expr.proofs.laws.value_is_that_of_one_occurrence.Goals as goal

pub returns : goal.returns
returns c = λ context heads lists.
    end_mapped (value_after context heads lists c.args.expr.now.convs) (none_after context heads lists c.args.expr.now.convs) (takes_last c.args.expr.now.fetch) (occurrences_of c.args.expr.now.fetch context)
