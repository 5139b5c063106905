use Rattle.std.proofs.Common.{None, Some}
use Rattle.hx_calls.proofs.CriterionTableLemmas.{map_found}
use Rattle.hx_calls.proofs.criteria.map_way.Goals as goal

pub returns-in-None : goal.returns-in-None
returns-in-None c = map_found c.args.name.now None c.in-None.ensures

pub returns-in-Some : goal.returns-in-Some
returns-in-Some c =
    map_found c.args.name.now (Some (c.in-Some.by, c.in-Some.out)) c.in-Some.ensures
