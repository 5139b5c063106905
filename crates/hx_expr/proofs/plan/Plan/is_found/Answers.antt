use Rattle.std.proofs.Common.{◌∙◌, sym, arith}
use Rattle.std.proofs.lemmas.List.{nil_from_length}
use Rattle.hx_fetch.specs.World.{context_of}
use Rattle.hx_expr.proofs.ValueLemmas.{found_unconverted}
use Rattle.hx_expr.proofs.plan.Plan.is_found.Goals as goal

pub returns-in-empty : goal.returns-in-empty
returns-in-empty c = λ heads lists.
    let none = nil_from_length c.as_slice.result.now (omega (arith, c.in-empty.len_below)) in
    rw (← c.self.view_is)
    (c.is_found.ensures
    ∙ found_unconverted (context_of c.args.world.now) heads lists
    (record { fetch = c.self.inside.fetch; convs = c.self.inside.convs })
    (sym c.as_slice.ensures ∙ none))
