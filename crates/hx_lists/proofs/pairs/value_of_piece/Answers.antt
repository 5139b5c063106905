use Rattle.std.proofs.Common.{nat_eq, sym, ap, ◌∙◌}
use Rattle.std.specs.List.{starts_with}
use Rattle.hx_lists.proofs.NameLemmas.{value_of_piece-begins}
use Rattle.hx_lists.proofs.pairs.value_of_piece.Goals as goal

pub returns-then-not-starts_with : goal.returns-then-not-starts_with
returns-then-not-starts_with c =
    let name = c.args.name.now in
    value_of_piece-begins name c.args.piece.now
    (ap (λ text. starts_with nat_eq text name) (sym c.without_first_blanks.ensures)
    ∙ sym c.starts_with.ensures.value
    ∙ c.if-not-starts_with.true)
