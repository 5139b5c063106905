use Rattle.std.proofs.Common.{◌∷◌, ◌+◌, take, ap, sym, ◌∙◌}
use Rattle.std.specs.List.{slice_split}
use Rattle.std.proofs.lemmas.List.{take_rest}
use Rattle.memchr.specs.Find.{is_byte3}
use Rattle.hx_lists.proofs.CutLemmas.{slice_split-at, slice_split-none}
use Rattle.hx_lists.proofs.pairs.first_piece.Goals as goal

pub returns-in-Some-clause-pieces : goal.returns-in-Some-clause-pieces
returns-in-Some-clause-pieces c =
    let test = is_byte3 c.args.separators.0 c.args.separators.1 c.args.separators.2 in
    slice_split-at test c.args.text.now c.in-Some.at c.in-Some.ensures
    ∙ ap (λ rest. take c.in-Some.at c.args.text.now ∷ slice_split test rest)
    (sym (take_rest c.args.text.now (c.in-Some.at + 1)))

pub returns-in-None-clause-pieces : goal.returns-in-None-clause-pieces
returns-in-None-clause-pieces c =
    slice_split-none (is_byte3 c.args.separators.0 c.args.separators.1 c.args.separators.2) c.args.text.now c.in-None.ensures
