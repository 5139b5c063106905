use Rattle.std.proofs.Common.{[], map, sym, ap, ◌∙◌}
use Rattle.std.specs.List.{after_first}
use Rattle.std.specs.Option.{option_copied, option_map_or}
use Rattle.memchr.specs.Find.{is_byte3}
use Rattle.hx_lists.specs.NamedValues.{named_values, is_named, trimmed_pair, value_named}
use Rattle.hx_lists.proofs.NameLemmas.{left_after}
use Rattle.hx_lists.proofs.pairs.Pairs.next_trimmed.Goals as goal

pub loop-self-preserved : goal.loop-self-preserved
loop-self-preserved c =
    let name = c.args.name.now in
    let known = c.loop-self.invariant in
    let s = c.loop-self.self-inside.separators in
    let test = is_byte3 s.0 s.1 s.2 in
    let step = left_after test name c.in-Some.text.now c.first_piece.result.0.now
    (option_copied c.first_piece.result.1) c.first_piece.ensures.pieces
    (sym c.value_of_piece.ensures ∙ ap option_copied c.in_default-value_of_piece.is) in (
      known.0,
      step.0
          ∙ ap (λ rest. value_named name (map trimmed_pair (option_map_or (named_values test) (option_copied rest) []))) (sym c.in-Some.is)
          ∙ known.1,
      step.1
          ∙ ap (λ rest. after_first (is_named name) (map trimmed_pair (option_map_or (named_values test) (option_copied rest) []))) (sym c.in-Some.is)
          ∙ known.2,
    )
