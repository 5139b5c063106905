use Rattle.hx_match.proofs.BetweenLemmas.{between_part, part_between}
use Rattle.hx_match.proofs.laws.part_stands_between.Goals as goal

pub returns : goal.returns
returns c = (
  λ is. part_between c.args.key.now c.args.text.now is,
  λ (before, after, e). between_part c.args.key.now before after c.args.text.now e,
)
