use Rattle.hx_sample.specs.Keys.{parts_domain, parts_path}
use Rattle.hx_match.proofs.BetweenLemmas.{between_delimited, delimited_between}
use Rattle.hx_match.proofs.laws.component_stands_between_delimiters.Goals as goal

pub returns-clause-path : goal.returns-clause-path
returns-clause-path c = (
  λ is. delimited_between parts_path c.args.part.now c.args.text.now is,
  λ (before, after, e, closed, ended). between_delimited parts_path c.args.part.now before after c.args.text.now e closed ended,
)

pub returns-clause-domain : goal.returns-clause-domain
returns-clause-domain c = (
  λ is. delimited_between parts_domain c.args.part.now c.args.text.now is,
  λ (before, after, e, closed, ended). between_delimited parts_domain c.args.part.now before after c.args.text.now e closed ended,
)
