use Rattle.hx_base.specs.Pairs.{pairs_of}
use Rattle.hx_words.proofs.LineLemmas.{words_are_runs}
use Rattle.hx_words.proofs.laws.line_law.Goals as goal

pub returns-clause-words : goal.returns-clause-words
returns-clause-words c =
    λ words is. words_are_runs (pairs_of c.args.env.now) c.args.line.now words is
