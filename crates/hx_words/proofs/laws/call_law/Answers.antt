use Rattle.hx_words.proofs.SpelledCallLemmas.{calls_spelled, last_spelled, more_spelled}
use Rattle.hx_words.proofs.OneSpellingLemmas.{calls_only, last_only, more_only}
use Rattle.hx_words.proofs.laws.call_law.Goals as goal

pub returns-clause-calls : goal.returns-clause-calls
returns-clause-calls c = λ list.
    (calls_spelled c.args.stop c.args.text.now list, calls_only c.args.stop c.args.text.now list)

pub returns-clause-last : goal.returns-clause-last
returns-clause-last c = λ call rest. (
  last_spelled c.args.stop c.args.text.now call rest,
  last_only c.args.stop c.args.text.now call rest,
)

pub returns-clause-more : goal.returns-clause-more
returns-clause-more c = λ call rest. (
  more_spelled c.args.stop c.args.text.now call rest,
  more_only c.args.stop c.args.text.now call rest,
)
