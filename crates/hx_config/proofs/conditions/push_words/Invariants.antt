use Rattle.std.proofs.Common.{◌≡◌, ◌++◌, length}
use Rattle.hx_config.specs.ConditionView.{state_of}
use Rattle.hx_config.specs.Conditions.{words_said}
use Rattle.hx_config.specs.FormatView.{known_view}
use Rattle.hx_config.proofs.conditions.push_words.Given as goal

abbrev pub invariant-loop-rest : goal.invariant-loop-rest
invariant-loop-rest l =
    l.out.items ++ words_said (known_view l.known) (state_of l.state) l.rest
    ≡ l.fn.out.items ++ words_said (known_view l.known) (state_of l.fn.first) l.words

abbrev pub decreases-loop-rest : goal.decreases-loop-rest
decreases-loop-rest l = length l.rest
