use Rattle.hx_core.proofs.UnseenRequestLemmas.{kept_alike}
use Rattle.hx_core.proofs.laws.other_events_are_answered_alike.Goals as goal

pub returns-clause-refusal : goal.returns-clause-refusal
returns-clause-refusal c = λ r v first second event both kept. (kept_alike r v first second event both kept).refusal

pub returns-clause-answer : goal.returns-clause-answer
returns-clause-answer c = λ r v first second event both kept. (kept_alike r v first second event both kept).answer

pub returns-clause-after : goal.returns-clause-after
returns-clause-after c = λ r v first second event both kept. (kept_alike r v first second event both kept).alike
