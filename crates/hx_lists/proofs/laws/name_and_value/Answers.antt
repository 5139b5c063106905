use Rattle.std.proofs.Common.{◌==◌}
use Rattle.hx_lists.proofs.CutLemmas.{around_first, before_first-lacks}
use Rattle.hx_lists.proofs.laws.name_and_value.Goals as goal

pub returns-clause-whole : goal.returns-clause-whole
returns-clause-whole c = λ named. around_first 61 c.args.piece.now named

pub returns-clause-first : goal.returns-clause-first
returns-clause-first c = before_first-lacks (λ b. b == 61) c.args.piece.now
