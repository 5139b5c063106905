use Rattle.hx_cli.proofs.UnseenLineLemmas.{line_kept}
use Rattle.hx_cli.proofs.laws.other_lines_are_answered_alike.Goals as goal

pub returns-clause-reply : goal.returns-clause-reply
returns-clause-reply c = λ r v session text first second payloads others both other.
    (line_kept r v session first second payloads others both text other).reply

pub returns-clause-after : goal.returns-clause-after
returns-clause-after c = λ r v session text first second payloads others both other.
    (line_kept r v session first second payloads others both text other).alike
