use Rattle.hx_cli.proofs.UnseenLineLemmas.{line_hidden}
use Rattle.hx_cli.proofs.laws.lines_on_a_version_change_that_version_alone.Goals as goal

pub returns : goal.returns
returns c = λ r v session text first second payloads others both here undone.
    line_hidden r v session first second payloads others both text here undone
