use Rattle.hx_match.proofs.parsing.parse.Goals as goal
use Rattle.hx_match.proofs.parsing.parse.Goals.{in-Reg+in_ok-made_regex-in-Reg, in_default+in_ok-form-in_default}

pub returns-in-Ok-clause-read : goal.returns-in-Ok-clause-read
returns-in-Ok-clause-read g c =
    elim c.match-by.branch [
      | in-Reg+in_ok-made_regex-in-Reg w ↦ rw w.in-Reg.is w.in_ok-made_regex-in-Reg.ensures.none
      | in_default+in_ok-form-in_default w ↦ w.in_ok-form-in_default.ensures.none
    ]
