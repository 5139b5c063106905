use Rattle.hx_config.proofs.notes.push_fate_note.Goals as goal

pub returns-in-Below : goal.returns-in-Below
returns-in-Below c = rw c.in-Below.is (rw c.as_slice-in-Below.ensures.value at c.push_said-in-Below.ensures)
