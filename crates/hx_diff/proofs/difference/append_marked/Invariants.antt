use Rattle.std.proofs.Common.{◌≡◌, ◌++◌, length}
use Rattle.hx_base.specs.Bytes.{ascii}
use Rattle.hx_text.specs.Cut.{pieces}
use Rattle.hx_diff.specs.Difference.{marked}
use Rattle.hx_diff.proofs.difference.append_marked.Given as goal

abbrev pub invariant-lines : goal.invariant-lines
invariant-lines l = l.text.items ++ marked l.mark l.answer ≡ l.fn.text.items ++ marked l.mark l.fn.answer

abbrev pub decreases-lines : goal.decreases-lines
decreases-lines l = length (pieces (ascii "\n") l.answer)
