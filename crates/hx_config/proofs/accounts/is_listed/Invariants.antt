use Rattle.std.proofs.Common.{◌≡◌, length}
use Rattle.hx_base.specs.Bytes.{ascii}
use Rattle.hx_text.specs.Cut.{pieces}
use Rattle.hx_config.specs.Accounts.{is_listed}
use Rattle.hx_config.proofs.accounts.is_listed.Given as goal

abbrev pub invariant-loop-piece : goal.invariant-loop-piece
invariant-loop-piece l = is_listed l.name l.rest ≡ is_listed l.name l.text

abbrev pub decreases-loop-piece : goal.decreases-loop-piece
decreases-loop-piece l = length (pieces (ascii ",") l.rest)
