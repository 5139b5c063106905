use Rattle.std.proofs.Common.{map}
use Rattle.hx_calls.specs.KnownView.{form_of}
use Rattle.hx_calls.proofs.TableSpecLemmas.{Noted}
use Rattle.hx_calls.proofs.table_specs.note_uses.Given as goal

abbrev pub invariant-loop-place : goal.invariant-loop-place
invariant-loop-place l =
    Noted l.acls l.named l.outputs (map form_of l.fn.specs) l.place l.specs
