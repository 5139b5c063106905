use Rattle.std.proofs.Common.{arith, map}
use Rattle.hx_calls.specs.KnownView.{form_of}
use Rattle.hx_calls.proofs.TableSpecLemmas.{note_next}
use Rattle.hx_calls.proofs.table_specs.note_uses.Goals as goal

pub loop-place-preserved : goal.loop-place-preserved
loop-place-preserved c =
    note_next c.args.acls.now c.args.named.now c.args.outputs.now (map form_of c.args.specs.now) c.loop-place.place
    c.loop-place.specs c.note_use.new.spec c.index-specs-place.result
    (omega (arith, c.loop-place-test.true, c.loop-place.auto.specs)) c.note_use.ensures
    c.loop-place.invariant
